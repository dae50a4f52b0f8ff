use Rattle.cg_core_laws.proofs.ControlGroups.ShownTexts as shown
use Rattle.cg_core_laws.proofs.texts_are_ascii.Goals as goal

pub returns : goal.returns
returns c = shown.texts_are_ascii
