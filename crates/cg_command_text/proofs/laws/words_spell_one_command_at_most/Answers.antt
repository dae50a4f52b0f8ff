use Rattle.cg_command_text.proofs.OneCommand.{one_command}
use Rattle.cg_command_text.proofs.laws.words_spell_one_command_at_most.Goals as goal

pub returns : goal.returns
returns c = one_command
