use Rattle.std.proofs.Common.{take, ap, ◌∙◌}
use Rattle.std.proofs.lemmas.List.{take-take}
use Rattle.cg_name.proofs.path_text.PathText.short.Goals as goal

pub returns : goal.returns
returns c = ap (take c.args.len) c.in-Some.ensures.cases.same ∙ take-take c.args.len 12 c.args.bytes.now c.requires.few
