use Rattle.std.proofs.Common.{sym, ◌∙◌}
use Rattle.std.specs.Cmp.Lexicographic.{pointwise_decides, bytes_decides}
use Rattle.cg_name.proofs.path.Path.is_same.Goals as goal

pub returns-in-None : goal.returns-in-None
returns-in-None c h = (pointwise_decides bytes_decides c.args.self.now c.args.other.now).0 (sym c.eq.ensures ∙ h)
