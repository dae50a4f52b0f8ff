use Rattle.cg_model.specs.Control.{used_below}
use Rattle.cg_model.specs.Derived.{children}
use Rattle.cg_command.proofs.Disabling.{disables_none}
use Rattle.cg_command.proofs.checks.used_by_children.Goals as goal

pub returns-then-is_empty : goal.returns-then-is_empty
returns-then-is_empty c = λ s. disables_none s c.args.ops c.empty.result (used_below (children c.args.tree.now.tree c.args.path.now)) (c.is_empty.ensures.0 c.if-is_empty.true)
