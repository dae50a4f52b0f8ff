use Rattle.std.proofs.Common.{◌∙◌}
use Rattle.cg_model.specs.Control.{plan, used_below}
use Rattle.cg_model.specs.Derived.{children}
use Rattle.cg_command.proofs.Disabling.{plan_by_use}
use Rattle.cg_command.proofs.checks.plan_on.Goals as goal

pub returns : goal.returns
returns c =
    c.plan.ensures
    ∙ plan_by_use c.args.available c.args.current c.args.ops c.used_by_children-used.result (used_below (children c.args.tree.now.tree c.args.path.now)) c.has_processes-has_own.result c.is_root.result (c.used_by_children-used.ensures c.args.current)
    ∙ (λ i. plan c.args.available c.args.current c.args.ops (used_below (children c.args.tree.now.tree c.args.path.now)) (c.has_processes-has_own.ensures i) (c.is_root.ensures i))
