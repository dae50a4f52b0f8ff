-- The children's CPUs come first, and the control is last.
use Rattle.std.proofs.Common.{◌++◌, [], cond, sym, ◌∙◌}
use Rattle.cg_model.specs.Control.{control_change, emptied, loses_cpuset}
use Rattle.cg_model.specs.Derived.{children}
use Rattle.cg_command.proofs.Emptying.{emptied_then}
use Rattle.cg_command.proofs.subtree.changes_of.Goals as goal

pub returns : goal.returns
returns c =
    let all = children c.args.tree.now.tree c.args.path.now in
    let added = c.in_ok-add_emptied.ensures ∙ (λ i. c.new-inverse.ensures i ++ emptied (cond (c.loses_cpuset.ensures i) all []) []) in
    c.in_ok-push.ensures.ok
    ∙ (λ i. added i ++ control_change (c.in_ok-copy.ensures.value i) c.args.before c.args.left)
    ∙ sym (emptied_then (cond (loses_cpuset c.args.before c.args.left) all []) (control_change c.args.path.now c.args.before c.args.left))
