-- The changes make what an accepted write does.
use Rattle.std.proofs.Common.{sym, ap, subst, ◌∙◌}
use Rattle.cg_model.specs.Change.{done}
use Rattle.cg_model.specs.Control.{controlled, planned}
use Rattle.cg_model.specs.Derived.{children}
use Rattle.cg_model.specs.System.{Accept, Done}
use Rattle.cg_command.specs.Subtree.{LeaveNoCpus}
use Rattle.cg_command.proofs.Emptying.{AreParts, controlled_leave, controlled_parts, parts_have_room, parts_need_none, subtree_does}
use Rattle.cg_command.proofs.subtree.subtree.Goals as goal

pub put_all-requires : goal.put_all-requires
put_all-requires c =
    let all = children c.args.tree.now.tree c.args.path.now in
    let made = sym (c.changes.ensures ∙ c.in_ok-inverse.ensures) in
    record {
      no_entry = parts_need_none _ (subst AreParts made (controlled_parts c.args.path.now c.control-before.result c.planned-left.result all));
      no_cpus = subst LeaveNoCpus made (controlled_leave c.args.path.now c.control-before.result c.planned-left.result all);
    }

pub returns : goal.returns
returns c =
    let all = children c.args.tree.now.tree c.args.path.now in
    record {
      ok = record {
        effect =
            subtree_does c.args.tree.now.tree c.args.path.now c.args.ops c.in-Some.settings.now (sym c.in-Some.ensures) c.requires
            ∙ ap (λ s. Accept Done (controlled c.args.path.now s (planned s c.args.ops) all)) (sym c.control-before.ensures)
            ∙ ap (λ t. Accept Done (controlled c.args.path.now c.control-before.result t all)) (sym c.planned-left.ensures)
            ∙ ap (Accept Done) (sym c.in_ok-inverse.ensures);
        tree = c.put_all.ensures.tree ∙ ap (λ cs. done cs c.args.tree.now.tree) c.changes.ensures;
        room =
            let parts = controlled_parts c.args.path.now c.control-before.result c.planned-left.result all in
            parts_have_room _ c.in_ok-inverse.inverse (subst AreParts (sym c.in_ok-inverse.ensures) parts);
        entries = c.put_all.ensures.entries;
      };
      err = tt;
    }
