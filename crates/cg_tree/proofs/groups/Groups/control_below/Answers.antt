-- The entry counts those that pass on each controller.
use Rattle.std.proofs.Common.{◌≡◌, Some, None, is_some, ap, sym, ◌∙◌}
use Rattle.cg_maps.specs.FiniteMap.{entries, get, retain}
use Rattle.cg_model.specs.Control.{used_below}
use Rattle.cg_name.specs.Path.{is_parent}
use Rattle.cg_tree.specs.Contents.{Contents}
use Rattle.cg_tree.specs.Entries.{groups_in}
use Rattle.cg_tree.specs.Present.{present}
use Rattle.cg_tree.proofs.NodeLists.{no_entries}
use Rattle.cg_tree.proofs.PassingOn.{used_by_counts}
use Rattle.cg_tree.proofs.Putting.{none_counted_right_below}
use Rattle.cg_tree.proofs.groups.Groups.control_below.Goals as goal

pub returns-in-Some : goal.returns-in-Some
returns-in-Some c =
    let p = c.args.path.now in
    let there : Some c.in-Some.entry.now ≡ get c.self.inside.nodes.values p = c.in-Some.ensures in
    c.controllers.ensures
    ∙ used_by_counts (groups_in c.self.inside.nodes.values) p c.in-Some.entry.now.passing (c.self.invariant.counted p c.in-Some.entry.now (sym there)).passing
    ∙ ap (λ g. used_below (entries (retain (present g) (is_parent p)))) (ap (λ (v : Contents). v.groups) c.self.view_is)

pub returns-in-None : goal.returns-in-None
returns-in-None c =
    let p = c.args.path.now in
    let none : None ≡ get c.self.inside.nodes.values p = c.in-None.ensures in
    c.empty.ensures
    ∙ ap used_below (sym (no_entries (retain (present (groups_in c.self.inside.nodes.values)) (is_parent p))
    (none_counted_right_below c.self.inside.nodes c.laws.ensures.closed c.laws.ensures.both p (sym (c.laws.ensures.both p) ∙ ap is_some (sym none)))))
    ∙ ap (λ g. used_below (entries (retain (present g) (is_parent p)))) (ap (λ (v : Contents). v.groups) c.self.view_is)
