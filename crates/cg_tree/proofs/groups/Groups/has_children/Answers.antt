-- A list is empty where it has no length.
use Rattle.std.proofs.Common.{◌≡◌, ◌==◌, Some, None, not, is_some, nat_lt, ap, sym, ◌∙◌}
use Rattle.cg_maps.specs.FiniteMap.{entries, get, is_nonempty, retain}
use Rattle.cg_name.specs.Path.{is_parent}
use Rattle.cg_tree.specs.Contents.{Contents}
use Rattle.cg_tree.specs.Entries.{groups_in}
use Rattle.cg_tree.specs.Present.{present}
use Rattle.cg_tree.proofs.NodeLists.{nonempty_by_len, positive}
use Rattle.cg_tree.proofs.Putting.{none_counted_right_below}
use Rattle.cg_tree.proofs.groups.Groups.has_children.Goals as goal

pub returns-in-Some : goal.returns-in-Some
returns-in-Some c =
    let p = c.args.path.now in
    let there : Some c.in-Some.entry.now ≡ get c.self.inside.nodes.values p = c.in-Some.ensures in
    let counted = c.self.invariant.counted p c.in-Some.entry.now (sym there) in
    ap (nat_lt 0) counted.groups.right_below
    ∙ positive _
    ∙ sym (nonempty_by_len (retain (present (groups_in c.self.inside.nodes.values)) (is_parent p)))
    ∙ ap (λ g. is_nonempty (entries (retain (present g) (is_parent p)))) (ap (λ (v : Contents). v.groups) c.self.view_is)

pub returns-in-None : goal.returns-in-None
returns-in-None c =
    let p = c.args.path.now in
    let none : None ≡ get c.self.inside.nodes.values p = c.in-None.ensures in
    let zero = none_counted_right_below c.self.inside.nodes c.laws.ensures.closed c.laws.ensures.both p (sym (c.laws.ensures.both p) ∙ ap is_some (sym none)) in
    sym (ap (λ k. not (k == 0)) zero)
    ∙ sym (nonempty_by_len (retain (present (groups_in c.self.inside.nodes.values)) (is_parent p)))
    ∙ ap (λ g. is_nonempty (entries (retain (present g) (is_parent p)))) (ap (λ (v : Contents). v.groups) c.self.view_is)
