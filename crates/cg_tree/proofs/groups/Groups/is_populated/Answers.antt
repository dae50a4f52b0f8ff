-- The count is above 0 where some process is counted.
use Rattle.std.proofs.Common.{◌≡◌, Some, None, is_some, nat_lt, ap, sym, ◌∙◌}
use Rattle.cg_maps.specs.FiniteMap.{get, is_nonempty, keys, retain}
use Rattle.cg_model.specs.Derived.{is_in_subtree}
use Rattle.cg_tree.specs.Contents.{places_in, Contents}
use Rattle.cg_tree.specs.Entries.{held_in}
use Rattle.cg_tree.proofs.Holding.{have_counts, held_there, nobody_below, some_below}
use Rattle.cg_tree.proofs.Populated.{told_exactly}
use Rattle.cg_tree.proofs.Rooms.{none_there}
use Rattle.cg_tree.proofs.groups.Groups.is_populated.Goals as goal

pub returns-in-Some : goal.returns-in-Some
returns-in-Some c =
    let p = c.args.path.now in
    let there : Some c.in-Some.entry.now ≡ get c.self.inside.nodes.values p = c.in-Some.ensures in
    let places = places_in c.self.inside.nodes.keys c.self.inside.places.places in
    let counts = have_counts c.self.inside.nodes c.laws.ensures.closed c.laws.ensures.one_path c.laws.ensures.both c.self.inside.places.places c.self.invariant.placed in
    ap (nat_lt 0) (c.self.invariant.held p c.in-Some.entry.now.populated_by (held_there c.self.inside.nodes.values p c.in-Some.entry.now (sym there)))
    ∙ told_exactly (held_in c.self.inside.nodes.values) places counts p
    ∙ some_below places p
    ∙ ap (λ (v : Contents). is_nonempty (keys (retain v.places (λ k. is_in_subtree p (get v.places k))))) c.self.view_is

pub returns-in-None : goal.returns-in-None
returns-in-None c =
    let p = c.args.path.now in
    let none : None ≡ get c.self.inside.nodes.values p = c.in-None.ensures in
    sym (ap (nat_lt 0) (nobody_below c.self.inside.nodes.keys c.laws.ensures.closed c.laws.ensures.one_path c.self.inside.places.places c.self.invariant.placed p (none_there _ (sym (c.laws.ensures.both p) ∙ ap is_some (sym none)))))
    ∙ some_below (places_in c.self.inside.nodes.keys c.self.inside.places.places) p
    ∙ ap (λ (v : Contents). is_nonempty (keys (retain v.places (λ k. is_in_subtree p (get v.places k))))) c.self.view_is
