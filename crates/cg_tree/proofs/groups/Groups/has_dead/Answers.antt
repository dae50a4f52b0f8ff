-- There are as many entries as groups below the root, and one.
use Rattle.std.proofs.Common.{◌≡◌, ◌+◌, [], Bool, true, false, not, Some, option_map, refl, sym, ap, subst, ◌∙◌, true≢false}
use Rattle.std.proofs.lemmas.Bool.{eqb-true}
use Rattle.cg_maps.specs.FiniteMap.{get, len}
use Rattle.cg_name.specs.Path.{is_above}
use Rattle.cg_tree.specs.Alive.{HaveSettings}
use Rattle.cg_tree.specs.Contents.{Contents}
use Rattle.cg_tree.specs.Entries.{group_count, groups_in, settings_of}
use Rattle.cg_tree.proofs.Alive.{none_is_dead}
use Rattle.cg_tree.proofs.Putting.{as_many}
use Rattle.cg_tree.proofs.Seeing.{get-seen, len-seen}
use Rattle.cg_tree.proofs.groups.Groups.has_dead.Goals as goal

so_then : (b : Bool) → not b ≡ false → b ≡ true
so_then true h = refl
so_then false h = absurd (true≢false h)

pub returns-else-is_none : goal.returns-else-is_none
returns-else-is_none c alike =
    let nodes = c.self.inside.nodes in
    let e = c.in-Some.root.now in
    let at : get nodes.values [] ≡ Some e = sym c.in-Some.ensures in
    let below : e.below ≡ group_count (groups_in nodes.values) (is_above []) = (c.self.invariant.counted [] e at).groups.below in
    let many : len (groups_in nodes.values) ≡ len nodes.keys = len-seen settings_of nodes.values ∙ as_many nodes c.laws.ensures.both in
    let same : c.len.result ≡ e.below + 1 = eqb-true c.len.result (e.below + 1) (so_then _ alike) in
    let root : get (groups_in nodes.values) [] ≡ Some e.settings = get-seen settings_of nodes.values [] ∙ ap (option_map settings_of) at in
    subst HaveSettings (ap (λ (v : Contents). v.groups) c.self.view_is)
    (none_is_dead (groups_in nodes.values) e.settings root c.if-is_none.ensures (many ∙ sym c.len.ensures.value ∙ same ∙ ap (λ n. n + 1) below))
