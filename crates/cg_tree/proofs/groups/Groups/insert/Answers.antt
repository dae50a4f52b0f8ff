-- A dead entry is made, and then holds the settings; or it is taken out again.
use Rattle.std.proofs.Common.{◌≡◌, Some, None, sym, ap, subst, refl, ◌∙◌}
use Rattle.std.specs.Option.{option_flatten}
use Rattle.std.proofs.lemmas.Option.{none-some}
use Rattle.cg_maps.specs.FiniteMap.{get, set_at}
use Rattle.cg_maps.proofs.Maps.{get_here, set_same, set_set}
use Rattle.cg_name.specs.Order.{path_cmp_total, path_cmp_exact}
use Rattle.cg_name.specs.Path.{is_parent}
use Rattle.cg_tree.specs.Contents.{places_in, Contents, AreAtNodes, AreHeld, AreKept, HaveNumbers}
use Rattle.cg_tree.specs.Entries.{groups_in, held_in, AreCounted}
use Rattle.cg_tree.proofs.Climbing.{at_path}
use Rattle.cg_tree.proofs.Holding.{held_with, held_without, held_written, nobody_below}
use Rattle.cg_tree.proofs.Numbering.{made_here, more_numbers, numbers_with_more, places_kept, stay_with_more, still_placed}
use Rattle.cg_tree.proofs.Putting.{counted_kept, groups_written, leaf_made, no_node, node_there}
use Rattle.cg_tree.proofs.groups.Groups.insert.Goals as goal
use Rattle.cg_tree.proofs.groups.Groups.insert.Goals.{After-drop-remove, In-Ok}

pub add_dead-requires-clause-absent : goal.add_dead-requires-clause-absent
add_dead-requires-clause-absent c = no_node c.self.inside.nodes c.laws.ensures.both c.args.self.now.groups (ap (λ (v : Contents). v.groups) c.self.view_is) c.args.path.now c.requires.absent

pub add_dead-requires-clause-parent : goal.add_dead-requires-clause-parent
add_dead-requires-clause-parent c deep = node_there c.self.inside.nodes c.laws.ensures.both c.args.self.now.groups (ap (λ (v : Contents). v.groups) c.self.view_is) _ ∙ c.requires.parent deep

-- ---- it is taken out again

pub remove-requires-clause-there : goal.remove-requires-clause-there
remove-requires-clause-there c =
    let absent : get c.self.inside.nodes.keys c.args.path.now ≡ None = no_node c.self.inside.nodes c.laws.ensures.both c.args.self.now.groups (ap (λ (v : Contents). v.groups) c.self.view_is) c.args.path.now c.requires.absent in
    let made : get c.add_dead.new.nodes.keys c.args.path.now ≡ Some c.in_ok-key.key = made_here c.self.inside.nodes.keys c.add_dead.new.nodes.keys c.args.path.now c.in_ok-key.key absent c.in_ok-key.ensures.keys in
    (c.args.path.now, made)

pub remove-requires-clause-leaf : goal.remove-requires-clause-leaf
remove-requires-clause-leaf c p h q below =
    let absent : get c.self.inside.nodes.keys c.args.path.now ≡ None = no_node c.self.inside.nodes c.laws.ensures.both c.args.self.now.groups (ap (λ (v : Contents). v.groups) c.self.view_is) c.args.path.now c.requires.absent in
    let made : get c.add_dead.new.nodes.keys c.args.path.now ≡ Some c.in_ok-key.key = made_here c.self.inside.nodes.keys c.add_dead.new.nodes.keys c.args.path.now c.in_ok-key.key absent c.in_ok-key.ensures.keys in
    let place = c.laws-2.ensures.one_path p c.args.path.now c.in_ok-key.key h made in
    leaf_made c.self.inside.nodes.keys c.add_dead.new.nodes.keys c.laws.ensures.closed c.args.path.now c.in_ok-key.key absent c.in_ok-key.ensures.keys q (ap (λ r. is_parent r q) (sym place) ∙ below)

-- all nodes are as they were
same_keys : (c : After-drop-remove) → c.remove.new.self.keys ≡ c.self.inside.nodes.keys
same_keys c =
    let absent : get c.self.inside.nodes.keys c.args.path.now ≡ None = no_node c.self.inside.nodes c.laws.ensures.both c.args.self.now.groups (ap (λ (v : Contents). v.groups) c.self.view_is) c.args.path.now c.requires.absent in
    let made : get c.add_dead.new.nodes.keys c.args.path.now ≡ Some c.in_ok-key.key = made_here c.self.inside.nodes.keys c.add_dead.new.nodes.keys c.args.path.now c.in_ok-key.key absent c.in_ok-key.ensures.keys in
    c.remove.ensures.keys c.args.path.now made
    ∙ ap (λ m. set_at m c.args.path.now None) c.in_ok-key.ensures.keys
    ∙ set_set path_cmp_total path_cmp_exact c.self.inside.nodes.keys c.args.path.now (Some c.in_ok-key.key) None
    ∙ ap (set_at c.self.inside.nodes.keys c.args.path.now) (sym absent)
    ∙ set_same path_cmp_total path_cmp_exact c.self.inside.nodes.keys c.args.path.now

same_groups : (c : After-drop-remove) → groups_in c.remove.new.self.values ≡ c.args.self.now.groups
same_groups c =
    let absent : get c.self.inside.nodes.keys c.args.path.now ≡ None = no_node c.self.inside.nodes c.laws.ensures.both c.args.self.now.groups (ap (λ (v : Contents). v.groups) c.self.view_is) c.args.path.now c.requires.absent in
    let made : get c.add_dead.new.nodes.keys c.args.path.now ≡ Some c.in_ok-key.key = made_here c.self.inside.nodes.keys c.add_dead.new.nodes.keys c.args.path.now c.in_ok-key.key absent c.in_ok-key.ensures.keys in
    ap groups_in (c.remove.ensures.values c.args.path.now made)
    ∙ groups_written c.add_dead.new.nodes.values c.args.path.now None
    ∙ ap (λ m. set_at m c.args.path.now None) c.in_ok-key.ensures.groups
    ∙ set_set path_cmp_total path_cmp_exact (groups_in c.self.inside.nodes.values) c.args.path.now (Some None) None
    ∙ ap (λ (v : Contents). set_at v.groups c.args.path.now None) c.self.view_is
    ∙ ap (set_at c.args.self.now.groups c.args.path.now) (sym c.requires.absent)
    ∙ set_same path_cmp_total path_cmp_exact c.args.self.now.groups c.args.path.now

same_places : (c : After-drop-remove) → places_in c.remove.new.self.keys c.make_room.new.places.places ≡ c.args.self.now.places
same_places c = (λ i. places_in (same_keys c i) (c.make_room.ensures.places i)) ∙ ap (λ (v : Contents). v.places) c.self.view_is

pub invariant_of-self-in_default : goal.invariant_of-self-in_default
invariant_of-self-in_default c =
    let absent : get c.self.inside.nodes.keys c.args.path.now ≡ None = no_node c.self.inside.nodes c.laws.ensures.both c.args.self.now.groups (ap (λ (v : Contents). v.groups) c.self.view_is) c.args.path.now c.requires.absent in
    let made : get c.add_dead.new.nodes.keys c.args.path.now ≡ Some c.in_ok-key.key = made_here c.self.inside.nodes.keys c.add_dead.new.nodes.keys c.args.path.now c.in_ok-key.key absent c.in_ok-key.ensures.keys in
    record {
      counted =
          subst AreCounted (sym (c.remove.ensures.values c.args.path.now made))
          (counted_kept c.add_dead.new.nodes.values c.args.path.now None c.add_dead.ensures.counted
          (ap (λ m. option_flatten (get m c.args.path.now)) c.in_ok-key.ensures.groups ∙ ap option_flatten (get_here path_cmp_total path_cmp_exact (groups_in c.self.inside.nodes.values) c.args.path.now (Some None)))
          refl (λ x e. absurd (none-some x e)));
      held =
          subst (λ h. AreHeld h (places_in c.remove.new.self.keys c.make_room.new.places.places)) (sym (ap held_in (c.remove.ensures.values c.args.path.now made) ∙ held_written c.add_dead.new.nodes.values c.args.path.now None ∙ ap (λ h. set_at h c.args.path.now None) c.in_ok-key.ensures.held))
          (subst (λ ps. AreHeld (set_at (set_at (held_in c.self.inside.nodes.values) c.args.path.now (Some 0)) c.args.path.now None) ps) (sym (λ i. places_in (same_keys (goal.at.invariant_of-self-in_default c).After-drop-remove i) (c.make_room.ensures.places i)))
          (held_without (set_at (held_in c.self.inside.nodes.values) c.args.path.now (Some 0)) (places_in c.self.inside.nodes.keys c.self.inside.places.places) c.args.path.now
          (nobody_below c.self.inside.nodes.keys c.laws.ensures.closed c.laws.ensures.one_path c.self.inside.places.places c.self.invariant.placed c.args.path.now absent)
          (held_with (held_in c.self.inside.nodes.values) (places_in c.self.inside.nodes.keys c.self.inside.places.places) c.args.path.now
          (nobody_below c.self.inside.nodes.keys c.laws.ensures.closed c.laws.ensures.one_path c.self.inside.places.places c.self.invariant.placed c.args.path.now absent) c.self.invariant.held)));
      placed = subst (λ m. AreAtNodes c.remove.new.self.keys m) (sym c.make_room.ensures.places) (subst (λ ks. AreAtNodes ks c.self.inside.places.places) (sym (same_keys (goal.at.invariant_of-self-in_default c).After-drop-remove)) c.self.invariant.placed);
      numbers = more_numbers c.remove.new.self.keys c.self.inside.places.groups c.make_room.new.places.groups c.make_room.ensures.more (subst (λ ks. HaveNumbers ks c.self.inside.places.groups) (sym (same_keys (goal.at.invariant_of-self-in_default c).After-drop-remove)) c.self.invariant.numbers);
    }

pub returns-in_default-clause-places : goal.returns-in_default-clause-places
returns-in_default-clause-places c = same_places (goal.at.returns-in_default-clause-places c).After-drop-remove

pub returns-in_default-clause-err : goal.returns-in_default-clause-err
returns-in_default-clause-err c =
    let at = (goal.at.returns-in_default-clause-err c).After-drop-remove in
    λ i. record { groups = same_groups at i; places = same_places at i }

-- ---- it stays

places_with_more : (c : In-Ok) → places_in c.add_dead.new.nodes.keys c.make_room.new.places.places ≡ places_in c.self.inside.nodes.keys c.self.inside.places.places
places_with_more c =
    let absent : get c.self.inside.nodes.keys c.args.path.now ≡ None = no_node c.self.inside.nodes c.laws.ensures.both c.args.self.now.groups (ap (λ (v : Contents). v.groups) c.self.view_is) c.args.path.now c.requires.absent in
    let stays = stay_with_more c.self.inside.nodes.keys c.add_dead.new.nodes.keys c.args.path.now c.in_ok-key.key absent c.in_ok-key.ensures.keys in
    ap (places_in c.add_dead.new.nodes.keys) c.make_room.ensures.places
    ∙ places_kept c.self.inside.nodes.keys c.add_dead.new.nodes.keys c.laws.ensures.one_path c.laws-2.ensures.one_path c.self.inside.places.places c.self.invariant.placed (λ q pid n h own. stays q _ own)

kept_with_more : (c : In-Ok) → AreKept c.add_dead.new.nodes c.make_room.new.places
kept_with_more c =
    let absent : get c.self.inside.nodes.keys c.args.path.now ≡ None = no_node c.self.inside.nodes c.laws.ensures.both c.args.self.now.groups (ap (λ (v : Contents). v.groups) c.self.view_is) c.args.path.now c.requires.absent in
    let stays = stay_with_more c.self.inside.nodes.keys c.add_dead.new.nodes.keys c.args.path.now c.in_ok-key.key absent c.in_ok-key.ensures.keys in
    record {
      counted = c.add_dead.ensures.counted;
      held =
          subst (λ h. AreHeld h (places_in c.add_dead.new.nodes.keys c.make_room.new.places.places)) (sym c.in_ok-key.ensures.held)
          (subst (AreHeld (set_at (held_in c.self.inside.nodes.values) c.args.path.now (Some 0))) (sym (places_with_more c))
          (held_with (held_in c.self.inside.nodes.values) (places_in c.self.inside.nodes.keys c.self.inside.places.places) c.args.path.now
          (nobody_below c.self.inside.nodes.keys c.laws.ensures.closed c.laws.ensures.one_path c.self.inside.places.places c.self.invariant.placed c.args.path.now absent) c.self.invariant.held));
      placed =
          subst (AreAtNodes c.add_dead.new.nodes.keys) (sym c.make_room.ensures.places)
          (still_placed c.self.inside.nodes.keys c.add_dead.new.nodes.keys c.laws.ensures.one_path c.laws-2.ensures.one_path c.self.inside.places.places c.self.invariant.placed (λ q pid n h own. stays q _ own));
      numbers = numbers_with_more c.self.inside.nodes.keys c.add_dead.new.nodes.keys c.args.path.now c.in_ok-key.key absent c.in_ok-key.ensures.keys c.self.inside.places.groups c.make_room.new.places.groups c.self.invariant.numbers c.make_room.ensures.more c.in-Ok.ensures.room;
    }

made_dead : (c : In-Ok) → groups_in c.add_dead.new.nodes.values ≡ set_at c.args.self.now.groups c.args.path.now (Some None)
made_dead c = c.in_ok-key.ensures.groups ∙ ap (λ (v : Contents). set_at v.groups c.args.path.now (Some None)) c.self.view_is

-- ---- it holds the settings

pub put-requires-clause-key : goal.put-requires-clause-key
put-requires-clause-key c =
    let absent : get c.self.inside.nodes.keys c.args.path.now ≡ None = no_node c.self.inside.nodes c.laws.ensures.both c.args.self.now.groups (ap (λ (v : Contents). v.groups) c.self.view_is) c.args.path.now c.requires.absent in
    let made : get c.add_dead.new.nodes.keys c.args.path.now ≡ Some c.in_ok-key.key = made_here c.self.inside.nodes.keys c.add_dead.new.nodes.keys c.args.path.now c.in_ok-key.key absent c.in_ok-key.ensures.keys in
    (c.args.path.now, made)

pub invariant_of-self-2 : goal.invariant_of-self-2
invariant_of-self-2 c =
    let kept = kept_with_more (goal.at.invariant_of-self-2 c).In-Ok in
    record {
      counted = c.put.ensures.counted;
      held = subst (λ h. AreHeld h (places_in c.put.new.nodes.keys c.make_room.new.places.places)) (sym c.put.ensures.held) (subst (λ ks. AreHeld (held_in c.add_dead.new.nodes.values) (places_in ks c.make_room.new.places.places)) (sym c.put.ensures.keys) kept.held);
      placed = subst (λ ks. AreAtNodes ks c.make_room.new.places.places) (sym c.put.ensures.keys) kept.placed;
      numbers = subst (λ ks. HaveNumbers ks c.make_room.new.places.groups) (sym c.put.ensures.keys) kept.numbers;
    }

pub returns-clause-ok : goal.returns-clause-ok
returns-clause-ok c =
    let absent : get c.self.inside.nodes.keys c.args.path.now ≡ None = no_node c.self.inside.nodes c.laws.ensures.both c.args.self.now.groups (ap (λ (v : Contents). v.groups) c.self.view_is) c.args.path.now c.requires.absent in
    let made : get c.add_dead.new.nodes.keys c.args.path.now ≡ Some c.in_ok-key.key = made_here c.self.inside.nodes.keys c.add_dead.new.nodes.keys c.args.path.now c.in_ok-key.key absent c.in_ok-key.ensures.keys in
    let place = at_path c.add_dead.new.nodes c.in_ok-key.key c.args.path.now c.laws-2.ensures.one_path made in
    c.put.ensures.groups
    ∙ (λ i. set_at (made_dead (goal.at.returns-clause-ok c).In-Ok i) (place i) (Some (Some c.args.settings)))
    ∙ set_set path_cmp_total path_cmp_exact c.args.self.now.groups c.args.path.now (Some None) (Some (Some c.args.settings))

pub returns-clause-places : goal.returns-clause-places
returns-clause-places c =
    ap (λ ks. places_in ks c.make_room.new.places.places) c.put.ensures.keys
    ∙ places_with_more (goal.at.returns-clause-places c).In-Ok
    ∙ ap (λ (v : Contents). v.places) c.self.view_is
