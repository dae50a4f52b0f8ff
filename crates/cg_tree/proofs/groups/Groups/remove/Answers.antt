-- An entry of no group, with none right below.
use Rattle.std.proofs.Common.{◌≡◌, ℕ, Some, None, IsSome, is_some, ap, sym, subst, refl, ◌∙◌}
use Rattle.std.specs.Option.{option_flatten}
use Rattle.std.proofs.lemmas.Option.{none-some}
use Rattle.cg_maps.specs.FiniteMap.{get, set_at}
use Rattle.cg_maps.proofs.Maps.{get_here, set_same}
use Rattle.cg_name.specs.Order.{path_cmp_total, path_cmp_exact}
use Rattle.cg_name.specs.Path.{Path, is_parent}
use Rattle.cg_tree.specs.Contents.{numbered, places_in, process_count, Contents, AreHeld}
use Rattle.cg_tree.specs.Entries.{groups_in, held_in, AreCounted}
use Rattle.cg_tree.proofs.Holding.{held_without, held_written, nobody_below}
use Rattle.cg_tree.proofs.Numbering.{numbers_with_less, places_kept, stay_with_less, still_placed}
use Rattle.cg_tree.proofs.Putting.{counted_kept, groups_written, no_node, node_there}
use Rattle.cg_tree.proofs.Rooms.{none_there}
use Rattle.cg_tree.proofs.Visiting.{found_again, kept_again, seen_again}
use Rattle.cg_tree.proofs.groups.Groups.remove.Goals as goal
use Rattle.cg_tree.proofs.groups.Groups.remove.Goals.{After-laws-in-Some}

pub remove-requires-clause-leaf : goal.remove-requires-clause-leaf
remove-requires-clause-leaf c p h q below =
    let own : Some c.in-Some.key ≡ get c.visit-found.new.self.keys c.args.path.now = (found_again c.self.inside.nodes c.visit-found.new.self c.args.path.now c.visit-found.result (Some c.in-Some.key) c.visit-found.ensures.same c.visit-found.ensures.found c.in-Some.is) in
    let some : IsSome (get c.args.self.now.groups c.args.path.now) = sym (node_there c.visit-found.new.self c.laws.ensures.both c.args.self.now.groups (ap (λ (v : Contents). v.groups) (seen_again c.self.inside.nodes c.visit-found.new.self c.self.inside.places c.args.self.now c.visit-found.ensures.same c.self.view_is)) c.args.path.now) ∙ ap is_some (sym own) in
    let place = c.laws.ensures.one_path p c.args.path.now c.in-Some.key h (sym own) in
    no_node c.visit-found.new.self c.laws.ensures.both c.args.self.now.groups (ap (λ (v : Contents). v.groups) (seen_again c.self.inside.nodes c.visit-found.new.self c.self.inside.places c.args.self.now c.visit-found.ensures.same c.self.view_is)) q (c.requires.leaf some q (ap (λ r. is_parent r q) (sym place) ∙ below))

dropped : (c : After-laws-in-Some) → c.remove.new.self.keys ≡ set_at c.visit-found.new.self.keys c.args.path.now None
dropped c = c.remove.ensures.keys c.args.path.now (sym (found_again c.self.inside.nodes c.visit-found.new.self c.args.path.now c.visit-found.result (Some c.in-Some.key) c.visit-found.ensures.same c.visit-found.ensures.found c.in-Some.is))

-- no process was in it
stays : (c : After-laws-in-Some) → (q : Path) (pid n : ℕ) → get c.self.inside.places.places pid ≡ Some n → get c.visit-found.new.self.keys q ≡ Some (numbered n) → get c.remove.new.self.keys q ≡ Some (numbered n)
stays c =
    let own : Some c.in-Some.key ≡ get c.visit-found.new.self.keys c.args.path.now = (found_again c.self.inside.nodes c.visit-found.new.self c.args.path.now c.visit-found.result (Some c.in-Some.key) c.visit-found.ensures.same c.visit-found.ensures.found c.in-Some.is) in
    let some : IsSome (get c.args.self.now.groups c.args.path.now) = sym (node_there c.visit-found.new.self c.laws.ensures.both c.args.self.now.groups (ap (λ (v : Contents). v.groups) (seen_again c.self.inside.nodes c.visit-found.new.self c.self.inside.places c.args.self.now c.visit-found.ensures.same c.self.view_is)) c.args.path.now) ∙ ap is_some (sym own) in
    stay_with_less c.visit-found.new.self.keys c.remove.new.self.keys c.laws.ensures.one_path c.args.path.now (dropped c) c.self.inside.places.places
    (λ pid at. c.requires.unused some pid (sym (ap (λ (v : Contents). get v.places pid) (seen_again c.self.inside.nodes c.visit-found.new.self c.self.inside.places c.args.self.now c.visit-found.ensures.same c.self.view_is)) ∙ at))

same_places : (c : After-laws-in-Some) → places_in c.remove.new.self.keys c.self.inside.places.places ≡ places_in c.visit-found.new.self.keys c.self.inside.places.places
same_places c = places_kept c.visit-found.new.self.keys c.remove.new.self.keys c.laws.ensures.one_path c.laws-in-Some.ensures.one_path c.self.inside.places.places (kept_again c.self.inside.nodes c.visit-found.new.self c.self.inside.places c.visit-found.ensures.same c.self.invariant).placed (stays c)

-- nor below it
nobody : (c : After-laws-in-Some) → process_count (places_in c.visit-found.new.self.keys c.self.inside.places.places) c.args.path.now ≡ 0
nobody c =
    ap (λ ps. process_count ps c.args.path.now) (sym (same_places c))
    ∙ nobody_below c.remove.new.self.keys c.laws-in-Some.ensures.closed c.laws-in-Some.ensures.one_path c.self.inside.places.places
    (still_placed c.visit-found.new.self.keys c.remove.new.self.keys c.laws.ensures.one_path c.laws-in-Some.ensures.one_path c.self.inside.places.places (kept_again c.self.inside.nodes c.visit-found.new.self c.self.inside.places c.visit-found.ensures.same c.self.invariant).placed (stays c))
    c.args.path.now (ap (λ ks. get ks c.args.path.now) (dropped c) ∙ get_here path_cmp_total path_cmp_exact c.visit-found.new.self.keys c.args.path.now None)

pub invariant_of-self : goal.invariant_of-self
invariant_of-self c =
    let own : Some c.in-Some.key ≡ get c.visit-found.new.self.keys c.args.path.now = (found_again c.self.inside.nodes c.visit-found.new.self c.args.path.now c.visit-found.result (Some c.in-Some.key) c.visit-found.ensures.same c.visit-found.ensures.found c.in-Some.is) in
    record {
      counted =
          subst AreCounted (sym (c.remove.ensures.values c.args.path.now (sym own)))
          (counted_kept c.visit-found.new.self.values c.args.path.now None (kept_again c.self.inside.nodes c.visit-found.new.self c.self.inside.places c.visit-found.ensures.same c.self.invariant).counted (ap (λ (v : Contents). option_flatten (get v.groups c.args.path.now)) (seen_again c.self.inside.nodes c.visit-found.new.self c.self.inside.places c.args.self.now c.visit-found.ensures.same c.self.view_is) ∙ c.requires.dead) refl (λ x e. absurd (none-some x e)));
      held =
          subst (λ ps. AreHeld (held_in c.remove.new.self.values) ps) (sym (same_places c))
          (subst (λ h. AreHeld h (places_in c.visit-found.new.self.keys c.self.inside.places.places)) (sym (ap held_in (c.remove.ensures.values c.args.path.now (sym own)) ∙ held_written c.visit-found.new.self.values c.args.path.now None))
          (held_without (held_in c.visit-found.new.self.values) (places_in c.visit-found.new.self.keys c.self.inside.places.places) c.args.path.now (nobody (goal.at.invariant_of-self c).After-laws-in-Some) (kept_again c.self.inside.nodes c.visit-found.new.self c.self.inside.places c.visit-found.ensures.same c.self.invariant).held));
      placed = still_placed c.visit-found.new.self.keys c.remove.new.self.keys c.laws.ensures.one_path c.laws-in-Some.ensures.one_path c.self.inside.places.places (kept_again c.self.inside.nodes c.visit-found.new.self c.self.inside.places c.visit-found.ensures.same c.self.invariant).placed (stays c);
      numbers = numbers_with_less c.visit-found.new.self.keys c.remove.new.self.keys c.laws.ensures.one_path c.args.path.now (dropped c) c.self.inside.places.groups (kept_again c.self.inside.nodes c.visit-found.new.self c.self.inside.places c.visit-found.ensures.same c.self.invariant).numbers;
    }

pub returns-in-Some-clause-groups : goal.returns-in-Some-clause-groups
returns-in-Some-clause-groups c =
    let own : Some c.in-Some.key ≡ get c.visit-found.new.self.keys c.args.path.now = (found_again c.self.inside.nodes c.visit-found.new.self c.args.path.now c.visit-found.result (Some c.in-Some.key) c.visit-found.ensures.same c.visit-found.ensures.found c.in-Some.is) in
    ap groups_in (c.remove.ensures.values c.args.path.now (sym own))
    ∙ groups_written c.visit-found.new.self.values c.args.path.now None
    ∙ ap (λ (v : Contents). set_at v.groups c.args.path.now None) (seen_again c.self.inside.nodes c.visit-found.new.self c.self.inside.places c.args.self.now c.visit-found.ensures.same c.self.view_is)

pub returns-in-Some-clause-places : goal.returns-in-Some-clause-places
returns-in-Some-clause-places c = same_places c ∙ ap (λ (v : Contents). v.places) (seen_again c.self.inside.nodes c.visit-found.new.self c.self.inside.places c.args.self.now c.visit-found.ensures.same c.self.view_is)

pub returns-in_default-clause-groups : goal.returns-in_default-clause-groups
returns-in_default-clause-groups c =
    let own : None ≡ get c.visit-found.new.self.keys c.args.path.now = (found_again c.self.inside.nodes c.visit-found.new.self c.args.path.now c.visit-found.result None c.visit-found.ensures.same c.visit-found.ensures.found c.in_default.is) in
    let none : get c.args.self.now.groups c.args.path.now ≡ None =
    none_there _ (sym (node_there c.visit-found.new.self c.laws.ensures.both c.args.self.now.groups (ap (λ (v : Contents). v.groups) (seen_again c.self.inside.nodes c.visit-found.new.self c.self.inside.places c.args.self.now c.visit-found.ensures.same c.self.view_is)) c.args.path.now) ∙ ap is_some (sym own)) in
    ap (λ (v : Contents). v.groups) (seen_again c.self.inside.nodes c.visit-found.new.self c.self.inside.places c.args.self.now c.visit-found.ensures.same c.self.view_is)
    ∙ sym (ap (set_at c.args.self.now.groups c.args.path.now) (sym none) ∙ set_same path_cmp_total path_cmp_exact c.args.self.now.groups c.args.path.now)
