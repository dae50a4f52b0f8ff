-- The process gets the number of the path's node, and is counted there and above.
use Rattle.std.proofs.Common.{◌≡◌, ◌<◌, ◌^◌, true, Some, None, ap, sym, subst, arith, is_some, ◌∙◌}
use Rattle.cg_maps.specs.FiniteMap.{get, len, set_at}
use Rattle.cg_name.specs.Path.{is_prefix}
use Rattle.cg_tree.specs.Contents.{path_numbered, places_in, Contents, AreAtNodes, AreHeld, AreKept, HaveNumbers}
use Rattle.cg_tree.specs.Entries.{held_in}
use Rattle.cg_tree.proofs.Climbing.{at_path}
use Rattle.cg_tree.proofs.Holding.{have_counts}
use Rattle.cg_tree.proofs.Numbering.{put_in, placed_in}
use Rattle.cg_tree.specs.CountedUp.{IsOneMoreUp}
use Rattle.cg_tree.proofs.Populated.{HaveCounts}
use Rattle.cg_tree.proofs.Rooms.{none_there}
use Rattle.cg_tree.proofs.Seeing.{len-seen, there-seen}
use Rattle.cg_tree.proofs.Turning.{held_with_it, room_to_come}
use Rattle.cg_tree.proofs.Visiting.{found_again, kept_again, seen_again}
use Rattle.cg_tree.proofs.groups.Groups.add_process.Goals as goal
use Rattle.cg_tree.proofs.groups.Groups.add_process.Goals.{In_ok-add}

pub add-requires-clause-absent : goal.add-requires-clause-absent
add-requires-clause-absent c =
    none_there _
    (sym (there-seen (path_numbered c.visit-found.new.self.keys) c.self.inside.places.places c.args.pid)
    ∙ ap (λ (v : Contents). is_some (get v.places c.args.pid)) (seen_again c.self.inside.nodes c.visit-found.new.self c.self.inside.places c.args.self.now c.visit-found.ensures.same c.self.view_is)
    ∙ ap is_some c.requires.absent)

pub add-requires-clause-group : goal.add-requires-clause-group
add-requires-clause-group c = omega (arith, c.number.ensures, (kept_again c.self.inside.nodes c.visit-found.new.self c.self.inside.places c.visit-found.ensures.same c.self.invariant).numbers c.in-Some.key (c.args.path.now, sym (found_again c.self.inside.nodes c.visit-found.new.self c.args.path.now c.visit-found.result (Some c.in-Some.key) c.visit-found.ensures.same c.visit-found.ensures.found c.in-Some.is)))

added : (c : In_ok-add) → c.add.new.self.places ≡ set_at c.self.inside.places.places c.args.pid (Some c.in-Some.key.0)
added c = c.in_ok-add.ensures.places ∙ ap (λ n. set_at c.self.inside.places.places c.args.pid (Some n)) c.number.ensures

-- its path
placed_there : (c : In_ok-add) → places_in c.visit-found.new.self.keys c.add.new.self.places ≡ set_at (places_in c.visit-found.new.self.keys c.self.inside.places.places) c.args.pid (Some c.args.path.now)
placed_there c = put_in c.visit-found.new.self.keys c.laws.ensures.one_path c.self.inside.places.places (kept_again c.self.inside.nodes c.visit-found.new.self c.self.inside.places c.visit-found.ensures.same c.self.invariant).placed c.args.path.now c.in-Some.key (sym (found_again c.self.inside.nodes c.visit-found.new.self c.args.path.now c.visit-found.result (Some c.in-Some.key) c.visit-found.ensures.same c.visit-found.ensures.found c.in-Some.is)) c.add.new.self.places c.args.pid (added c)

placed_anew : (c : In_ok-add) → AreAtNodes c.visit-found.new.self.keys c.add.new.self.places
placed_anew c = placed_in c.visit-found.new.self.keys c.laws.ensures.one_path c.self.inside.places.places (kept_again c.self.inside.nodes c.visit-found.new.self c.self.inside.places c.visit-found.ensures.same c.self.invariant).placed c.args.path.now c.in-Some.key (sym (found_again c.self.inside.nodes c.visit-found.new.self c.args.path.now c.visit-found.result (Some c.in-Some.key) c.visit-found.ensures.same c.visit-found.ensures.found c.in-Some.is)) c.add.new.self.places c.args.pid (added c)

was_absent : (c : In_ok-add) → get (places_in c.visit-found.new.self.keys c.self.inside.places.places) c.args.pid ≡ None
was_absent c = ap (λ (v : Contents). get v.places c.args.pid) (seen_again c.self.inside.nodes c.visit-found.new.self c.self.inside.places c.args.self.now c.visit-found.ensures.same c.self.view_is) ∙ c.requires.absent

pub count_process-requires-clause-key : goal.count_process-requires-clause-key
count_process-requires-clause-key c = (c.args.path.now, sym (found_again c.self.inside.nodes c.visit-found.new.self c.args.path.now c.visit-found.result (Some c.in-Some.key) c.visit-found.ensures.same c.visit-found.ensures.found c.in-Some.is))

pub count_process-requires-clause-counted : goal.count_process-requires-clause-counted
count_process-requires-clause-counted c = (kept_again c.self.inside.nodes c.visit-found.new.self c.self.inside.places c.visit-found.ensures.same c.self.invariant).counted

pub count_process-requires-clause-room : goal.count_process-requires-clause-room
count_process-requires-clause-room c q n above h =
    let a = (goal.at.count_process-requires-clause-room c).In_ok-add in
    let place = at_path c.visit-found.new.self c.in-Some.key c.args.path.now c.laws.ensures.one_path (sym (found_again c.self.inside.nodes c.visit-found.new.self c.args.path.now c.visit-found.result (Some c.in-Some.key) c.visit-found.ensures.same c.visit-found.ensures.found c.in-Some.is)) in
    let many : len (set_at (places_in c.visit-found.new.self.keys c.self.inside.places.places) c.args.pid (Some c.args.path.now)) ≡ c.len.result =
    ap len (sym (placed_there a)) ∙ len-seen (path_numbered c.visit-found.new.self.keys) c.add.new.self.places ∙ sym c.len.ensures.value in
    let fits : c.len.result < 2 ^ 32 = omega arith in
    room_to_come (places_in c.visit-found.new.self.keys c.self.inside.places.places) c.args.pid c.args.path.now (was_absent a) (held_in c.visit-found.new.self.values) (kept_again c.self.inside.nodes c.visit-found.new.self c.self.inside.places c.visit-found.ensures.same c.self.invariant).held c.len.result many fits q n
    (subst (λ p. is_prefix q p ≡ true) place above) h

pub invariant_of-self : goal.invariant_of-self
invariant_of-self c = kept_again c.self.inside.nodes c.visit-found.new.self c.self.inside.places c.visit-found.ensures.same c.self.invariant

pub invariant_of-self-in_err-add : goal.invariant_of-self-in_err-add
invariant_of-self-in_err-add c = subst (AreKept c.visit-found.new.self) (sym c.in_err-add.ensures.err) (kept_again c.self.inside.nodes c.visit-found.new.self c.self.inside.places c.visit-found.ensures.same c.self.invariant)

pub invariant_of-self-2 : goal.invariant_of-self-2
invariant_of-self-2 c =
    let a = (goal.at.invariant_of-self-2 c).In_ok-add in
    let place = at_path c.visit-found.new.self c.in-Some.key c.args.path.now c.laws.ensures.one_path (sym (found_again c.self.inside.nodes c.visit-found.new.self c.args.path.now c.visit-found.result (Some c.in-Some.key) c.visit-found.ensures.same c.visit-found.ensures.found c.in-Some.is)) in
    record {
      counted = c.count_process.ensures.counted;
      held =
          subst (λ ks. AreHeld (held_in c.count_process.new.nodes.values) (places_in ks c.add.new.self.places)) (sym c.count_process.ensures.keys)
          (subst (AreHeld (held_in c.count_process.new.nodes.values)) (sym (placed_there a))
          (held_with_it (places_in c.visit-found.new.self.keys c.self.inside.places.places) c.args.pid c.args.path.now (was_absent a) (held_in c.visit-found.new.self.values) (held_in c.count_process.new.nodes.values)
          (subst (λ p. IsOneMoreUp p (held_in c.visit-found.new.self.values) (held_in c.count_process.new.nodes.values)) place c.count_process.ensures.held)
          (subst (HaveCounts (held_in c.visit-found.new.self.values)) (placed_there a) (have_counts c.visit-found.new.self c.laws.ensures.closed c.laws.ensures.one_path c.laws.ensures.both c.add.new.self.places (placed_anew a)))
          (kept_again c.self.inside.nodes c.visit-found.new.self c.self.inside.places c.visit-found.ensures.same c.self.invariant).held));
      placed =
          subst (λ ks. AreAtNodes ks c.add.new.self.places) (sym c.count_process.ensures.keys)
          (placed_anew a);
      numbers =
          subst (λ ks. HaveNumbers ks c.add.new.self.groups) (sym c.count_process.ensures.keys)
          (subst (HaveNumbers c.visit-found.new.self.keys) (sym c.add.ensures.groups) (kept_again c.self.inside.nodes c.visit-found.new.self c.self.inside.places c.visit-found.ensures.same c.self.invariant).numbers);
    }

pub returns-clause-groups : goal.returns-clause-groups
returns-clause-groups c = c.count_process.ensures.groups ∙ ap (λ (v : Contents). v.groups) (seen_again c.self.inside.nodes c.visit-found.new.self c.self.inside.places c.args.self.now c.visit-found.ensures.same c.self.view_is)

pub returns-clause-places : goal.returns-clause-places
returns-clause-places c =
    ap (λ ks. places_in ks c.add.new.self.places) c.count_process.ensures.keys
    ∙ placed_there (goal.at.returns-clause-places c).In_ok-add
    ∙ ap (λ (v : Contents). set_at v.places c.args.pid (Some c.args.path.now)) (seen_again c.self.inside.nodes c.visit-found.new.self c.self.inside.places c.args.self.now c.visit-found.ensures.same c.self.view_is)
