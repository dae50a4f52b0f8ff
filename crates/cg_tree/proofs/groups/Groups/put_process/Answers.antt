-- The process is counted off where it was, gets the number of the path's node, and is counted there.
use Rattle.std.proofs.Common.{◌≡◌, ◌<◌, ◌^◌, true, Some, None, is_some, ap, sym, subst, refl, arith, true≢false, ◌∙◌}
use Rattle.cg_maps.specs.FiniteMap.{get, set_at}
use Rattle.cg_model.specs.Key.{replaced}
use Rattle.cg_name.specs.Path.{is_prefix}
use Rattle.cg_path_tree.specs.Nodes.{path_of}
use Rattle.cg_tree.specs.Contents.{places_in, Contents, AreAtNodes, AreHeld, HaveNumbers}
use Rattle.cg_tree.specs.CountedUp.{IsOneMoreUp}
use Rattle.cg_tree.specs.Entries.{held_in}
use Rattle.cg_tree.proofs.Climbing.{at_path}
use Rattle.cg_tree.proofs.Holding.{held_where_it_comes, room_where_it_comes, room_where_it_was}
use Rattle.cg_tree.proofs.Numbering.{has_node, moved, placed_in}
use Rattle.cg_tree.proofs.Putting.{node_there}
use Rattle.cg_tree.proofs.Visiting.{found_again, kept_again, seen_again}
use Rattle.cg_tree.proofs.groups.Groups.put_process.Goals as goal

-- ---- off where it was

pub count_process-requires-clause-key : goal.count_process-requires-clause-key
count_process-requires-clause-key c = has_node c.visit-found.new.self.keys c.self.inside.places.places c.args.pid c.in-Some-group_of.group c.new.result c.new.ensures c.in-Some-group_of.ensures (kept_again c.self.inside.nodes c.visit-found.new.self c.self.inside.places c.visit-found.ensures.same c.self.invariant).placed

pub count_process-requires-clause-room : goal.count_process-requires-clause-room
count_process-requires-clause-room c = room_where_it_was c.visit-found.new.self c.laws.ensures.closed c.laws.ensures.one_path c.laws.ensures.both c.self.inside.places.places (kept_again c.self.inside.nodes c.visit-found.new.self c.self.inside.places c.visit-found.ensures.same c.self.invariant).placed c.args.pid c.in-Some-group_of.group c.new.result c.new.ensures c.in-Some-group_of.ensures (kept_again c.self.inside.nodes c.visit-found.new.self c.self.inside.places c.visit-found.ensures.same c.self.invariant).held

-- ---- into the other group

pub put-requires : goal.put-requires
put-requires c = omega (arith, c.number.ensures, (kept_again c.self.inside.nodes c.visit-found.new.self c.self.inside.places c.visit-found.ensures.same c.self.invariant).numbers c.in-Some.key (c.args.path.now, sym (found_again c.self.inside.nodes c.visit-found.new.self c.args.path.now c.visit-found.result (Some c.in-Some.key) c.visit-found.ensures.same c.visit-found.ensures.found c.in-Some.is)))

pub count_process-requires-2-clause-key : goal.count_process-requires-2-clause-key
count_process-requires-2-clause-key c = (c.args.path.now, ap (λ ks. get ks c.args.path.now) c.count_process.ensures.keys ∙ sym (found_again c.self.inside.nodes c.visit-found.new.self c.args.path.now c.visit-found.result (Some c.in-Some.key) c.visit-found.ensures.same c.visit-found.ensures.found c.in-Some.is))

pub count_process-requires-2-clause-room : goal.count_process-requires-2-clause-room
count_process-requires-2-clause-room c q m above h =
    let place = ap (λ ks. path_of ks c.in-Some.key) c.count_process.ensures.keys ∙ at_path c.visit-found.new.self c.in-Some.key c.args.path.now c.laws.ensures.one_path (sym (found_again c.self.inside.nodes c.visit-found.new.self c.args.path.now c.visit-found.result (Some c.in-Some.key) c.visit-found.ensures.same c.visit-found.ensures.found c.in-Some.is)) in
    let put : c.put.new.self.places ≡ set_at c.self.inside.places.places c.args.pid (Some c.in-Some.key.0) =
    c.put.ensures.places (ap is_some (sym c.in-Some-group_of.ensures)) ∙ ap (λ n. set_at c.self.inside.places.places c.args.pid (Some n)) c.number.ensures in
    let fits : c.len.result < 2 ^ 32 = omega arith in
    room_where_it_comes c.visit-found.new.self c.laws.ensures.closed c.laws.ensures.one_path c.laws.ensures.both c.self.inside.places.places (kept_again c.self.inside.nodes c.visit-found.new.self c.self.inside.places c.visit-found.ensures.same c.self.invariant).placed c.args.pid c.in-Some-group_of.group c.new.result c.new.ensures c.in-Some-group_of.ensures (kept_again c.self.inside.nodes c.visit-found.new.self c.self.inside.places c.visit-found.ensures.same c.self.invariant).held (held_in c.count_process.new.nodes.values) c.count_process.ensures.held c.args.path.now c.in-Some.key (sym (found_again c.self.inside.nodes c.visit-found.new.self c.args.path.now c.visit-found.result (Some c.in-Some.key) c.visit-found.ensures.same c.visit-found.ensures.found c.in-Some.is)) c.put.new.self.places put c.len.result c.len.ensures.value fits q m
    (subst (λ p. is_prefix q p ≡ true) place above) h

pub invariant_of-self : goal.invariant_of-self
invariant_of-self c = kept_again c.self.inside.nodes c.visit-found.new.self c.self.inside.places c.visit-found.ensures.same c.self.invariant

pub invariant_of-self-2 : goal.invariant_of-self-2
invariant_of-self-2 c =
    let place = ap (λ ks. path_of ks c.in-Some.key) c.count_process.ensures.keys ∙ at_path c.visit-found.new.self c.in-Some.key c.args.path.now c.laws.ensures.one_path (sym (found_again c.self.inside.nodes c.visit-found.new.self c.args.path.now c.visit-found.result (Some c.in-Some.key) c.visit-found.ensures.same c.visit-found.ensures.found c.in-Some.is)) in
    let put : c.put.new.self.places ≡ set_at c.self.inside.places.places c.args.pid (Some c.in-Some.key.0) =
    c.put.ensures.places (ap is_some (sym c.in-Some-group_of.ensures)) ∙ ap (λ n. set_at c.self.inside.places.places c.args.pid (Some n)) c.number.ensures in
    let keys : c.count_process-2.new.nodes.keys ≡ c.visit-found.new.self.keys = c.count_process-2.ensures.keys ∙ c.count_process.ensures.keys in
    record {
      counted = c.count_process-2.ensures.counted;
      held =
          subst (λ ks. AreHeld (held_in c.count_process-2.new.nodes.values) (places_in ks c.put.new.self.places)) (sym keys)
          (held_where_it_comes c.visit-found.new.self c.laws.ensures.closed c.laws.ensures.one_path c.laws.ensures.both c.self.inside.places.places (kept_again c.self.inside.nodes c.visit-found.new.self c.self.inside.places c.visit-found.ensures.same c.self.invariant).placed c.args.pid c.in-Some-group_of.group c.new.result c.new.ensures c.in-Some-group_of.ensures (kept_again c.self.inside.nodes c.visit-found.new.self c.self.inside.places c.visit-found.ensures.same c.self.invariant).held (held_in c.count_process.new.nodes.values) c.count_process.ensures.held c.args.path.now c.in-Some.key (sym (found_again c.self.inside.nodes c.visit-found.new.self c.args.path.now c.visit-found.result (Some c.in-Some.key) c.visit-found.ensures.same c.visit-found.ensures.found c.in-Some.is)) c.put.new.self.places put (held_in c.count_process-2.new.nodes.values)
          (subst (λ p. IsOneMoreUp p (held_in c.count_process.new.nodes.values) (held_in c.count_process-2.new.nodes.values)) place c.count_process-2.ensures.held));
      placed =
          subst (λ ks. AreAtNodes ks c.put.new.self.places) (sym keys)
          (placed_in c.visit-found.new.self.keys c.laws.ensures.one_path c.self.inside.places.places (kept_again c.self.inside.nodes c.visit-found.new.self c.self.inside.places c.visit-found.ensures.same c.self.invariant).placed c.args.path.now c.in-Some.key (sym (found_again c.self.inside.nodes c.visit-found.new.self c.args.path.now c.visit-found.result (Some c.in-Some.key) c.visit-found.ensures.same c.visit-found.ensures.found c.in-Some.is)) c.put.new.self.places c.args.pid put);
      numbers =
          subst (λ ks. HaveNumbers ks c.put.new.self.groups) (sym keys)
          (subst (HaveNumbers c.visit-found.new.self.keys) (sym c.put.ensures.groups) (kept_again c.self.inside.nodes c.visit-found.new.self c.self.inside.places c.visit-found.ensures.same c.self.invariant).numbers);
    }

pub returns-clause-groups : goal.returns-clause-groups
returns-clause-groups c = c.count_process-2.ensures.groups ∙ c.count_process.ensures.groups ∙ ap (λ (v : Contents). v.groups) (seen_again c.self.inside.nodes c.visit-found.new.self c.self.inside.places c.args.self.now c.visit-found.ensures.same c.self.view_is)

pub returns-clause-places : goal.returns-clause-places
returns-clause-places c =
    let put : c.put.new.self.places ≡ set_at c.self.inside.places.places c.args.pid (Some c.in-Some.key.0) =
    c.put.ensures.places (ap is_some (sym c.in-Some-group_of.ensures)) ∙ ap (λ n. set_at c.self.inside.places.places c.args.pid (Some n)) c.number.ensures in
    let keys : c.count_process-2.new.nodes.keys ≡ c.visit-found.new.self.keys = c.count_process-2.ensures.keys ∙ c.count_process.ensures.keys in
    ap (λ ks. places_in ks c.put.new.self.places) keys
    ∙ moved c.visit-found.new.self.keys c.laws.ensures.one_path c.self.inside.places.places (kept_again c.self.inside.nodes c.visit-found.new.self c.self.inside.places c.visit-found.ensures.same c.self.invariant).placed c.args.path.now c.in-Some.key (sym (found_again c.self.inside.nodes c.visit-found.new.self c.args.path.now c.visit-found.result (Some c.in-Some.key) c.visit-found.ensures.same c.visit-found.ensures.found c.in-Some.is)) c.put.new.self.places c.args.pid c.put.ensures.absent (λ some. put)
    ∙ ap (λ (v : Contents). set_at v.places c.args.pid (replaced (get v.places c.args.pid) (Some c.args.path.now))) (seen_again c.self.inside.nodes c.visit-found.new.self c.self.inside.places c.args.self.now c.visit-found.ensures.same c.self.view_is)

-- ---- it isn't there

pub returns-in_default-clause-places : goal.returns-in_default-clause-places
returns-in_default-clause-places c =
    absurd (true≢false (sym c.requires ∙ sym (node_there c.visit-found.new.self c.laws.ensures.both c.args.self.now.groups (ap (λ (v : Contents). v.groups) (seen_again c.self.inside.nodes c.visit-found.new.self c.self.inside.places c.args.self.now c.visit-found.ensures.same c.self.view_is)) c.args.path.now) ∙ ap is_some (sym (found_again c.self.inside.nodes c.visit-found.new.self c.args.path.now c.visit-found.result None c.visit-found.ensures.same c.visit-found.ensures.found c.in_default.is))))

pub returns-in_default-group_of-clause-places : goal.returns-in_default-group_of-clause-places
returns-in_default-group_of-clause-places c =
    moved c.visit-found.new.self.keys c.laws.ensures.one_path c.self.inside.places.places (kept_again c.self.inside.nodes c.visit-found.new.self c.self.inside.places c.visit-found.ensures.same c.self.invariant).placed c.args.path.now c.in-Some.key (sym (found_again c.self.inside.nodes c.visit-found.new.self c.args.path.now c.visit-found.result (Some c.in-Some.key) c.visit-found.ensures.same c.visit-found.ensures.found c.in-Some.is)) c.self.inside.places.places c.args.pid (λ none. refl) (λ some. absurd (true≢false (sym some ∙ ap is_some (sym c.in_default-group_of.ensures))))
    ∙ ap (λ (v : Contents). set_at v.places c.args.pid (replaced (get v.places c.args.pid) (Some c.args.path.now))) (seen_again c.self.inside.nodes c.visit-found.new.self c.self.inside.places c.args.self.now c.visit-found.ensures.same c.self.view_is)
