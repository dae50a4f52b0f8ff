-- There is a node where there is an entry.
use Rattle.std.proofs.Common.{◌≡◌, Some, None, is_some, ap, sym, subst, ◌∙◌, true≢false}
use Rattle.cg_maps.specs.FiniteMap.{get, set_at}
use Rattle.cg_tree.specs.Contents.{places_in, Contents, AreAtNodes, AreHeld, HaveNumbers}
use Rattle.cg_tree.specs.Entries.{held_in}
use Rattle.cg_tree.proofs.Climbing.{at_path}
use Rattle.cg_tree.proofs.Putting.{no_entry}
use Rattle.cg_tree.proofs.Visiting.{found_again, kept_again, seen_again}
use Rattle.cg_tree.proofs.groups.Groups.make_group.Goals as goal

pub insert-requires-clause-absent : goal.insert-requires-clause-absent
insert-requires-clause-absent c = ap (λ (v : Contents). get v.groups c.args.path.now) (seen_again c.self.inside.nodes c.visit-found.new.self c.self.inside.places c.args.self.now c.visit-found.ensures.same c.self.view_is) ∙ no_entry c.visit-found.new.self c.laws.ensures.both c.args.self.now.groups (ap (λ (v : Contents). v.groups) (seen_again c.self.inside.nodes c.visit-found.new.self c.self.inside.places c.args.self.now c.visit-found.ensures.same c.self.view_is)) c.args.path.now (found_again c.self.inside.nodes c.visit-found.new.self c.args.path.now c.visit-found.result None c.visit-found.ensures.same c.visit-found.ensures.found c.in_default.is)

pub returns-in_default-clause-there : goal.returns-in_default-clause-there
returns-in_default-clause-there c some = absurd (true≢false (sym some ∙ ap is_some (no_entry c.visit-found.new.self c.laws.ensures.both c.args.self.now.groups (ap (λ (v : Contents). v.groups) (seen_again c.self.inside.nodes c.visit-found.new.self c.self.inside.places c.args.self.now c.visit-found.ensures.same c.self.view_is)) c.args.path.now (found_again c.self.inside.nodes c.visit-found.new.self c.args.path.now c.visit-found.result None c.visit-found.ensures.same c.visit-found.ensures.found c.in_default.is))))

pub invariant_of-self : goal.invariant_of-self
invariant_of-self c = kept_again c.self.inside.nodes c.visit-found.new.self c.self.inside.places c.visit-found.ensures.same c.self.invariant

pub invariant_of-self-2 : goal.invariant_of-self-2
invariant_of-self-2 c = record {
  counted = c.put.ensures.counted;
  held =
      subst (λ ks. AreHeld (held_in c.put.new.nodes.values) (places_in ks c.self.inside.places.places)) (sym c.put.ensures.keys)
      (subst (λ h. AreHeld h (places_in c.visit-found.new.self.keys c.self.inside.places.places)) (sym c.put.ensures.held) (kept_again c.self.inside.nodes c.visit-found.new.self c.self.inside.places c.visit-found.ensures.same c.self.invariant).held);
  placed = subst (λ ks. AreAtNodes ks c.self.inside.places.places) (sym c.put.ensures.keys) (kept_again c.self.inside.nodes c.visit-found.new.self c.self.inside.places c.visit-found.ensures.same c.self.invariant).placed;
  numbers = subst (λ ks. HaveNumbers ks c.self.inside.places.groups) (sym c.put.ensures.keys) (kept_again c.self.inside.nodes c.visit-found.new.self c.self.inside.places c.visit-found.ensures.same c.self.invariant).numbers;
}

pub returns-clause-ok : goal.returns-clause-ok
returns-clause-ok c =
    let own : Some c.in-Some.key ≡ get c.visit-found.new.self.keys c.args.path.now = (found_again c.self.inside.nodes c.visit-found.new.self c.args.path.now c.visit-found.result (Some c.in-Some.key) c.visit-found.ensures.same c.visit-found.ensures.found c.in-Some.is) in
    let place = at_path c.visit-found.new.self c.in-Some.key c.args.path.now c.laws.ensures.one_path (sym own) in
    c.put.ensures.groups ∙ (λ i. set_at ((ap (λ (v : Contents). v.groups) (seen_again c.self.inside.nodes c.visit-found.new.self c.self.inside.places c.args.self.now c.visit-found.ensures.same c.self.view_is)) i) (place i) (Some (Some c.args.settings)))
