-- There is a node where there is an entry.
use Rattle.std.proofs.Common.{◌≡◌, Some, None, is_some, ap, sym, subst, ◌∙◌, true≢false}
use Rattle.std.specs.Option.{option_flatten}
use Rattle.cg_maps.specs.FiniteMap.{get, set_at}
use Rattle.cg_tree.specs.Contents.{places_in, Contents, AreAtNodes, AreHeld, HaveNumbers}
use Rattle.cg_tree.specs.Entries.{held_in}
use Rattle.cg_tree.proofs.Climbing.{at_path}
use Rattle.cg_tree.proofs.Putting.{node_there}
use Rattle.cg_tree.proofs.Visiting.{found_again, kept_again, seen_again}
use Rattle.cg_tree.proofs.groups.Groups.replace.Goals as goal

pub invariant_of-self : goal.invariant_of-self
invariant_of-self c = record {
  counted = c.put.ensures.counted;
  held =
      subst (λ ks. AreHeld (held_in c.put.new.nodes.values) (places_in ks c.self.inside.places.places)) (sym c.put.ensures.keys)
      (subst (λ h. AreHeld h (places_in c.visit_from-found.new.self.keys c.self.inside.places.places)) (sym c.put.ensures.held) (kept_again c.self.inside.nodes c.visit_from-found.new.self c.self.inside.places c.visit_from-found.ensures.same c.self.invariant).held);
  placed = subst (λ ks. AreAtNodes ks c.self.inside.places.places) (sym c.put.ensures.keys) (kept_again c.self.inside.nodes c.visit_from-found.new.self c.self.inside.places c.visit_from-found.ensures.same c.self.invariant).placed;
  numbers = subst (λ ks. HaveNumbers ks c.self.inside.places.groups) (sym c.put.ensures.keys) (kept_again c.self.inside.nodes c.visit_from-found.new.self c.self.inside.places c.visit_from-found.ensures.same c.self.invariant).numbers;
}

pub returns-in-Some-clause-there : goal.returns-in-Some-clause-there
returns-in-Some-clause-there c some =
    let own : Some c.in-Some.key ≡ get c.visit_from-found.new.self.keys c.args.path.now = (found_again c.self.inside.nodes c.visit_from-found.new.self c.args.path.now c.visit_from-found.result (Some c.in-Some.key) c.visit_from-found.ensures.same c.visit_from-found.ensures.found c.in-Some.is) in
    let place = at_path c.visit_from-found.new.self c.in-Some.key c.args.path.now c.laws.ensures.one_path (sym own) in
    c.put.ensures.groups ∙ (λ i. set_at ((ap (λ (v : Contents). v.groups) (seen_again c.self.inside.nodes c.visit_from-found.new.self c.self.inside.places c.args.self.now c.visit_from-found.ensures.same c.self.view_is)) i) (place i) (Some c.args.settings.now))

pub returns-in-Some-clause-absent : goal.returns-in-Some-clause-absent
returns-in-Some-clause-absent c none =
    let own : Some c.in-Some.key ≡ get c.visit_from-found.new.self.keys c.args.path.now = (found_again c.self.inside.nodes c.visit_from-found.new.self c.args.path.now c.visit_from-found.result (Some c.in-Some.key) c.visit_from-found.ensures.same c.visit_from-found.ensures.found c.in-Some.is) in
    absurd (true≢false (ap is_some own ∙ node_there c.visit_from-found.new.self c.laws.ensures.both c.args.self.now.groups (ap (λ (v : Contents). v.groups) (seen_again c.self.inside.nodes c.visit_from-found.new.self c.self.inside.places c.args.self.now c.visit_from-found.ensures.same c.self.view_is)) c.args.path.now ∙ ap is_some none))

pub returns-in_default-clause-there : goal.returns-in_default-clause-there
returns-in_default-clause-there c some =
    let own : None ≡ get c.visit_from-found.new.self.keys c.args.path.now = (found_again c.self.inside.nodes c.visit_from-found.new.self c.args.path.now c.visit_from-found.result None c.visit_from-found.ensures.same c.visit_from-found.ensures.found c.in_default.is) in
    absurd (true≢false (sym some ∙ sym (node_there c.visit_from-found.new.self c.laws.ensures.both c.args.self.now.groups (ap (λ (v : Contents). v.groups) (seen_again c.self.inside.nodes c.visit_from-found.new.self c.self.inside.places c.args.self.now c.visit_from-found.ensures.same c.self.view_is)) c.args.path.now) ∙ ap is_some (sym own)))

pub returns-in-Some-clause-before : goal.returns-in-Some-clause-before
returns-in-Some-clause-before c some =
    let own : Some c.in-Some.key ≡ get c.visit_from-found.new.self.keys c.args.path.now = (found_again c.self.inside.nodes c.visit_from-found.new.self c.args.path.now c.visit_from-found.result (Some c.in-Some.key) c.visit_from-found.ensures.same c.visit_from-found.ensures.found c.in-Some.is) in
    let place = at_path c.visit_from-found.new.self c.in-Some.key c.args.path.now c.laws.ensures.one_path (sym own) in
    c.put.ensures.before ∙ (λ i. option_flatten (get ((ap (λ (v : Contents). v.groups) (seen_again c.self.inside.nodes c.visit_from-found.new.self c.self.inside.places c.args.self.now c.visit_from-found.ensures.same c.self.view_is)) i) (place i)))

pub returns-in-Some-clause-untouched : goal.returns-in-Some-clause-untouched
returns-in-Some-clause-untouched c none =
    let own : Some c.in-Some.key ≡ get c.visit_from-found.new.self.keys c.args.path.now = (found_again c.self.inside.nodes c.visit_from-found.new.self c.args.path.now c.visit_from-found.result (Some c.in-Some.key) c.visit_from-found.ensures.same c.visit_from-found.ensures.found c.in-Some.is) in
    absurd (true≢false (ap is_some own ∙ node_there c.visit_from-found.new.self c.laws.ensures.both c.args.self.now.groups (ap (λ (v : Contents). v.groups) (seen_again c.self.inside.nodes c.visit_from-found.new.self c.self.inside.places c.args.self.now c.visit_from-found.ensures.same c.self.view_is)) c.args.path.now ∙ ap is_some none))

pub returns-in_default-clause-before : goal.returns-in_default-clause-before
returns-in_default-clause-before c some =
    let own : None ≡ get c.visit_from-found.new.self.keys c.args.path.now = (found_again c.self.inside.nodes c.visit_from-found.new.self c.args.path.now c.visit_from-found.result None c.visit_from-found.ensures.same c.visit_from-found.ensures.found c.in_default.is) in
    absurd (true≢false (sym some ∙ sym (node_there c.visit_from-found.new.self c.laws.ensures.both c.args.self.now.groups (ap (λ (v : Contents). v.groups) (seen_again c.self.inside.nodes c.visit_from-found.new.self c.self.inside.places c.args.self.now c.visit_from-found.ensures.same c.self.view_is)) c.args.path.now) ∙ ap is_some (sym own)))
