-- There is a node where there is an entry.
use Rattle.std.proofs.Common.{◌≡◌, Some, None, option_map, ap, sym, subst, ◌∙◌}
use Rattle.std.specs.Option.{option_flatten}
use Rattle.cg_maps.specs.FiniteMap.{get, set_at}
use Rattle.cg_maps.proofs.Maps.{set_same}
use Rattle.cg_name.specs.Order.{path_cmp_total, path_cmp_exact}
use Rattle.cg_tree.specs.Contents.{places_in, Contents, AreAtNodes, AreHeld, HaveNumbers}
use Rattle.cg_tree.specs.Entries.{held_in}
use Rattle.cg_tree.specs.NewValue.{value_there, with_new}
use Rattle.cg_tree.proofs.Climbing.{at_path}
use Rattle.cg_tree.proofs.Putting.{no_entry}
use Rattle.cg_tree.proofs.Visiting.{found_again, kept_again, seen_again}
use Rattle.cg_tree.proofs.groups.Groups.change.Goals as goal

pub returns-in_default-clause-before : goal.returns-in_default-clause-before
returns-in_default-clause-before c = ap (λ w. option_map (value_there c.args.value) (option_flatten w)) (sym (no_entry c.visit_from-found.new.self c.laws.ensures.both c.args.self.now.groups (ap (λ (v : Contents). v.groups) (seen_again c.self.inside.nodes c.visit_from-found.new.self c.self.inside.places c.args.self.now c.visit_from-found.ensures.same c.self.view_is)) c.args.path.now (found_again c.self.inside.nodes c.visit_from-found.new.self c.args.path.now c.visit_from-found.result None c.visit_from-found.ensures.same c.visit_from-found.ensures.found c.in_default.is)))

pub returns-in_default-clause-groups : goal.returns-in_default-clause-groups
returns-in_default-clause-groups c =
    let none = no_entry c.visit_from-found.new.self c.laws.ensures.both c.args.self.now.groups (ap (λ (v : Contents). v.groups) (seen_again c.self.inside.nodes c.visit_from-found.new.self c.self.inside.places c.args.self.now c.visit_from-found.ensures.same c.self.view_is)) c.args.path.now (found_again c.self.inside.nodes c.visit_from-found.new.self c.args.path.now c.visit_from-found.result None c.visit_from-found.ensures.same c.visit_from-found.ensures.found c.in_default.is) in
    ap (λ (v : Contents). v.groups) (seen_again c.self.inside.nodes c.visit_from-found.new.self c.self.inside.places c.args.self.now c.visit_from-found.ensures.same c.self.view_is)
    ∙ sym (ap (λ w. set_at c.args.self.now.groups c.args.path.now (option_map (with_new c.args.value) w)) none
    ∙ ap (set_at c.args.self.now.groups c.args.path.now) (sym none)
    ∙ set_same path_cmp_total path_cmp_exact c.args.self.now.groups c.args.path.now)

pub invariant_of-self : goal.invariant_of-self
invariant_of-self c = kept_again c.self.inside.nodes c.visit_from-found.new.self c.self.inside.places c.visit_from-found.ensures.same c.self.invariant

pub invariant_of-self-2 : goal.invariant_of-self-2
invariant_of-self-2 c = record {
  counted = c.put_value.ensures.counted;
  held =
      subst (λ ks. AreHeld (held_in c.put_value.new.nodes.values) (places_in ks c.self.inside.places.places)) (sym c.put_value.ensures.keys)
      (subst (λ h. AreHeld h (places_in c.visit_from-found.new.self.keys c.self.inside.places.places)) (sym c.put_value.ensures.held) (kept_again c.self.inside.nodes c.visit_from-found.new.self c.self.inside.places c.visit_from-found.ensures.same c.self.invariant).held);
  placed = subst (λ ks. AreAtNodes ks c.self.inside.places.places) (sym c.put_value.ensures.keys) (kept_again c.self.inside.nodes c.visit_from-found.new.self c.self.inside.places c.visit_from-found.ensures.same c.self.invariant).placed;
  numbers = subst (λ ks. HaveNumbers ks c.self.inside.places.groups) (sym c.put_value.ensures.keys) (kept_again c.self.inside.nodes c.visit_from-found.new.self c.self.inside.places c.visit_from-found.ensures.same c.self.invariant).numbers;
}

pub returns-clause-before : goal.returns-clause-before
returns-clause-before c =
    let own : Some c.in-Some.key ≡ get c.visit_from-found.new.self.keys c.args.path.now = (found_again c.self.inside.nodes c.visit_from-found.new.self c.args.path.now c.visit_from-found.result (Some c.in-Some.key) c.visit_from-found.ensures.same c.visit_from-found.ensures.found c.in-Some.is) in
    let place = at_path c.visit_from-found.new.self c.in-Some.key c.args.path.now c.laws.ensures.one_path (sym own) in
    c.put_value.ensures.before ∙ (λ i. option_map (value_there c.args.value) (option_flatten (get ((ap (λ (v : Contents). v.groups) (seen_again c.self.inside.nodes c.visit_from-found.new.self c.self.inside.places c.args.self.now c.visit_from-found.ensures.same c.self.view_is)) i) (place i))))

pub returns-clause-groups : goal.returns-clause-groups
returns-clause-groups c =
    let own : Some c.in-Some.key ≡ get c.visit_from-found.new.self.keys c.args.path.now = (found_again c.self.inside.nodes c.visit_from-found.new.self c.args.path.now c.visit_from-found.result (Some c.in-Some.key) c.visit_from-found.ensures.same c.visit_from-found.ensures.found c.in-Some.is) in
    let place = at_path c.visit_from-found.new.self c.in-Some.key c.args.path.now c.laws.ensures.one_path (sym own) in
    let view = ap (λ (v : Contents). v.groups) (seen_again c.self.inside.nodes c.visit_from-found.new.self c.self.inside.places c.args.self.now c.visit_from-found.ensures.same c.self.view_is) in
    c.put_value.ensures.groups ∙ (λ i. set_at (view i) (place i) (option_map (with_new c.args.value) (get (view i) (place i))))
