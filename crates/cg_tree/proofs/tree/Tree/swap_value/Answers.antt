use Rattle.std.proofs.Common.{◌≡◌, ◌&&◌, is_some, option_map, refl, sym, ap, subst, ◌∙◌}
use Rattle.cg_maps.specs.FiniteMap.{keys}
use Rattle.cg_model.specs.Tree.{group}
use Rattle.cg_tree.specs.Inside.{room_of}
use Rattle.cg_tree.specs.NewValue.{value_there, with_new}
use Rattle.cg_tree.specs.Present.{present}
use Rattle.cg_tree.specs.Room.{IsRooted}
use Rattle.cg_tree.specs.Unlimited.{AreUnlimited}
use Rattle.cg_tree.proofs.Rooms.{settings_there, value_written, with_map}
use Rattle.cg_tree.proofs.Rooting.{group_put, with_group}
use Rattle.cg_tree.proofs.Unlimited.{first_false, second_false, unlimited_put}
use Rattle.cg_tree.proofs.Values.{cpus_in_range, some_before, still_unlimited, was_there}
use Rattle.cg_tree.proofs.tree.Tree.swap_value.Goals as goal
use Rattle.cg_tree.proofs.tree.Tree.swap_value.Goals.{After-change-before}

same_room : (c : After-change-before)
    → room_of (with_map c.self.inside c.args.path.now c.change-before.new.self c.change-before.ensures.places) ≡ with_group (room_of c.self.inside) c.args.path.now (with_new c.args.value (group (room_of c.self.inside).tree c.args.path.now))
same_room c = value_written c.self.inside c.args.path.now c.change-before.new.self c.change-before.ensures.places c.args.value c.change-before.ensures.groups

pub invariant_of-self : goal.invariant_of-self
invariant_of-self c =
    let before = group (room_of c.self.inside).tree c.args.path.now in
    let found : c.is_some.result ≡ is_some before =
    c.is_some.ensures ∙ ap is_some c.change-before.ensures.before
    ∙ some_before c.args.value _ ∙ ap is_some (settings_there c.self.inside (room_of c.self.inside) refl c.args.path.now _ refl) in
    let same = same_room (goal.at.invariant_of-self c).After-change-before in
    record {
      rooted =
          subst IsRooted (sym same)
          (group_put (room_of c.self.inside) c.args.path.now (with_new c.args.value before) c.self.invariant.rooted c.names.ensures.valid
          (cpus_in_range c.args.value before c.tell_cpus.ensures (λ s is. (c.self.invariant.rooted.valid.groups c.args.path.now s is).1))
          (λ some. c.self.invariant.rooted.groups c.args.path.now (was_there c.args.value before some)));
      pids = c.self.invariant.pids ∙ ap keys (sym c.change-before.ensures.places);
      unlimited = λ no.
          subst AreUnlimited (sym (ap (λ t. t.tree.groups) same))
          (unlimited_put (present c.self.inside.groups.groups) c.args.path.now (with_new c.args.value before) (c.self.invariant.unlimited (first_false c.self.inside.may_limit _ no))
          (still_unlimited c.args.value before (λ some. sym c.is_limit-is_limit.ensures ∙ sym (ap (λ b. b && c.is_limit-is_limit.result) (found ∙ some)) ∙ second_false c.self.inside.may_limit _ no)
          (c.self.invariant.unlimited (first_false c.self.inside.may_limit _ no) c.args.path.now)));
    }

pub returns-clause-tree : goal.returns-clause-tree
returns-clause-tree c =
    ap (λ t. t.tree) (same_room (goal.at.returns-clause-tree c).After-change-before)
    ∙ ap (λ t. (with_group t c.args.path.now (with_new c.args.value (group t.tree c.args.path.now))).tree) c.self.view_is

pub returns-clause-entries : goal.returns-clause-entries
returns-clause-entries c = ap (λ t. t.entries) (same_room (goal.at.returns-clause-entries c).After-change-before) ∙ ap (λ t. t.entries) c.self.view_is

pub returns-clause-before : goal.returns-clause-before
returns-clause-before c = c.change-before.ensures.before ∙ ap (option_map (value_there c.args.value)) (settings_there c.self.inside c.args.self.now c.self.view_is c.args.path.now _ refl)
