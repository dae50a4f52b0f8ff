use Rattle.std.proofs.Common.{◌≡◌, IsSome, true, sym, ap, subst, ◌∙◌}
use Rattle.cg_maps.specs.FiniteMap.{keys}
use Rattle.cg_tree.specs.Inside.{room_of}
use Rattle.cg_tree.specs.Unlimited.{AreUnlimited}
use Rattle.cg_tree.specs.Present.{present}
use Rattle.cg_tree.specs.Room.{IsRooted, has_entry}
use Rattle.cg_tree.proofs.Unlimited.{first_false, second_false, unlimited_put}
use Rattle.cg_tree.proofs.Rooms.{group_replaced, with_map}
use Rattle.cg_tree.proofs.Rooting.{with_group, group_put}
use Rattle.cg_tree.proofs.tree.Tree.put_group.Goals as goal
use Rattle.cg_tree.proofs.tree.Tree.put_group.Goals.{After-replace}

room_before : (c : After-replace) → IsSome c.args.settings → has_entry (room_of c.self.inside) c.args.path.now ≡ true
room_before c some = ap (λ t. has_entry t c.args.path.now) c.self.view_is ∙ c.requires some

same_room : (c : After-replace) → room_of (with_map c.self.inside c.args.path.now c.replace.new.self c.replace.ensures.places) ≡ with_group (room_of c.self.inside) c.args.path.now c.args.settings
same_room c = group_replaced c.self.inside c.args.path.now c.replace.new.self c.replace.ensures.places c.args.settings c.replace.ensures.there c.replace.ensures.absent (room_before c)

pub invariant_of-self : goal.invariant_of-self
invariant_of-self c = record {
  rooted = subst IsRooted (sym (same_room (goal.at.invariant_of-self c).After-replace))
      (group_put (room_of c.self.inside) c.args.path.now c.args.settings c.self.invariant.rooted c.names.ensures.valid c.tell_cpus.ensures (room_before (goal.at.invariant_of-self c).After-replace));
  pids = c.self.invariant.pids ∙ ap keys (sym c.replace.ensures.places);
  unlimited = λ no.
      subst AreUnlimited (sym (ap (λ t. t.tree.groups) (same_room (goal.at.invariant_of-self c).After-replace)))
      (unlimited_put (present c.self.inside.groups.groups) c.args.path.now c.args.settings (c.self.invariant.unlimited (first_false c.self.inside.may_limit c.has_limit.result no)) (c.has_limit.ensures (second_false c.self.inside.may_limit c.has_limit.result no)));
}

pub returns-clause-tree : goal.returns-clause-tree
returns-clause-tree c = ap (λ t. t.tree) (same_room (goal.at.returns-clause-tree c).After-replace) ∙ ap (λ t. (with_group t c.args.path.now c.args.settings).tree) c.self.view_is

pub returns-clause-entries : goal.returns-clause-entries
returns-clause-entries c = ap (λ t. t.entries) (same_room (goal.at.returns-clause-entries c).After-replace) ∙ ap (λ t. t.entries) c.self.view_is
