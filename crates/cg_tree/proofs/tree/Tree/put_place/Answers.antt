-- The room with the process in its new group.
use Rattle.std.proofs.Common.{◌≡◌, sym, ap, subst, ◌∙◌}
use Rattle.cg_maps.specs.FiniteMap.{keys}
use Rattle.cg_tree.specs.Inside.{room_of}
use Rattle.cg_tree.specs.Unlimited.{AreUnlimited}
use Rattle.cg_tree.specs.Room.{IsRooted, has_entry}
use Rattle.cg_tree.proofs.Places.{place_written, same_pids}
use Rattle.cg_tree.proofs.Rooms.{entry_there}
use Rattle.cg_tree.proofs.Rooting.{with_place, place_put}
use Rattle.cg_tree.proofs.tree.Tree.put_place.Goals as goal

pub put_process-requires : goal.put_process-requires
put_process-requires c = entry_there c.self.inside c.args.self.now c.self.view_is c.args.path.now ∙ c.requires

same_room : (c : goal.After-put_process) → room_of (record c.self.inside { groups = c.put_process.new.self }) ≡ with_place (room_of c.self.inside) c.args.pid c.args.path.now
same_room c = place_written c.self.inside c.put_process.new.self c.args.pid c.args.path.now c.put_process.ensures.groups c.put_process.ensures.places

pub invariant_of-self : goal.invariant_of-self
invariant_of-self c = record {
  rooted =
      subst IsRooted (sym (same_room c))
      (place_put (room_of c.self.inside) c.args.pid c.args.path.now c.self.invariant.rooted c.names.ensures.valid (ap (λ t. has_entry t c.args.path.now) c.self.view_is ∙ c.requires));
  pids = c.self.invariant.pids ∙ sym (same_pids c.self.inside.groups.places c.args.pid c.args.path.now) ∙ ap keys (sym c.put_process.ensures.places);
  unlimited = λ no. subst AreUnlimited (sym (ap (λ t. t.tree.groups) (same_room c))) (c.self.invariant.unlimited no);
}

pub returns-clause-tree : goal.returns-clause-tree
returns-clause-tree c = ap (λ t. t.tree) (same_room c) ∙ ap (λ t. (with_place t c.args.pid c.args.path.now).tree) c.self.view_is

pub returns-clause-entries : goal.returns-clause-entries
returns-clause-entries c = ap (λ t. t.entries) (same_room c) ∙ ap (λ t. t.entries) c.self.view_is
