use Rattle.std.proofs.Common.{sym, ap, subst, ◌∙◌}
use Rattle.std.specs.Ordering.{nat_cmp}
use Rattle.cg_maps.specs.FiniteMap.{domain, from_entries, keys}
use Rattle.cg_name.specs.Path.{path_cmp}
use Rattle.cg_model.specs.Tree.{Tree}
use Rattle.cg_tree.specs.declared.tree.Tree.TheInside.{Inside}
use Rattle.cg_tree.specs.Unlimited.{AreUnlimited}
use Rattle.cg_tree.specs.Present.{present}
use Rattle.cg_tree.specs.Room.{IsRooted, HaveParents}
use Rattle.cg_tree.proofs.WorldGroups.{sound_parents}
use Rattle.cg_tree.proofs.Listing.{places_have_entries, world_room}
use Rattle.cg_tree.proofs.Rooting.{sound_rooted}
use Rattle.cg_tree.proofs.tree.Tree.from_world.Goals as goal

pub with_entries-requires : goal.with_entries-requires
with_entries-requires c = subst HaveParents (sym (c.groups-listed.ensures ∙ ap (λ (T : Tree). T.groups) c.tree-plain.ensures.value)) (sound_parents c.args.world.now c.tree-plain.ensures.sound)

pub add_processes-requires-clause-entries : goal.add_processes-requires-clause-entries
add_processes-requires-clause-entries c =
    let plain : Tree = record c.tree-plain.result.now { groups = from_entries path_cmp c.groups-listed.result.now.entries; places = from_entries nat_cmp c.places-places.result.now.entries } in
    places_have_entries c.args.world.now plain ((λ i. record c.tree-plain.result.now { groups = c.groups-listed.ensures i; places = c.places-places.ensures i }) ∙ c.tree-plain.ensures.value) c.tree-plain.ensures.sound c.in_ok-groups.groups.groups c.in_ok-groups.ensures.entries

pub invariant_of-result : goal.invariant_of-result
invariant_of-result c =
    let made : Inside = record {
      controllers = c.controllers.result;
      online = c.online.result;
      groups = c.add_processes.new.groups;
      pids = c.in_ok-pids_of.field-0;
      may_limit = c.have_limit.result;
      texts = c.new.result;
      room = c.new-2.result;
    } in
    let groups = c.add_processes.ensures.groups in
    record {
      rooted =
          subst IsRooted
          (sym (world_room made c.args.world.now ((λ i. record { controllers = c.controllers.ensures.value i; online = c.online.ensures i; groups = c.groups-listed.ensures i; places = c.places-places.ensures i }) ∙ c.tree-plain.ensures.value) (ap present groups ∙ c.in_ok-groups.ensures.groups) (ap domain groups ∙ c.in_ok-groups.ensures.entries) c.in_ok-add_processes.ensures.places))
          (sound_rooted c.args.world.now c.tree-plain.ensures.sound c.tree-plain.ensures.valid);
      pids = c.in_ok-pids_of.ensures ∙ ap keys (sym c.in_ok-add_processes.ensures.places);
      unlimited = λ no. subst AreUnlimited (sym (ap present groups ∙ c.in_ok-groups.ensures.groups)) (c.have_limit.ensures no);
    }
