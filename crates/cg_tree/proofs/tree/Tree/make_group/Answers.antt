-- The entry is made where there is none, and the group is put there.
use Rattle.std.proofs.Common.{◌≡◌, ◌<◌, true, Some, sym, ap, subst, ◌∙◌, arith}
use Rattle.std.proofs.lemmas.Bool.{false≢true}
use Rattle.cg_maps.specs.FiniteMap.{set_at, keys}
use Rattle.cg_maps.specs.FiniteSet.{has}
use Rattle.cg_world.specs.Representable.{AreCpusUpTo}
use Rattle.cg_tree.specs.Inside.{room_of}
use Rattle.cg_tree.specs.Present.{present}
use Rattle.cg_tree.specs.Unlimited.{AreUnlimited}
use Rattle.cg_tree.specs.Room.{IsRooted, may_have_entry}
use Rattle.cg_tree.proofs.Rooms.{entry_there, group_made, parent_has_entry, with_map}
use Rattle.cg_tree.proofs.Rooting.{with_group, added_here, entry_added, entry_put, group_put}
use Rattle.cg_tree.proofs.Unlimited.{first_false, second_false, unlimited_put}
use Rattle.cg_tree.proofs.tree.Tree.make_group.Goals as goal
use Rattle.cg_tree.proofs.tree.Tree.make_group.Goals.{In_ok-make_group}

made : (c : In_ok-make_group) → room_of (with_map c.self.inside c.args.path.now c.make_group.new.self c.make_group.ensures.places) ≡ with_group (entry_added (room_of c.self.inside) c.args.path.now c.self.invariant.rooted) c.args.path.now (Some c.args.settings)
made c = group_made c.self.inside c.args.path.now c.make_group.new.self c.make_group.ensures.places c.args.settings c.in_ok-make_group.ensures.ok

pub make_group-requires : goal.make_group-requires
make_group-requires c = parent_has_entry c.self.inside c.args.self.now c.self.view_is c.args.path.now c.requires

pub invariant_of-self-2 : goal.invariant_of-self-2
invariant_of-self-2 c =
    let same = made (goal.at.invariant_of-self-2 c).In_ok-make_group in
    let t = room_of c.self.inside in
    let rooted = c.self.invariant.rooted in
    let low : AreCpusUpTo 1023 c.args.settings.cpus = λ n h. let below : n < 1024 = c.contains.ensures.below n (subst (λ s. has s n ≡ true) (sym c.cpus.ensures) h) in omega arith in
    record {
      rooted =
          subst IsRooted (sym same)
          (group_put (entry_added t c.args.path.now rooted) c.args.path.now (Some c.args.settings)
          (entry_put t c.args.path.now rooted (ap (λ u. may_have_entry u.tree c.args.path.now) c.self.view_is ∙ c.requires))
          c.names.ensures.valid low (λ some. added_here t c.args.path.now rooted));
      pids = c.self.invariant.pids ∙ ap keys (sym c.make_group.ensures.places);
      unlimited = λ no.
          subst AreUnlimited (sym (ap (λ u. u.tree.groups) same))
          (unlimited_put (present c.self.inside.groups.groups) c.args.path.now (Some c.args.settings) (c.self.invariant.unlimited (first_false c.self.inside.may_limit c.is_limited-is_limited.result no))
          (let few = second_false c.self.inside.may_limit c.is_limited-is_limited.result no in record { descendants = sym c.max_descendants.ensures ∙ c.is_limited-is_limited.ensures.descendants few; depth = sym c.max_depth.ensures ∙ c.is_limited-is_limited.ensures.depth few }));
    }

pub returns-clause-tree : goal.returns-clause-tree
returns-clause-tree c = ap (λ t. t.tree) (made (goal.at.returns-clause-tree c).In_ok-make_group) ∙ ap (λ t. (with_group t c.args.path.now (Some c.args.settings)).tree) c.self.view_is

pub returns-clause-entries : goal.returns-clause-entries
returns-clause-entries c = ap (λ t. t.entries) (made (goal.at.returns-clause-entries c).In_ok-make_group) ∙ ap (λ t. set_at t.entries c.args.path.now (Some tt)) c.self.view_is

pub returns-in_err-make_group-clause-has_room : goal.returns-in_err-make_group-clause-has_room
returns-in_err-make_group-clause-has_room c room = absurd (false≢true (c.in_err-make_group.ensures.there (entry_there c.self.inside c.args.self.now c.self.view_is c.args.path.now ∙ room)))
