-- What is taken away is dead, or wasn't there.
use Rattle.std.proofs.Common.{◌≡◌, None, refl, sym, ap, subst, ◌∙◌}
use Rattle.cg_maps.specs.FiniteMap.{set_at, domain, keys}
use Rattle.cg_model.specs.Tree.{group}
use Rattle.cg_tree.specs.Inside.{room_of}
use Rattle.cg_tree.specs.Unlimited.{AreUnlimited}
use Rattle.cg_tree.specs.Room.{IsRooted, MaySweepIfDead}
use Rattle.cg_tree.proofs.Rooms.{entry_removed, none_in_it, none_right_below, none_there, settings_there, with_map, dead_swept}
use Rattle.cg_tree.proofs.Rooting.{with_entries, entry_swept_if_dead}
use Rattle.cg_tree.proofs.tree.Tree.sweep.Goals as goal

no_group : (c : goal.After-remove) → group c.args.self.now.tree c.args.path.now ≡ None
no_group c = none_there _ (sym c.find.ensures.value ∙ c.if-not-find.true)

removed : (c : goal.After-remove) → room_of (with_map c.self.inside c.args.path.now c.remove.new.self c.remove.ensures.places) ≡ with_entries (room_of c.self.inside) (set_at (domain c.self.inside.groups.groups) c.args.path.now None)
removed c = entry_removed c.self.inside c.args.path.now c.remove.new.self c.remove.ensures.places c.remove.ensures.groups (ap (λ t. group t.tree c.args.path.now) c.self.view_is ∙ no_group c)

pub remove-requires-clause-dead : goal.remove-requires-clause-dead
remove-requires-clause-dead c = settings_there c.self.inside c.args.self.now c.self.view_is c.args.path.now _ refl ∙ none_there _ (sym c.find.ensures.value ∙ c.if-not-find.true)

pub remove-requires-clause-leaf : goal.remove-requires-clause-leaf
remove-requires-clause-leaf c = none_right_below c.self.inside c.args.self.now c.self.view_is c.args.path.now (none_there _ (sym c.find.ensures.value ∙ c.if-not-find.true)) c.requires

pub remove-requires-clause-unused : goal.remove-requires-clause-unused
remove-requires-clause-unused c = none_in_it c.self.inside c.args.self.now c.self.view_is c.args.path.now (none_there _ (sym c.find.ensures.value ∙ c.if-not-find.true)) c.requires

pub invariant_of-self : goal.invariant_of-self
invariant_of-self c = record {
  rooted =
      subst IsRooted (sym (removed c))
      (entry_swept_if_dead (room_of c.self.inside) c.args.path.now c.self.invariant.rooted (ap (λ t. group t.tree c.args.path.now) c.self.view_is ∙ no_group c)
      (subst (λ t. MaySweepIfDead t c.args.path.now) (sym c.self.view_is) c.requires));
  pids = c.self.invariant.pids ∙ ap keys (sym c.remove.ensures.places);
  unlimited = λ no. subst AreUnlimited (sym (ap (λ t. t.tree.groups) (removed c))) (c.self.invariant.unlimited no);
}

pub returns-then-not-find-clause-tree : goal.returns-then-not-find-clause-tree
returns-then-not-find-clause-tree c = ap (λ t. t.tree) (removed c) ∙ ap (λ t. t.tree) c.self.view_is

pub returns-then-not-find-clause-entries : goal.returns-then-not-find-clause-entries
returns-then-not-find-clause-entries c =
    ap (λ t. t.entries) (removed c) ∙ ap (λ t. set_at t.entries c.args.path.now None) c.self.view_is ∙ sym (dead_swept c.args.self.now c.args.path.now (no_group c))
