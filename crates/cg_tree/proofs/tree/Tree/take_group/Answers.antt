-- No settings are put in the place of the group's.
use Rattle.std.proofs.Common.{◌≡◌, Option, None, Some, IsSome, refl, sym, ap, subst, ◌∙◌}
use Rattle.std.proofs.lemmas.Bool.{false≢true}
use Rattle.std.specs.Option.{option_flatten}
use Rattle.cg_maps.specs.FiniteMap.{keys}
use Rattle.cg_text.specs.declared.settings.Settings.{Settings}
use Rattle.cg_tree.specs.Inside.{room_of}
use Rattle.cg_tree.specs.Unlimited.{AreUnlimited}
use Rattle.cg_tree.specs.Present.{present}
use Rattle.cg_tree.specs.Room.{IsRooted}
use Rattle.cg_tree.proofs.Unlimited.{unlimited_put}
use Rattle.cg_tree.proofs.Rooms.{group_replaced, settings_there, with_map}
use Rattle.cg_tree.proofs.Rooting.{with_group, group_put}
use Rattle.cg_tree.proofs.tree.Tree.take_group.Goals as goal

same_room : (c : goal.After-replace) → room_of (with_map c.self.inside c.args.path.now c.replace.new.self c.replace.ensures.places) ≡ with_group (room_of c.self.inside) c.args.path.now None
same_room c = group_replaced c.self.inside c.args.path.now c.replace.new.self c.replace.ensures.places None c.replace.ensures.there c.replace.ensures.absent (λ some. absurd (false≢true some))

pub invariant_of-self : goal.invariant_of-self
invariant_of-self c = record {
  rooted = subst IsRooted (sym (same_room c)) (group_put (room_of c.self.inside) c.args.path.now None c.self.invariant.rooted c.names.ensures.valid tt (λ some. absurd (false≢true some)));
  pids = c.self.invariant.pids ∙ ap keys (sym c.replace.ensures.places);
  unlimited = λ no. subst AreUnlimited (sym (ap (λ t. t.tree.groups) (same_room c))) (unlimited_put (present c.self.inside.groups.groups) c.args.path.now None (c.self.invariant.unlimited no) tt);
}

-- what was put there, or left where there is no entry
before : (w : Option (Option Settings)) (s : Option Settings) → (IsSome w → s ≡ option_flatten w) → (w ≡ None → s ≡ None) → s ≡ option_flatten w
before None s there absent = absent refl
before (Some x) s there absent = there refl

pub returns-clause-group : goal.returns-clause-group
returns-clause-group c =
    before _ c.replace.new.settings c.replace.ensures.before c.replace.ensures.untouched
    ∙ settings_there c.self.inside c.args.self.now c.self.view_is c.args.path.now _ refl

pub returns-clause-tree : goal.returns-clause-tree
returns-clause-tree c = ap (λ t. t.tree) (same_room c) ∙ ap (λ t. (with_group t c.args.path.now None).tree) c.self.view_is

pub returns-clause-entries : goal.returns-clause-entries
returns-clause-entries c = ap (λ t. t.entries) (same_room c) ∙ ap (λ t. t.entries) c.self.view_is
