-- What the fields mean, as the map of the groups is read and written.
use Rattle.std.proofs.lemmas.Bool.{false≢true}
use Rattle.std.proofs.Common.{◌≡◌, ◌≢◌, ◌∷◌, [], ℕ, IsSome, true, false, Option, Some, None, is_some, not, ◌&&◌, ◌||◌, refl, sym, ap, ◌∙◌, cond, option_map}
use Rattle.std.specs.Option.{option_flatten}
use Rattle.cg_maps.specs.FiniteMap.{get, set_at, domain}
use Rattle.cg_maps.proofs.Maps.{get-domain, set_same}
use Rattle.cg_name.specs.Path.{Path, is_parent, is_root}
use Rattle.cg_name.specs.Order.{path_cmp_total, path_cmp_exact}
use Rattle.cg_text.specs.declared.settings.Settings.{Settings}
use Rattle.cg_model.specs.Tree.{group, place_of, parent_group}
use Rattle.cg_tree.specs.declared.tree.Tree.TheInside.{Inside}
use Rattle.cg_tree.specs.Contents.{Contents}
use Rattle.cg_tree.specs.Inside.{room_of}
use Rattle.cg_tree.specs.declared.new_value.NewValue.{NewValue}
use Rattle.cg_tree.specs.NewValue.{with_new}
use Rattle.cg_tree.specs.Present.{present}
use Rattle.cg_tree.specs.Room.{TreeWithRoom, has_entry, may_have_entry, without_dead, MaySweepIfDead}
use Rattle.cg_tree.proofs.Presence.{nothing, get-present, present-set, present_kept, is_some-domain, domain-set, domain-replaced}
use Rattle.cg_tree.proofs.Climbing.{parent_is_above}
use Rattle.cg_tree.proofs.Prefixes.{parent_along}
use Rattle.cg_tree.proofs.Rooting.{with_group, with_entries}
use Rattle.cg_path_tree.specs.Nodes.{parent_path}

pub none_there : {X : Type 0} (w : Option X) → is_some w ≡ false → w ≡ None
none_there None e = refl
none_there (Some x) e = cc

-- the settings at a path, and whether there is an entry
pub settings_there : (t : Inside) (u : TreeWithRoom) → room_of t ≡ u → (p : Path) (w : Option (Option Settings)) → w ≡ get t.groups.groups p → option_flatten w ≡ group u.tree p
settings_there t u is p w e = ap option_flatten e ∙ sym (get-present path_cmp_total path_cmp_exact t.groups.groups p) ∙ ap (λ v. group v.tree p) is

pub entry_there : (t : Inside) (u : TreeWithRoom) → room_of t ≡ u → (p : Path) → is_some (get t.groups.groups p) ≡ has_entry u p
entry_there t u is p = sym (is_some-domain path_cmp_total path_cmp_exact t.groups.groups p) ∙ ap (λ v. has_entry v p) is

new_flattened : (n : NewValue) (w : Option (Option Settings)) → option_flatten (option_map (with_new n) w) ≡ with_new n (option_flatten w)
new_flattened n None = refl
new_flattened n (Some x) = refl

nothing_mapped : {X Y : Type 0} (f : X → Y) (w : Option X) → nothing (option_map f w) ≡ nothing w
nothing_mapped f None = refl
nothing_mapped f (Some x) = refl

module _ (t : Inside) (p : Path) (g : Contents) (same : g.places ≡ t.groups.places) where
  abbrev pub with_map : Inside
  with_map = record t { groups = g }

  -- settings in the place of an entry
  group_written : (s : Option Settings) → g.groups ≡ set_at t.groups.groups p (Some s) → is_some (get t.groups.groups p) ≡ true → room_of with_map ≡ with_group (room_of t) p s
  group_written s e h =
      let groups : present g.groups ≡ set_at (present t.groups.groups) p s = ap present e ∙ present-set path_cmp_total path_cmp_exact t.groups.groups p (Some s) in
      let entries : domain g.groups ≡ domain t.groups.groups = ap domain e ∙ domain-replaced path_cmp_total path_cmp_exact t.groups.groups p s h in
      λ i. record { tree = record (room_of t).tree { groups = groups i; places = same i }; entries = entries i }

  -- a value of a group that may be there
  pub value_written : (n : NewValue) → g.groups ≡ set_at t.groups.groups p (option_map (with_new n) (get t.groups.groups p)) → room_of with_map ≡ with_group (room_of t) p (with_new n (group (room_of t).tree p))
  value_written n e =
      let groups : present g.groups ≡ set_at (present t.groups.groups) p (with_new n (group (room_of t).tree p)) =
      ap present e
      ∙ present-set path_cmp_total path_cmp_exact t.groups.groups p (option_map (with_new n) (get t.groups.groups p))
      ∙ ap (set_at (present t.groups.groups) p) (new_flattened n (get t.groups.groups p) ∙ ap (with_new n) (settings_there t (room_of t) refl p _ refl)) in
      let entries : domain g.groups ≡ domain t.groups.groups =
      ap domain e
      ∙ domain-set path_cmp_total path_cmp_exact t.groups.groups p (option_map (with_new n) (get t.groups.groups p))
      ∙ ap (set_at (domain t.groups.groups) p) (nothing_mapped (with_new n) (get t.groups.groups p) ∙ sym (get-domain t.groups.groups p))
      ∙ set_same path_cmp_total path_cmp_exact (domain t.groups.groups) p in
      λ i. record { tree = record (room_of t).tree { groups = groups i; places = same i }; entries = entries i }

  -- a group in its entry, or in one that is made
  pub group_made : (s : Settings) → g.groups ≡ set_at t.groups.groups p (Some (Some s)) → room_of with_map ≡ with_group (with_entries (room_of t) (set_at (domain t.groups.groups) p (Some tt))) p (Some s)
  group_made s e =
      let groups : present g.groups ≡ set_at (present t.groups.groups) p (Some s) = ap present e ∙ present-set path_cmp_total path_cmp_exact t.groups.groups p (Some (Some s)) in
      let entries : domain g.groups ≡ set_at (domain t.groups.groups) p (Some tt) = ap domain e ∙ domain-set path_cmp_total path_cmp_exact t.groups.groups p (Some (Some s)) in
      λ i. record { tree = record (room_of t).tree { groups = groups i; places = same i }; entries = entries i }

  pub entry_removed : g.groups ≡ set_at t.groups.groups p None → group (room_of t).tree p ≡ None → room_of with_map ≡ with_entries (room_of t) (set_at (domain t.groups.groups) p None)
  entry_removed e h =
      let groups : present g.groups ≡ present t.groups.groups = ap present e ∙ present_kept path_cmp_total path_cmp_exact t.groups.groups p None (settings_there t (room_of t) refl p _ refl ∙ h) refl in
      let entries : domain g.groups ≡ set_at (domain t.groups.groups) p None = ap domain e ∙ domain-set path_cmp_total path_cmp_exact t.groups.groups p None in
      λ i. record { tree = record (room_of t).tree { groups = groups i; places = same i }; entries = entries i }

-- the entry of no group goes
pub dead_swept : (u : TreeWithRoom) (p : Path) → group u.tree p ≡ None → without_dead u p ≡ set_at u.entries p None
dead_swept u p e = ap (λ s. cond (is_some s) u.entries (set_at u.entries p None)) e

-- no settings where there is no entry are none
nothing_written : (t : Inside) (p : Path) (s : Option Settings) → None ≡ get t.groups.groups p → (IsSome s → has_entry (room_of t) p ≡ true) → room_of t ≡ with_group (room_of t) p s
nothing_written t p (Some s) e room = absurd (false≢true (ap is_some e ∙ entry_there t (room_of t) refl p ∙ room refl))
nothing_written t p None e room =
    let none : None ≡ group (room_of t).tree p = settings_there t (room_of t) refl p None e in
    λ i. record { tree = record (room_of t).tree { groups = sym (ap (set_at (present t.groups.groups) p) none ∙ set_same path_cmp_total path_cmp_exact (present t.groups.groups) p) i }; entries = domain t.groups.groups }

-- settings in the place of those at a path, where there is an entry
pub group_replaced : (t : Inside) (p : Path) (g : Contents) (same : g.places ≡ t.groups.places) (s : Option Settings) → (IsSome (get t.groups.groups p) → g.groups ≡ set_at t.groups.groups p (Some s)) → (get t.groups.groups p ≡ None → g.groups ≡ t.groups.groups) → (IsSome s → has_entry (room_of t) p ≡ true)
    → room_of (with_map t p g same) ≡ with_group (room_of t) p s
group_replaced t p g same s there absent room = by (get t.groups.groups p) refl
  where
    by : (w : Option (Option Settings)) → get t.groups.groups p ≡ w → room_of (with_map t p g same) ≡ with_group (room_of t) p s
    by None e =
        ap (λ (h : Contents). room_of (record t { groups = h })) (λ i. record { groups = absent e i; places = same i })
        ∙ nothing_written t p s (sym e) room
    by (Some x) e = group_written t p g same s (there (ap is_some e)) (ap is_some e)

-- the settings of the parent, which the root has not
pub parent_there : (t : Inside) (u : TreeWithRoom) → room_of t ≡ u → (p : Path) (w : Option (Option Settings)) → (is_root p ≡ true → w ≡ None) → (is_root p ≡ false → w ≡ get t.groups.groups (parent_path p)) → option_flatten w ≡ parent_group u.tree p
parent_there t u is [] w root below = ap option_flatten (root refl)
parent_there t u is (n ∷ p) w root below = settings_there t u is (parent_path (n ∷ p)) w (below refl) ∙ sym (parent_along (group u.tree) (n ∷ p) refl)

-- where an entry may be made, the parent has one
pub parent_has_entry : (t : Inside) (u : TreeWithRoom) → room_of t ≡ u → (p : Path) → may_have_entry u.tree p ≡ true → is_root p ≡ false → IsSome (get t.groups.groups (parent_path p))
parent_has_entry t u is p may deep =
    let group_there : is_some (parent_group u.tree p) ≡ true = sym (ap (λ b. b || is_some (parent_group u.tree p)) deep) ∙ may in
    flattened (get t.groups.groups (parent_path p)) (ap is_some (settings_there t u is (parent_path p) _ refl ∙ sym (parent_along (group u.tree) p deep)) ∙ group_there)
  where
    flattened : (w : Option (Option Settings)) → is_some (option_flatten w) ≡ true → is_some w ≡ true
    flattened None h = h
    flattened (Some x) h = refl

-- no entry is right below one that may be swept
pub none_right_below : (t : Inside) (u : TreeWithRoom) → room_of t ≡ u → (p : Path) → group u.tree p ≡ None → MaySweepIfDead u p → IsSome (get t.groups.groups p) → (q : Path) → is_parent p q ≡ true → get t.groups.groups q ≡ None
none_right_below t u is p none may some q h =
    let dead : has_entry u p && not (is_some (group u.tree p)) ≡ true = λ i. (sym (entry_there t u is p) ∙ some) i && not (is_some (none i)) in
    none_there _ (entry_there t u is q ∙ (may dead).below q (parent_is_above p q h))

-- and no process is in it
pub none_in_it : (t : Inside) (u : TreeWithRoom) → room_of t ≡ u → (p : Path) → group u.tree p ≡ None → MaySweepIfDead u p → IsSome (get t.groups.groups p) → (k : ℕ) → get t.groups.places k ≢ Some p
none_in_it t u is p none may some k at =
    let dead : has_entry u p && not (is_some (group u.tree p)) ≡ true = λ i. (sym (entry_there t u is p) ∙ some) i && not (is_some (none i)) in
    (may dead).unused k (sym (ap (λ v. place_of v.tree k) is) ∙ at)
