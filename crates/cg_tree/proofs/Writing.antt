-- The value of one setting is written in its place: no group comes or goes, and one may pass on others than before.
use Rattle.std.proofs.Common.{◌≡◌, ◌<◌, ◌^◌, ℕ, true, Option, Some, None, option_map, is_some, refl, ap, sym, ◌∙◌}
use Rattle.std.specs.Option.{option_flatten}
use Rattle.cg_maps.specs.FiniteMap.{get, len, set_at}
use Rattle.cg_maps.proofs.Maps.{set_same}
use Rattle.cg_name.specs.Order.{path_cmp_total, path_cmp_exact}
use Rattle.cg_name.specs.Path.{Path, is_parent}
use Rattle.cg_path_tree.specs.declared.node.NodeKey.{NodeKey}
use Rattle.cg_path_tree.specs.Nodes.{Nodes, with_value}
use Rattle.cg_text.specs.declared.controllers.Controllers.{Controllers}
use Rattle.cg_text.specs.declared.settings.Settings.{Settings}
use Rattle.cg_tree.specs.declared.entry.Entry.{Entry}
use Rattle.cg_tree.specs.declared.new_value.NewValue.{NewValue}
use Rattle.cg_tree.specs.declared.new_value.NewValue.TheVariants.{Control, Freeze, Cpus, MaxDescendants, MaxDepth}
use Rattle.cg_tree.specs.Entries.{entry_at, groups_in, held_in, passing_in, passing_of, path_at, populated_by_of, settings_of, with_passing, AreCounted, AreCountedBelow}
use Rattle.cg_tree.specs.NewValue.{with_new}
use Rattle.cg_tree.specs.Passing.{control_of, CanPass}
use Rattle.cg_tree.proofs.PassingOn.{all_counted, not_passing, room_to_pass, same_groups}
use Rattle.cg_tree.proofs.Putting.{counted_alike, written_groups}
use Rattle.cg_tree.proofs.Seeing.{get-seen, same_seen, seen_in_place}

still_there : (n : NewValue) (w : Option Settings) → is_some (with_new n w) ≡ is_some w
still_there n None = refl
still_there n (Some s) = refl

-- another setting than the controllers
pub same_control : (n : NewValue) (w : Option Settings) → ((v : Controllers) → n ≡ Control v → ⊥) → control_of w ≡ control_of (with_new n w)
same_control n None other = refl
same_control (Control v) (Some s) other = absurd (other v refl)
same_control (Freeze v) (Some s) other = refl
same_control (Cpus v) (Some s) other = refl
same_control (MaxDescendants v) (Some s) other = refl
same_control (MaxDepth v) (Some s) other = refl

module _ (a : Nodes Entry) (key : NodeKey) (e : Entry) (there : entry_at a key ≡ Some e) (n : NewValue) (counts : AreCounted a.values) where
  abbrev p : Path
  p = path_at a key

  abbrev s : Option Settings
  s = with_new n e.settings

  abbrev pub changed : Nodes Entry
  changed = with_value a p (record e { settings = s })

  had : get (groups_in a.values) p ≡ Some e.settings
  had = get-seen settings_of a.values p ∙ ap (option_map settings_of) there

  pub group_there : e.settings ≡ option_flatten (get (groups_in a.values) p)
  group_there = ap option_flatten (sym had)

  -- where there is no group, nothing is written
  pub none_changed : e.settings ≡ None → groups_in a.values ≡ set_at (groups_in a.values) p (option_map (with_new n) (get (groups_in a.values) p))
  none_changed none =
      let dead : get (groups_in a.values) p ≡ Some None = had ∙ ap Some none in
      sym (ap (λ w. set_at (groups_in a.values) p (option_map (with_new n) w)) dead
      ∙ ap (set_at (groups_in a.values) p) (sym dead)
      ∙ set_same path_cmp_total path_cmp_exact (groups_in a.values) p)

  below : AreCountedBelow a.values
  below q x h = (counts q x h).groups

  written : groups_in changed.values ≡ set_at (groups_in a.values) p (Some s)
  written = written_groups a key e there s below

  pub groups_changed : groups_in changed.values ≡ set_at (groups_in a.values) p (option_map (with_new n) (get (groups_in a.values) p))
  groups_changed = written ∙ ap (λ w. set_at (groups_in a.values) p (option_map (with_new n) w)) (sym had)

  pub held_alike : held_in changed.values ≡ held_in a.values
  held_alike = seen_in_place populated_by_of a.values p e there (record e { settings = s }) refl

  passing_alike : passing_in changed.values ≡ passing_in a.values
  passing_alike = seen_in_place passing_of a.values p e there (record e { settings = s }) refl

  counted_below : AreCountedBelow changed.values
  counted_below = counted_alike a key e there s below (still_there n e.settings)

  -- what the group passes on stays the same
  pub counted_as_before : control_of e.settings ≡ control_of s → AreCounted changed.values
  counted_as_before alike =
      all_counted a changed p e there s written counts passing_alike counted_below changed
      (λ q. not_passing (control_of e.settings) (control_of s) alike (is_parent q p) (get changed.values q))

  pub room_at_parent : (most : ℕ) → len changed.values ≡ most → most < 2 ^ 32 → (q : Path) (x : Entry) → is_parent q p ≡ true → get changed.values q ≡ Some x → CanPass (control_of e.settings) (control_of s) x.passing
  room_at_parent = room_to_pass a changed p e there s written counts passing_alike

  -- what it passes on is another set: counted at its parent
  module _ (c : Nodes Entry) (values : (q : Path) → get c.values q ≡ option_map (with_passing (control_of e.settings) (control_of s) (is_parent q p)) (get changed.values q)) where
    pub groups_passing : groups_in c.values ≡ set_at (groups_in a.values) p (option_map (with_new n) (get (groups_in a.values) p))
    groups_passing = same_groups a changed p e there s written counts passing_alike counted_below c values ∙ groups_changed

    pub counted_passing : AreCounted c.values
    counted_passing = all_counted a changed p e there s written counts passing_alike counted_below c values

    pub held_passing : held_in c.values ≡ held_in a.values
    held_passing = same_seen populated_by_of c.values changed.values (λ q. with_passing (control_of e.settings) (control_of s) (is_parent q p)) (λ q x. refl) values ∙ held_alike
