-- At every stage what is neither a group nor needed may be swept, lower paths first; also where each stack is cut to a part
-- that is newer than the rest.
use Rattle.std.proofs.Common.{◌≡◌, ℕ, Bool, true, false, not, List, [], ◌∷◌, ◌++◌, inl, inr, ◌⊎◌, refl, sym, ap, subst, Option, Some, None}
use Rattle.std.specs.Option.{is_some}
use Rattle.std.specs.List.{AllByRecursion, list_any}
use Rattle.std.proofs.lemmas.Bool.{eq-eqb, and_parts, and_right, or_parts, or_cases, or_from, or_left, or_right, both_ways, false_from_ne_true}
use Rattle.cg_name.specs.Path.{Path, is_above}
use Rattle.cg_text.specs.declared.settings.Settings.{Settings}
use Rattle.cg_model.specs.Tree.{Tree, group}
use Rattle.cg_model.specs.Cgroups.{cgroups}
use Rattle.cg_model.specs.Opens.{among}
use Rattle.cg_model.specs.Live.{Items}
use Rattle.cg_model.specs.Room.{needs_group, is_needed, has_entry, MaySweep, swept}
use Rattle.cg_core_laws.specs.Room.{is_listed, MaySweepTheRest}
use Rattle.cg_model_laws.proofs.Paths.{same_path-is, same_path-from}
use Rattle.cg_core_laws.proofs.ControlGroups.UnwindingStages.{Stage, stage_sound}
use Rattle.cg_core_laws.proofs.ControlGroups.NeededAbove.{IsAbsent, absent_below, needs_above}

not_above_itself : (p : Path) → is_above p p ≡ false
not_above_itself [] = refl
not_above_itself (n ∷ p) = and_right _ _ (not_above_itself p)

none_there : (o : Option Settings) → is_some o ≡ false → o ≡ None
none_there None e = refl
none_there (Some s) e = absurd (cc e)

-- a path that is listed has what each of the list has
listed : (P : Path → Type 0) (q : Path) (ps : List Path) → AllByRecursion P ps → is_listed q ps ≡ true → P q
listed P q [] h e = absurd (cc e)
listed P q (p ∷ ps) h e = elim (or_cases _ _ e) [
  | inl same ↦ subst P (sym (same_path-is q p same)) h.0
  | inr later ↦ listed P q ps h.1 later
]

-- where each of these transactions that needs the one path needs the other, some that need the one need the other
pub needed_with : (f g : ℕ → Bool) (ts us : List ℕ) → ((u : ℕ) → among u ts ≡ true → f u ≡ true → g u ≡ true) → ((u : ℕ) → among u us ≡ true → among u ts ≡ true) → list_any f us ≡ true → list_any g us ≡ true
needed_with f g ts [] h within e = e
needed_with f g ts (u ∷ us) h within e = elim (or_cases _ _ e) [
  | inl here ↦ or_left _ _ (h u (within u (or_left _ _ (eq-eqb u u refl))) here)
  | inr later ↦ or_right _ _ (needed_with f g ts us h (λ v m. within v (or_right _ _ m)) later)
]

module _ {O : Tree} {ts : List ℕ} {stacks : ℕ → Items cgroups} {T : Tree} (stage : Stage O ts stacks T) (newer : ℕ → Items cgroups) (whole : (u : ℕ) → (older : Items cgroups) × (stacks u ≡ newer u ++ older)) where
  abbrev entry : Path → Bool
  entry p = has_entry O newer ts T p

  -- where a path is needed, so are the absent ones above it
  needed_above : (p q : Path) → is_above p q ≡ true → IsAbsent T p → is_needed O newer ts q ≡ true → is_needed O newer ts p ≡ true
  needed_above p q above absent =
      needed_with (λ u. needs_group O q (newer u)) (λ u. needs_group O p (newer u)) ts ts
      (λ u is_open h. let (older, e) = whole u in needs_above u is_open p q above (newer u) older stage e absent h) (λ u m. m)

  -- below a path without an entry no path has one
  none_below : (p q : Path) → is_above p q ≡ true → entry p ≡ false → entry q ≡ false
  none_below p q above e =
      let (absent, free) = or_parts _ _ e in
      or_from _ _ (absent_below T (stage_sound stage) p q above absent) (false_from_ne_true _ (λ needed. both_ways _ free (needed_above p q above absent needed)))

  -- the first of those that are left may be swept
  may_sweep : (E : Path → Bool) (p : Path) (ps : List Path) → ((q : Path) → E q ≡ true → (entry q ≡ true) ⊎ (is_listed q (p ∷ ps) ≡ true)) → entry p ≡ false → AllByRecursion (λ q. is_above p q ≡ false) ps → MaySweep T E p
  may_sweep E p ps within e lower = record {
    dead = none_there (group T p) (or_parts _ _ e).0;
    below = λ q above. false_from_ne_true _ (λ has. elim (within q has) [
      | inl k ↦ both_ways _ (none_below p q above e) k
      | inr k ↦ both_ways _ (listed (λ r. is_above p r ≡ false) q (p ∷ ps) (not_above_itself p, lower) k) above
    ]);
    unused = λ k at.
        let (s, there, admitted) = (stage_sound stage).process k p at in
        both_ways _ (or_parts _ _ e).0 (ap is_some there);
  }

  pub sweeps : MaySweepTheRest O newer ts T
  sweeps E [] within free lower = tt
  sweeps E (p ∷ ps) within free lower = (
    may_sweep E p ps within free.0 lower.0,
    sweeps (swept p E) ps (λ q e. let (has, other) = and_parts _ _ e in elim (within q has) [
      | inl k ↦ inl k
      | inr k ↦ elim (or_cases _ _ k) [
        | inl same ↦ absurd (both_ways _ (ap not (same_path-from p q (sym (same_path-is q p same)))) other)
        | inr later ↦ inr later
      ]
    ]) free.1 lower.1,
  )
