-- Below a path that is absent at a stage there is no group, and what a stack needs below it is needed with the path itself: a
-- group that is put back finds those above it, unless newer inverses of its own stack put them back first.
use Rattle.std.proofs.Common.{◌≡◌, ℕ, true, false, ◌||◌, List, [], ◌∷◌, ◌++◌, inl, inr, refl, subst, ◌∙◌, Option, Some, None}
use Rattle.std.specs.Option.{is_some}
use Rattle.std.proofs.lemmas.Bool.{and_parts, and_from, or_cases, or_from, both_ways}
use Rattle.cg_name.specs.Path.{Path, is_prefix, is_above, is_parent}
use Rattle.cg_text.specs.declared.settings.Settings.{Settings}
use Rattle.cg_model.specs.Tree.{Tree, group}
use Rattle.cg_model.specs.Sound.{Sound}
use Rattle.cg_model.specs.Change.{Change, undone}
use Rattle.cg_model.specs.Cgroups.{cgroups}
use Rattle.cg_model.specs.Opens.{among}
use Rattle.cg_model.specs.Live.{Items}
use Rattle.cg_model.specs.Room.{changes_group, inverse, needs_group}
use Rattle.cg_core_laws.specs.Unwind.{with_items}
use Rattle.cg_name.proofs.Packing.{same_name-is, same_name-itself}
use Rattle.cg_model_laws.proofs.Paths.{never, above-prefix}
use Rattle.cg_core_laws.proofs.ControlGroups.GroupChanges.{there_undone, there_before_or_after}
use Rattle.cg_core_laws.proofs.ControlGroups.UnwindingStages.{Stage, IsNewest, own_items, stage_sound, newest, next_stage}

abbrev pub IsAbsent : Tree → Path → Type 0
IsAbsent T p = is_some (group T p) ≡ false

-- where each is absent with its parent, each is absent with any above it
absent_down : (f : Path → Option Settings) → ((a b : Path) → is_parent a b ≡ true → is_some (f a) ≡ false → is_some (f b) ≡ false) → (p q : Path) → is_prefix p q ≡ true → is_some (f p) ≡ false → is_some (f q) ≡ false
absent_down f step [] [] e h = h
absent_down f step [] (m ∷ q) e h = absent_down (λ x. f (m ∷ x)) (λ a b k. step (m ∷ a) (m ∷ b) (and_from _ _ (same_name-itself m) k)) [] q refl (step [] (m ∷ []) refl h)
absent_down f step (n ∷ p) [] e h = never e
absent_down f step (n ∷ p) (m ∷ q) e h =
    let (names, rest) = and_parts _ _ e in
    absent_down (λ x. f (m ∷ x)) (λ a b k. step (m ∷ a) (m ∷ b) (and_from _ _ (same_name-itself m) k)) p q rest (subst (λ x. is_some (f (x ∷ p)) ≡ false) (same_name-is n m names) h)

module _ (T : Tree) (sound : Sound T) where
  absent_child : (p q : Path) → is_parent p q ≡ true → IsAbsent T p → IsAbsent T q
  absent_child p q a h = elim (group T q) as (λ o. group T q ≡ o → is_some o ≡ false) [
    | None ↦ λ e. refl
    | Some s ↦ λ e. let (u, there, fits) = sound.child p q s a e in subst (λ o. is_some o ≡ false) there h
  ] refl

  pub absent_below : (p q : Path) → is_above p q ≡ true → IsAbsent T p → IsAbsent T q
  absent_below p q a h = absent_down (group T) absent_child p q (above-prefix p q a) h

module _ {O : Tree} {ts : List ℕ} (u : ℕ) (is_open : among u ts ≡ true) (p q : Path) (above : is_above p q ≡ true) where
  -- the part of a stack above any of its items needs p, where p is absent and it needs q
  pub needs_above : (newer older : Items cgroups) {stacks : ℕ → Items cgroups} {T : Tree} → Stage O ts stacks T → stacks u ≡ newer ++ older → IsAbsent T p → needs_group O q newer ≡ true → needs_group O p newer ≡ true
  needs_above [] older stage e absent h = h
  needs_above (x ∷ l) older {stacks} {T} stage e absent h =
      let cs : List Change = inverse O x in
      let before : Tree = undone cs T in
      let next : Stage O ts (with_items u (l ++ older) stacks) before = next_stage stage u x (l ++ older) is_open e in
      let top : IsNewest x cs T = newest stage u x (l ++ older) is_open e in
      elim (changes_group p cs) as (λ b. changes_group p cs ≡ b → (b || needs_group O p l) ≡ true) [
        | true ↦ λ own. refl
        | false ↦ λ other.
            let still : IsAbsent before p = there_undone p cs T other ∙ absent in
            let nowhere = or_from _ _ (absent_below before (stage_sound next) p q above still) (absent_below T (stage_sound stage) p q above absent) in
            elim (or_cases _ _ h) [
              | inl here ↦ absurd (both_ways _ nowhere (there_before_or_after q before T cs top.tell top.fits here))
              | inr later ↦ needs_above l older next (own_items u (l ++ older) stacks) still later
            ]
      ] refl
