-- Commands that mark the subtree of a group: each of them finds the group there, makes it or takes it away, and whatever makes
-- it or takes it away marks it. So what a stack marks below an absent path, going back needs.
use Rattle.std.proofs.Common.{◌≡◌, ℕ, Bool, true, false, cond, ◌||◌, List, [], ◌∷◌, ◌++◌, inl, inr, refl, sym, ap, subst, ◌∙◌, Some}
use Rattle.std.specs.Option.{is_some}
use Rattle.std.proofs.lemmas.Bool.{cond_both, or_cases, or_left, or_right, both_ways}
use Rattle.cg_maps.specs.FiniteMap.{empty}
use Rattle.cg_maps.specs.FiniteSet.{is_empty_set}
use Rattle.cg_name.specs.Path.{Path, same_path}
use Rattle.cg_text.specs.declared.controllers.Controllers.{Controllers}
use Rattle.cg_text.specs.declared.settings.Settings.{Settings}
use Rattle.cg_model.specs.System.{Outcome, Accept}
use Rattle.cg_model.specs.Tree.{Tree, group}
use Rattle.cg_model.specs.Derived.{children}
use Rattle.cg_model.specs.Sound.{Sound}
use Rattle.cg_model.specs.Key.{Part}
use Rattle.cg_model.specs.Key as keys
use Rattle.cg_model.specs.Change.{Change, change, undone}
use Rattle.cg_model.specs.Command.{Command, Effect, IsAccepted}
use Rattle.cg_model.specs.Control.{planned, emptied, loses_cpuset, control_change}
use Rattle.cg_model.specs.Effect.{effect}
use Rattle.cg_model.specs.Footprint.{Mark, X, footprint, marks_subtree}
use Rattle.cg_model.specs.Cgroups.{cgroups}
use Rattle.cg_model.specs.Opens.{among}
use Rattle.cg_model.specs.Live.{Item, Ran, AtSavepoint, Items}
use Rattle.cg_model.specs.Run.{tree_of}
use Rattle.cg_model.specs.Room.{changes_group, changes_of, inverse, needs_group}
use Rattle.cg_core_laws.specs.Unwind.{with_items}
use Rattle.cg_core_laws.specs.LettingGo.{footprint_of, holds_subtree}
use Rattle.cg_model_laws.proofs.Paths.{never, same_path-is}
use Rattle.cg_model_laws.proofs.EachCommand.{EachCommand, of_each}
use Rattle.cg_core_laws.proofs.ControlGroups.GroupChanges.{there_undone}
use Rattle.cg_core_laws.proofs.ControlGroups.UnwindingStages.{Stage, IsNewest, own_items, stage_sound, newest, next_stage}
use Rattle.cg_core_laws.proofs.ControlGroups.NeededAbove.{IsAbsent}

-- a footprint marks one subtree at most to be changed first
pub marks_one : (p q : Path) (f : List Mark) → marks_subtree p f ≡ true → marks_subtree q f ≡ true → p ≡ q
marks_one p q (X r ∷ f) a b = same_path-is p r a ∙ sym (same_path-is q r b)
marks_one p q f a b = never a

-- ---- of a command

-- where the group is absent, a command that marks its subtree and is accepted changes it
module _ (T V : Tree) (sound : Sound T) (p : Path) (absent : IsAbsent T p) where
  abbrev ChangesIfMarked : Command → Effect → Type 0
  ChangesIfMarked c e = marks_subtree p (footprint c V) ≡ true → IsAccepted e → changes_group p (changes_of e) ≡ true

  elsewhere : {A : Type 0} (q : Path) (s : Settings) → group T q ≡ Some s → same_path p q ≡ true → A
  elsewhere q s e h = absurd (both_ways _ absent (ap (λ r. is_some (group T r)) (same_path-is p q h) ∙ ap is_some e))

  each_changes : EachCommand T ChangesIfMarked
  unfolding footprint
  each_changes = record {
    refused = λ c r own marks accepted. absurd accepted;
    created = λ n q u e g marks accepted. or_left _ _ marks;
    removed = λ n q s e x y marks accepted. or_left _ _ marks;
    moved = λ k q r s e g a marks accepted. never marks;
    controls = λ q ops s a e g x y z marks accepted. elsewhere q s e marks;
    freezes = λ n q v s e marks accepted. elsewhere (n ∷ q) s e marks;
    asks = λ n q v s e g marks accepted. elsewhere (n ∷ q) s e marks;
    shows = λ q f text marks accepted. never marks;
    goes_online = λ v marks accepted. let (s, there, root) = sound.root in elsewhere [] s there marks;
    limits_descendants = λ q v s e marks accepted. elsewhere q s e marks;
    limits_depth = λ q v s e marks accepted. elsewhere q s e marks;
  }

  changes_if_marked : (c : Command) (o : Outcome) (cs : List Change) → effect c T ≡ Accept o cs → marks_subtree p (footprint c V) ≡ true → changes_group p cs ≡ true
  changes_if_marked c o cs e marks =
      let told : ChangesIfMarked c (Accept o cs) = subst (ChangesIfMarked c) e (of_each T ChangesIfMarked each_changes c) in
      told marks tt

-- a command that changes the group marks its subtree
module _ (T : Tree) (p : Path) where
  abbrev MarksIfChanged : Command → Effect → Type 0
  MarksIfChanged c e = changes_group p (changes_of e) ≡ true → marks_subtree p (footprint c T) ≡ true

  of_one : (b : Bool) → (b || false) ≡ true → b ≡ true
  of_one true e = refl
  of_one false e = e

  pub none_emptied : (q : Path) (s t : Controllers) (es : List (Path × Settings)) → changes_group p (emptied es (control_change q s t)) ≡ false
  none_emptied q s t [] = refl
  none_emptied q s t (e ∷ es) = cond_both (is_empty_set e.1.cpus) _ (change (Part e.0 keys.Cpus) (Some e.1.cpus) (Some empty) ∷ emptied es (control_change q s t)) (λ cs. changes_group p cs ≡ false) (λ _. none_emptied q s t es) (λ _. none_emptied q s t es)

  each_marks : EachCommand T MarksIfChanged
  unfolding footprint
  each_marks = record {
    refused = λ c r own changes. never changes;
    created = λ n q u e g changes. of_one _ changes;
    removed = λ n q s e x y changes. of_one _ changes;
    moved = λ k q r s e g a changes. never changes;
    controls = λ q ops s a e g x y z changes. let t = planned s.control ops in absurd (both_ways _ (none_emptied q s.control t (cond (loses_cpuset s.control t) (children T q) [])) changes);
    freezes = λ n q v s e changes. never changes;
    asks = λ n q v s e g changes. never changes;
    shows = λ q f text changes. never changes;
    goes_online = λ v changes. never changes;
    limits_descendants = λ q v s e changes. never changes;
    limits_depth = λ q v s e changes. never changes;
  }

  marks_if_changed : (c : Command) → changes_group p (changes_of (effect c T)) ≡ true → marks_subtree p (footprint c T) ≡ true
  marks_if_changed c = of_each T MarksIfChanged each_marks c

-- ---- of a stack's items

module _ (O : Tree) (p : Path) where
  pub marks_what_changes : (x : Item cgroups) → changes_group p (inverse O x) ≡ true → marks_subtree p (footprint_of O x) ≡ true
  marks_what_changes (Ran t h c a) e = marks_if_changed (tree_of cgroups O h) p c e
  marks_what_changes (AtSavepoint t h n) e = never e

  -- what going back needs, some command marks
  pub holds_needed : (l : Items cgroups) → needs_group O p l ≡ true → holds_subtree O p l ≡ true
  holds_needed [] e = e
  holds_needed (x ∷ l) e = elim (or_cases _ _ e) [
    | inl here ↦ or_left _ _ (marks_what_changes x here)
    | inr later ↦ or_right _ _ (holds_needed l later)
  ]

  -- what the newest item marks and going back finds absent, it changes
  pub changes_what_marks : (x : Item cgroups) {T : Tree} → IsNewest x (inverse O x) T → Sound (undone (inverse O x) T) → IsAbsent (undone (inverse O x) T) p → marks_subtree p (footprint_of O x) ≡ true → changes_group p (inverse O x) ≡ true
  changes_what_marks (Ran t h c a) {T} top sound absent marks =
      let cs : List Change = inverse O (Ran t h c a) in
      changes_if_marked (undone cs T) (tree_of cgroups O h) sound p absent c a cs top.again marks
  changes_what_marks (AtSavepoint t h n) top sound absent marks = never marks

module _ {O : Tree} {ts : List ℕ} (u : ℕ) (is_open : among u ts ≡ true) (p : Path) where
  -- what the part of a stack above any of its items marks, where the group is absent, it needs
  pub needs_held : (newer older : Items cgroups) {stacks : ℕ → Items cgroups} {T : Tree} → Stage O ts stacks T → stacks u ≡ newer ++ older → IsAbsent T p → holds_subtree O p newer ≡ true → needs_group O p newer ≡ true
  needs_held [] older stage e absent h = h
  needs_held (x ∷ l) older {stacks} {T} stage e absent h =
      let cs : List Change = inverse O x in
      let next : Stage O ts (with_items u (l ++ older) stacks) (undone cs T) = next_stage stage u x (l ++ older) is_open e in
      let top : IsNewest x cs T = newest stage u x (l ++ older) is_open e in
      elim (changes_group p cs) as (λ b. changes_group p cs ≡ b → (b || needs_group O p l) ≡ true) [
        | true ↦ λ own. refl
        | false ↦ λ other.
            let still : IsAbsent (undone cs T) p = there_undone p cs T other ∙ absent in
            elim (or_cases _ _ h) [
              | inl here ↦ absurd (both_ways _ other (changes_what_marks O p x top (stage_sound next) still here))
              | inr later ↦ needs_held l older next (own_items u (l ++ older) stacks) still later
            ]
      ] refl
