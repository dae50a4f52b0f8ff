-- Going back has room at every turn, and a commit that drains its stack from the oldest item may sweep.
use Rattle.std.proofs.Common.{◌≡◌, ℕ, Bool, true, false, cond, ◌||◌, ◌==◌, List, [], ◌∷◌, ◌++◌, inl, inr, ◌⊎◌, refl, sym, ap, ◌∙◌, subst, Some, append-nil}
use Rattle.std.specs.Option.{is_some}
use Rattle.std.specs.List.{AllByRecursion, list_any}
use Rattle.std.proofs.lemmas.Bool.{eqb-true, or_cases, or_left, or_right}
use Rattle.cg_name.specs.Path.{Path}
use Rattle.cg_model.specs.Tree.{Tree, group, place_of}
use Rattle.cg_model.specs.Change.{undone}
use Rattle.cg_model.specs.Cgroups.{cgroups}
use Rattle.cg_model.specs.Opens.{among, numbers, opens}
use Rattle.cg_model.specs.Live.{Item, Items, live}
use Rattle.cg_model.specs.Machine.{Machine}
use Rattle.cg_model.specs.Room.{changes_group, inverse, needs_group, has_entry, RoomFor}
use Rattle.cg_core_laws.specs.Unwind.{with_items}
use Rattle.cg_core_laws.specs.Serial.{IsSerial}
use Rattle.cg_core_laws.specs.Room.{HasRoom, RoomyTakenOff, RoomyUnwinds, RoomKept, CommitSweeps}
use Rattle.cg_core_laws.proofs.ControlGroups.GroupChanges.{there_undone, room_from}
use Rattle.cg_core_laws.proofs.ControlGroups.UnwindingStages.{Stage, stage_sound, newest, next_stage}
use Rattle.cg_core_laws.proofs.ControlGroups.Sweeping.{sweeps}

-- what one of these transactions needs, some of them needs
pub needed_by : (f : ℕ → Bool) (t : ℕ) (ts : List ℕ) → among t ts ≡ true → f t ≡ true → list_any f ts ≡ true
needed_by f t [] m e = m
needed_by f t (u ∷ us) m e = elim (or_cases _ _ m) [
  | inl k ↦ or_left _ _ (subst (λ v. f v ≡ true) (eqb-true t u k) e)
  | inr k ↦ or_right _ _ (needed_by f t us k e)
]

-- what each needs alike, they need alike
pub needed_alike : (f g : ℕ → Bool) → ((u : ℕ) → f u ≡ g u) → (ts : List ℕ) → list_any f ts ≡ list_any g ts
needed_alike f g same [] = refl
needed_alike f g same (t ∷ ts) = λ i. same t i || needed_alike f g same ts i

module _ (O : Tree) (ts : List ℕ) (stacks : ℕ → Items cgroups) (T : Tree) where
  abbrev entry : Path → Bool
  entry p = has_entry O stacks ts T p

  module _ (t : ℕ) (x : Item cgroups) (l : Items cgroups) (stack : stacks t ≡ x ∷ l) where
    abbrev before : Tree
    before = undone (inverse O x) T

    -- what the newest item doesn't change is needed without it as before
    needed_without : (p : Path) → changes_group p (inverse O x) ≡ false → (u : ℕ) → needs_group O p (stacks u) ≡ needs_group O p (with_items t l stacks u)
    needed_without p e u = at (u == t) refl
      where
        at : (b : Bool) → (u == t) ≡ b → needs_group O p (stacks u) ≡ needs_group O p (cond b l (stacks u))
        at true k = ap (λ v. needs_group O p (stacks v)) (eqb-true u t k) ∙ ap (needs_group O p) stack ∙ ap (λ b. b || needs_group O p l) e
        at false k = refl

    -- taking the newest item off frees the entries of the groups that it changes at most
    pub freed : (p : Path) → entry p ≡ true → (has_entry O (with_items t l stacks) ts before p ≡ true) ⊎ (changes_group p (inverse O x) ≡ true)
    freed p h = at (changes_group p (inverse O x)) refl
      where
        at : (b : Bool) → changes_group p (inverse O x) ≡ b → (has_entry O (with_items t l stacks) ts before p ≡ true) ⊎ (b ≡ true)
        at true e = inr refl
        at false e = inl ((λ i. there_undone p (inverse O x) T e i || sym (needed_alike _ _ (needed_without p e) ts) i) ∙ h)

    module _ (is_open : among t ts ≡ true) where
      -- the groups that the newest item changes are needed
      own_entry : (p : Path) → changes_group p (inverse O x) ≡ true → entry p ≡ true
      own_entry p e = or_right _ _ (needed_by (λ u. needs_group O p (stacks u)) t ts is_open (ap (needs_group O p) stack ∙ or_left _ _ e))

      -- the groups that are there before its command have entries
      pub entry_before : (p : Path) → is_some (group before p) ≡ true → entry p ≡ true
      entry_before p g = at (changes_group p (inverse O x)) refl
        where
          at : (b : Bool) → changes_group p (inverse O x) ≡ b → entry p ≡ true
          at true e = own_entry p e
          at false e = or_left _ _ (sym (there_undone p (inverse O x) T e) ∙ g)

      module _ (stage : Stage O ts stacks T) where
        -- a process was in such a group
        place_entry : (k : ℕ) (p : Path) → place_of before k ≡ Some p → entry p ≡ true
        place_entry k p e = let (s, there, admitted) = (stage_sound (next_stage stage t x l is_open stack)).process k p e in entry_before p (ap is_some there)

        pub turn : RoomFor entry (inverse O x)
        turn = room_from entry before place_entry (inverse O x) (newest stage t x l is_open stack).tell own_entry

  has_room : Stage O ts stacks T → HasRoom O stacks ts T
  has_room stage = record {
    turn = λ t x l is_open stack. turn t x l stack is_open stage;
    freed = λ t x l is_open stack p h. freed t x l stack p h;
    sweeps = sweeps stage stacks (λ u. ([], sym (append-nil (stacks u))));
  }

module _ (O : Tree) (ts : List ℕ) where
  roomy : (us : List ℕ) (stacks : ℕ → Items cgroups) (T : Tree) → Stage O ts stacks T → AllByRecursion (λ u. among u ts ≡ true) us → RoomyUnwinds O ts stacks T us
  roomy [] stacks T stage are_open = has_room O ts stacks T stage
  roomy (u ∷ us) stacks T stage are_open = (
    has_room O ts stacks T stage,
    elim (stacks u) as (λ k. stacks u ≡ k → RoomyTakenOff O stacks T u k (λ stacks' T'. RoomyUnwinds O ts stacks' T' us)) [
      | [] ↦ λ e. roomy us stacks T stage are_open.1
      | x ∷ l ↦ λ e. roomy us (with_items u l stacks) (undone (inverse O x) T) (next_stage stage u x l are_open.0 e) are_open.1
    ] refl,
  )

module _ (O : Tree) (m : Machine cgroups) (serial : IsSerial cgroups O m) where
  pub first_stage : Stage O (numbers (opens m.history)) (λ t. live t m.history) m.tree
  first_stage = record { unwinds = serial.unwinds }

  pub room_kept : RoomKept O m
  room_kept us are_open = roomy O (numbers (opens m.history)) us (λ t. live t m.history) m.tree first_stage are_open

  -- the newer part of a stack, and the others whole
  cut_stack : (t : ℕ) (newer older : Items cgroups) → live t m.history ≡ newer ++ older → (u : ℕ) → (rest : Items cgroups) × (live u m.history ≡ with_items t newer (λ v. live v m.history) u ++ rest)
  cut_stack t newer older e u = at (u == t) refl
    where
      at : (b : Bool) → (u == t) ≡ b → (rest : Items cgroups) × (live u m.history ≡ cond b newer (live u m.history) ++ rest)
      at true k = (older, ap (λ v. live v m.history) (eqb-true u t k) ∙ e)
      at false k = ([], sym (append-nil (live u m.history)))

  pub commit_sweeps : CommitSweeps O m
  commit_sweeps t newer older is_open e =
      sweeps first_stage (with_items t newer (λ u. live u m.history)) (cut_stack t newer older e)
