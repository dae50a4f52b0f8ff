-- Taking an item off a stack lets go exactly the entries that nothing needs any more: those of the group whose subtree its
-- command marked, where no item that is left marks it and there is no group.
use Rattle.std.proofs.Common.{◌≡◌, ℕ, Bool, true, false, not, cond, ◌&&◌, ◌==◌, List, [], ◌∷◌, ◌++◌, inl, inr, ◌⊎◌, refl, sym, ap, ◌∙◌, append-nil, append_assoc}
use Rattle.std.specs.Option.{is_some}
use Rattle.std.specs.List.{AllByRecursion}
use Rattle.std.proofs.Math.Bool.{and-true}
use Rattle.std.proofs.lemmas.Bool.{false≢true, eqb-true, and_parts, and_from, and_right, or_cases, or_from, or_left, or_right, not_from_true, not_from_false, both_ways, false_from_ne_true}
use Rattle.std.proofs.lemmas.List.Folds.{list_any-append}
use Rattle.cg_name.specs.Path.{Path}
use Rattle.cg_model.specs.Tree.{Tree, group}
use Rattle.cg_model.specs.Change.{undone}
use Rattle.cg_model.specs.Cgroups.{cgroups}
use Rattle.cg_model.specs.Opens.{among, numbers, opens}
use Rattle.cg_model.specs.Live.{Item, Items, live}
use Rattle.cg_model.specs.Machine.{Machine}
use Rattle.cg_model.specs.Footprint.{marks_subtree}
use Rattle.cg_model.specs.Room.{changes_group, inverse, needs_group, is_needed, has_entry}
use Rattle.cg_core_laws.specs.Unwind.{with_items}
use Rattle.cg_core_laws.specs.Serial.{IsSerial}
use Rattle.cg_core_laws.specs.Room.{is_listed, MaySweepTheRest, RoomyTakenOff}
use Rattle.cg_core_laws.specs.LettingGo.{footprint_of, holds_subtree, lets_go, LetsGo, ComesOff, ComeOffUnwinding, NewestLetsGo, OldestLetsGo}
use Rattle.cg_core_laws.specs.Laws.{LiveKeysApart}
use Rattle.cg_model_laws.proofs.Paths.{same_path-from}
use Rattle.cg_core_laws.proofs.ControlGroups.UnwindingStages.{Stage, own_items, stage_sound, newest, next_stage}
use Rattle.cg_core_laws.proofs.ControlGroups.NeededAbove.{IsAbsent}
use Rattle.cg_core_laws.proofs.ControlGroups.Sweeping.{needed_with, sweeps}
use Rattle.cg_core_laws.proofs.ControlGroups.RoomForGoingBack.{needed_by, freed, entry_before, turn, first_stage, commit_sweeps}
use Rattle.cg_core_laws.proofs.ControlGroups.MarkedGroups.{marks_one, marks_what_changes, holds_needed, changes_what_marks, needs_held}
use Rattle.cg_core_laws.proofs.ControlGroups.NeededOnce.{NeededOnce, needed_once, needed_once_still, nobody_needs}

-- tests that pass together are equal
alike : (a b : Bool) → (a ≡ true → b ≡ true) → (b ≡ true → a ≡ true) → a ≡ b
alike true b f g = sym (f refl)
alike false b f g = sym (false_from_ne_true b (λ e. false≢true (g e)))

-- an item is taken off: E are the entries before, rest and T what is left of the stacks, and the tree, l the items left
-- on its own stack
module _ (O : Tree) (ts : List ℕ) (E : Path → Bool) (rest : ℕ → Items cgroups) (T : Tree) (x : Item cgroups) (l : Items cgroups) where
  abbrev marked : Path → Bool
  marked p = marks_subtree p (footprint_of O x)

  abbrev entry : Path → Bool
  entry p = has_entry O rest ts T p

  -- what is to be shown of it
  pub record Frees : Type 0 where
    -- no entry is new
    pub kept : (p : Path) → entry p ≡ true → E p ≡ true
    -- that of a path which the item doesn't mark stays
    pub other : (p : Path) → marked p ≡ false → E p ≡ true → entry p ≡ true
    -- so does that of an absent group that an item left marks; where none does, nobody needs it
    pub held : (p : Path) → IsAbsent T p → holds_subtree O p l ≡ true → is_needed O rest ts p ≡ true
    pub free : (p : Path) → marked p ≡ true → IsAbsent T p → holds_subtree O p l ≡ false → is_needed O rest ts p ≡ false
    pub may : MaySweepTheRest O rest ts T

  module _ (f : Frees) where
    entries : (p : Path) → entry p ≡ (E p && not (lets_go O x l T p))
    entries p = at (marked p) (holds_subtree O p l) (is_some (group T p)) refl refl refl
      where
        stays : entry p ≡ true → entry p ≡ (E p && true)
        stays h = h ∙ sym (f.kept p h) ∙ sym (and-true (E p))

        at : (m h g : Bool) → marked p ≡ m → holds_subtree O p l ≡ h → is_some (group T p) ≡ g → entry p ≡ (E p && not (m && (not h && not g)))
        at false h g e k j = alike (entry p) (E p) (f.kept p) (f.other p e) ∙ sym (and-true (E p))
        at true true true e k j = stays (or_left _ _ j)
        at true true false e k j = stays (or_right _ _ (f.held p j k))
        at true false true e k j = stays (or_left _ _ j)
        at true false false e k j = or_from _ _ j (f.free p e j k) ∙ sym (and_right (E p) false refl)

    -- one entry goes at most
    within : (p : Path) → lets_go O x l T p ≡ true → (q : Path) → E q ≡ true → (entry q ≡ true) ⊎ (is_listed q (p ∷ []) ≡ true)
    within p goes q e = at (lets_go O x l T q) refl
      where
        at : (b : Bool) → lets_go O x l T q ≡ b → (entry q ≡ true) ⊎ (is_listed q (p ∷ []) ≡ true)
        at true k = inr (or_left _ _ (same_path-from q p (marks_one q p (footprint_of O x) (and_parts _ _ k).0 (and_parts _ _ goes).0)))
        at false k = inl (entries q ∙ and_from _ _ e (not_from_false _ k))

    pub frees : LetsGo O ts E rest T x l
    frees = record {
      entries = entries;
      sweeps = λ p has goes. (f.may E (p ∷ []) (within p goes) (entries p ∙ and_right (E p) _ (not_from_true _ goes), tt) (tt, tt)).0;
    }

-- what was needed less is needed less by all
fewer_need : (O : Tree) (ts : List ℕ) (few many : ℕ → Items cgroups) (p : Path) → ((u : ℕ) → needs_group O p (few u) ≡ true → needs_group O p (many u) ≡ true) → is_needed O few ts p ≡ true → is_needed O many ts p ≡ true
fewer_need O ts few many p fewer e = needed_with (λ u. needs_group O p (few u)) (λ u. needs_group O p (many u)) ts ts (λ u m. fewer u) (λ u m. m) e

-- ---- the newest item

module _ (O : Tree) (ts : List ℕ) (stacks : ℕ → Items cgroups) (T : Tree) (stage : Stage O ts stacks T) (once : NeededOnce O ts stacks) (t : ℕ) (x : Item cgroups) (l : Items cgroups) (is_open : among t ts ≡ true) (stack : stacks t ≡ x ∷ l) where
  abbrev before : Tree
  before = undone (inverse O x) T

  abbrev left : ℕ → Items cgroups
  left = with_items t l stacks

  next : Stage O ts left before
  next = next_stage stage t x l is_open stack

  fewer : (p : Path) (u : ℕ) → needs_group O p (left u) ≡ true → needs_group O p (stacks u) ≡ true
  fewer p u = at (u == t) refl
    where
      at : (b : Bool) → (u == t) ≡ b → needs_group O p (cond b l (stacks u)) ≡ true → needs_group O p (stacks u) ≡ true
      at true k e = ap (λ v. needs_group O p (stacks v)) (eqb-true u t k) ∙ ap (needs_group O p) stack ∙ or_right _ _ e
      at false k e = e

  pub once_left : NeededOnce O ts left
  once_left = needed_once_still O ts stacks left fewer once

  kept : (p : Path) → has_entry O left ts before p ≡ true → has_entry O stacks ts T p ≡ true
  kept p e = elim (or_cases _ _ e) [
    | inl there ↦ entry_before O ts stacks T t x l stack is_open p there
    | inr needed ↦ or_right _ _ (fewer_need O ts left stacks p (fewer p) needed)
  ]

  other : (p : Path) → marks_subtree p (footprint_of O x) ≡ false → has_entry O stacks ts T p ≡ true → has_entry O left ts before p ≡ true
  other p e h = elim (freed O ts stacks T t x l stack p h) [
    | inl stays ↦ stays
    | inr changes ↦ absurd (both_ways _ e (marks_what_changes O p x changes))
  ]

  held : (p : Path) → IsAbsent before p → holds_subtree O p l ≡ true → is_needed O left ts p ≡ true
  held p absent h =
      let whole : left t ≡ l ++ [] = own_items t l stacks ∙ sym (append-nil l) in
      needed_by (λ u. needs_group O p (left u)) t ts is_open (ap (needs_group O p) (own_items t l stacks) ∙ needs_held t is_open p l [] next whole absent h)

  free : (p : Path) → marks_subtree p (footprint_of O x) ≡ true → IsAbsent before p → holds_subtree O p l ≡ false → is_needed O left ts p ≡ false
  free p e absent none =
      let changes = changes_what_marks O p x (newest stage t x l is_open stack) (stage_sound next) absent e in
      nobody_needs O ts stacks t l p once is_open (ap (needs_group O p) stack ∙ or_left _ _ changes) (false_from_ne_true _ (λ h. both_ways _ none (holds_needed O p l h)))

  pub comes_off : ComesOff O ts stacks T t x l
  comes_off = record {
    fits = (newest stage t x l is_open stack).fits;
    room = turn O ts stacks T t x l stack is_open stage;
    rest = frees O ts (λ p. has_entry O stacks ts T p) left before x l (record { kept = kept; other = other; held = held; free = free; may = sweeps next left (λ u. ([], sym (append-nil (left u)))) });
  }

module _ (O : Tree) (ts : List ℕ) where
  come_off : (us : List ℕ) (stacks : ℕ → Items cgroups) (T : Tree) → Stage O ts stacks T → NeededOnce O ts stacks → AllByRecursion (λ u. among u ts ≡ true) us → ComeOffUnwinding O ts stacks T us
  come_off [] stacks T stage once are_open = comes_off O ts stacks T stage once
  come_off (u ∷ us) stacks T stage once are_open = (
    comes_off O ts stacks T stage once,
    elim (stacks u) as (λ k. stacks u ≡ k → RoomyTakenOff O stacks T u k (λ stacks' T'. ComeOffUnwinding O ts stacks' T' us)) [
      | [] ↦ λ e. come_off us stacks T stage once are_open.1
      | x ∷ l ↦ λ e. come_off us (with_items u l stacks) (undone (inverse O x) T) (next_stage stage u x l are_open.0 e) (once_left O ts stacks T stage once u x l are_open.0 e) are_open.1
    ] refl,
  )

module _ (O : Tree) (m : Machine cgroups) (serial : IsSerial cgroups O m) (apart : LiveKeysApart O m) where
  abbrev all : List ℕ
  all = numbers (opens m.history)

  abbrev stacks_live : ℕ → Items cgroups
  stacks_live u = live u m.history

  start : Stage O all stacks_live m.tree
  start = first_stage O m serial

  pub newest_lets_go : NewestLetsGo O m
  newest_lets_go us are_open = come_off O all us stacks_live m.tree start (needed_once O m apart) are_open

  -- ---- the oldest item of what a commit hasn't drained

  module _ (t : ℕ) (newer : Items cgroups) (x : Item cgroups) (older : Items cgroups) (is_open : among t all ≡ true) (stack : live t m.history ≡ newer ++ x ∷ older) where
    abbrev undrained : Items cgroups
    undrained = newer ++ x ∷ []

    abbrev with_x : ℕ → Items cgroups
    with_x = with_items t undrained stacks_live

    abbrev without_x : ℕ → Items cgroups
    without_x = with_items t newer stacks_live

    -- what the newer items need, they need with it; and the other way round, where it doesn't change the group
    needs_more : (p : Path) → needs_group O p newer ≡ true → needs_group O p undrained ≡ true
    needs_more p e = list_any-append (λ z. changes_group p (inverse O z)) newer (x ∷ []) ∙ or_left _ _ e

    needs_without : (p : Path) → changes_group p (inverse O x) ≡ false → needs_group O p undrained ≡ true → needs_group O p newer ≡ true
    needs_without p free e = elim (or_cases _ _ (sym (list_any-append (λ z. changes_group p (inverse O z)) newer (x ∷ [])) ∙ e)) [
      | inl k ↦ k
      | inr k ↦ absurd (both_ways _ (or_from _ _ free refl) k)
    ]

    per_stack : (p : Path) (a b : Items cgroups) → (needs_group O p a ≡ true → needs_group O p b ≡ true) → (u : ℕ) → needs_group O p (with_items t a stacks_live u) ≡ true → needs_group O p (with_items t b stacks_live u) ≡ true
    per_stack p a b h u = at (u == t)
      where
        at : (c : Bool) → needs_group O p (cond c a (stacks_live u)) ≡ true → needs_group O p (cond c b (stacks_live u)) ≡ true
        at true e = h e
        at false e = e

    entry_with : (p : Path) (a b : Items cgroups) → (needs_group O p a ≡ true → needs_group O p b ≡ true) → has_entry O (with_items t a stacks_live) all m.tree p ≡ true → has_entry O (with_items t b stacks_live) all m.tree p ≡ true
    entry_with p a b h e = elim (or_cases _ _ e) [
      | inl there ↦ or_left _ _ there
      | inr needed ↦ or_right _ _ (fewer_need O all (with_items t a stacks_live) (with_items t b stacks_live) p (per_stack p a b h) needed)
    ]

    other_drained : (p : Path) → marks_subtree p (footprint_of O x) ≡ false → has_entry O with_x all m.tree p ≡ true → has_entry O without_x all m.tree p ≡ true
    other_drained p e = entry_with p undrained newer (needs_without p (false_from_ne_true _ (λ h. both_ways _ e (marks_what_changes O p x h))))

    held_drained : (p : Path) → IsAbsent m.tree p → holds_subtree O p newer ≡ true → is_needed O without_x all p ≡ true
    held_drained p absent h =
        needed_by (λ u. needs_group O p (without_x u)) t all is_open (ap (needs_group O p) (own_items t newer stacks_live) ∙ needs_held t is_open p newer (x ∷ older) start stack absent h)

    -- what it marks, the items not yet drained need; so no other stack does
    free_drained : (p : Path) → marks_subtree p (footprint_of O x) ≡ true → IsAbsent m.tree p → holds_subtree O p newer ≡ false → is_needed O without_x all p ≡ false
    free_drained p e absent none =
        let whole : live t m.history ≡ undrained ++ older = stack ∙ sym (append_assoc newer (x ∷ []) older) in
        let holds : holds_subtree O p undrained ≡ true = list_any-append (λ z. marks_subtree p (footprint_of O z)) newer (x ∷ []) ∙ or_right _ _ (or_left _ _ e) in
        let own : needs_group O p (live t m.history) ≡ true = ap (needs_group O p) whole ∙ list_any-append (λ z. changes_group p (inverse O z)) undrained older ∙ or_left _ _ (needs_held t is_open p undrained older start whole absent holds) in
        nobody_needs O all stacks_live t newer p (needed_once O m apart) is_open own (false_from_ne_true _ (λ h. both_ways _ none (holds_needed O p newer h)))

    drained : LetsGo O all (λ p. has_entry O with_x all m.tree p) without_x m.tree x newer
    drained = frees O all (λ p. has_entry O with_x all m.tree p) without_x m.tree x newer (record {
      kept = λ p. entry_with p newer undrained (needs_more p);
      other = other_drained;
      held = held_drained;
      free = free_drained;
      may = commit_sweeps O m serial t newer (x ∷ older) is_open stack;
    })

  pub oldest_lets_go : OldestLetsGo O m
  oldest_lets_go t newer x older is_open stack = drained t newer x older is_open stack
