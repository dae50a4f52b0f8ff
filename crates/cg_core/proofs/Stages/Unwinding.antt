-- Whole stacks come off: commands one after another, the newest first, down to what is left.
use Rattle.std.proofs.Common.{◌≡◌, ℕ, ◌==◌, Bool, true, false, cond, List, [], ◌∷◌, ◌++◌, map, refl, sym, ap, ◌∙◌, subst, subst₂, append-nil, take}
use Rattle.std.specs.List.{AllByRecursion}
use Rattle.std.proofs.lemmas.Bool.{false≢true}
use Rattle.cg_name.specs.Name.{Name}
use Rattle.cg_model.specs.Tree.{Tree}
use Rattle.cg_model.specs.Change.{undone}
use Rattle.cg_model.specs.Cgroups.{cgroups}
use Rattle.cg_model.specs.Live as live
use Rattle.cg_model.specs.Live.{Item, Ran, AtSavepoint, Items}
use Rattle.cg_model.specs.Machine.{Machine}
use Rattle.cg_model.specs.Opens.{among, numbers, opens}
use Rattle.cg_model.specs.Reply as reply
use Rattle.cg_model.specs.Room.{inverse}
use Rattle.cg_core_laws.specs.Unwind.{with_items}
use Rattle.cg_core_laws.specs.Room.{RoomyTakenOff}
use Rattle.cg_core_laws.specs.LettingGo as laws
use Rattle.cg_core_laws.specs.LettingGo.{ComeOffUnwinding, NewestLetsGo}
use Rattle.cg_core_laws.proofs.ControlGroups.UnwindingStages.{own_items}
use Rattle.cg_locks.specs.Holdings.{Holdings}
use Rattle.cg_tree.specs.Room.{TreeWithRoom}
use Rattle.cg_core.specs.Stage.{Holds}
use Rattle.cg_txn.specs.Laws.{commands_above}
use Rattle.cg_txn.specs.TakingOff.{MayComeOff, ComesOff, AllMayComeOff, AllComeOff}
use Rattle.cg_core.proofs.Stages.Alike.{same_stacks, told_alike, savepoint_off}
use Rattle.cg_core.proofs.Stages.GoingBack.{may_come_off, held_after_coming_off}
use Rattle.cg_core.proofs.Stages.Items.{undone_all, above, is_savepoint, parted}
use Rattle.cg_core.specs.Parts.{stack_item}
use Rattle.cg_core.proofs.Stages.StackItems.{same_above}
use Rattle.cg_txn.proofs.Steps.{each_command, may_commands}
use Rattle.cg_core.proofs.Stages.Steps.{IsKept, may_each, all_kept}

-- the open transactions may be unwound in any interleaving, each by its newest items
pub record Unwindable (O : Tree) (ts : List ℕ) (stacks : ℕ → Items cgroups) (T : Tree) : Type 0 where
  pub unwinds : (us : List ℕ) → AllByRecursion (λ u. among u ts ≡ true) us → ComeOffUnwinding O ts stacks T us

-- so it is of a machine by the laws
pub unwindable_by_law : (O : Tree) (m : Machine cgroups) → NewestLetsGo O m → Unwindable O (numbers (opens m.history)) (λ t. live.live t m.history) m.tree
unwindable_by_law O m law = record { unwinds = law }

module _ {O : Tree} {ts : List ℕ} {stacks : ℕ → Items cgroups} {T : Tree} (t : ℕ) (x : Item cgroups) (l : Items cgroups) (is_open : among t ts ≡ true) (stack : stacks t ≡ x ∷ l) (from : Unwindable O ts stacks T) where
  -- the newest item may come off
  pub newest_comes_off : laws.ComesOff O ts stacks T t x l
  newest_comes_off = from.unwinds [] tt t x l is_open stack

  -- and after it they may still be unwound
  pub still_unwindable : Unwindable O ts (with_items t l stacks) (undone (inverse O x) T)
  still_unwindable = record {
    unwinds = λ us are_open. subst (λ k. RoomyTakenOff O stacks T t k (λ rest U. ComeOffUnwinding O ts rest U us)) stack (from.unwinds (t ∷ us) (is_open, are_open)).1;
  }

-- a stack that is set twice is what it was set to last
pub set_twice : (t : ℕ) (l k : Items cgroups) (stacks : ℕ → Items cgroups) → with_items t l (with_items t k stacks) ≡ with_items t l stacks
set_twice t l k stacks i = λ u. at u (u == t) i
  where
    at : (u : ℕ) (b : Bool) → cond b l (cond b k (stacks u)) ≡ cond b l (stacks u)
    at u true = refl
    at u false = refl

module _ (O : Tree) (ts : List ℕ) (t : ℕ) (is_open : among t ts ≡ true) (rest all : Items cgroups) (stacks_before : ℕ → Items cgroups) (tree_before : Tree) where
  -- what holds before the items that are left to come off: they stand on t's stack, and their inverses lead to the same tree as
  -- all of them did
  record IsStage (l : Items cgroups) (R : TreeWithRoom) (H : Holdings) : Type 0 where
    stacks : ℕ → Items cgroups
    tree : Tree
    holds : Holds O ts stacks tree R H
    unwindable : Unwindable O ts stacks tree
    stack : stacks t ≡ l ++ rest
    others : with_items t rest stacks ≡ with_items t rest stacks_before
    left : undone_all O l tree ≡ undone_all O all tree_before

  next : (x : Item cgroups) (l : Items cgroups) (R : TreeWithRoom) (H : Holdings) (p : IsStage (x ∷ l) R H) (R' : TreeWithRoom) (H' : Holdings)
      → Holds O ts (with_items t (l ++ rest) p.stacks) (undone (inverse O x) p.tree) R' H' → IsStage l R' H'
  next x l R H p R' H' h = record {
    stacks = with_items t (l ++ rest) p.stacks;
    tree = undone (inverse O x) p.tree;
    holds = h;
    unwindable = still_unwindable t x (l ++ rest) is_open p.stack p.unwindable;
    stack = own_items t (l ++ rest) p.stacks;
    others = set_twice t rest (l ++ rest) p.stacks ∙ p.others;
    left = p.left;
  }

  stage_kept : IsKept O (MayComeOff t) (ComesOff t) IsStage
  stage_kept = record {
    may = λ u h c a l R H p. may_come_off t (Ran u h c a) (l ++ rest) p.holds is_open p.stack (newest_comes_off t (Ran u h c a) (l ++ rest) is_open p.stack p.unwindable);
    step = λ u h c a l R H R' H' p s. next (Ran u h c a) l R H p R' H'
        (held_after_coming_off t (Ran u h c a) (l ++ rest) p.holds is_open p.stack (newest_comes_off t (Ran u h c a) (l ++ rest) is_open p.stack p.unwindable) R' H' s);
    skip = λ u h n l R H p. next (AtSavepoint u h n) l R H p R H (savepoint_off t u h n (l ++ rest) p.stack p.holds);
  }

  last : (R : TreeWithRoom) (H : Holdings) → IsStage [] R H → Holds O ts (with_items t rest stacks_before) (undone_all O all tree_before) R H
  last R H p =
      let own : (u : ℕ) → with_items t rest p.stacks u ≡ p.stacks u = told_alike (λ k. k) t rest p.stacks (sym p.stack) in
      subst₂ (λ s U. Holds O ts s U R H) p.others p.left (same_stacks (with_items t rest p.stacks) p.stacks own p.holds)

module _ {O : Tree} {ts : List ℕ} {stacks : ℕ → Items cgroups} {T : Tree} {R : TreeWithRoom} {H : Holdings} (t : ℕ) (is_open : among t ts ≡ true) (holds : Holds O ts stacks T R H) (unwindable : Unwindable O ts stacks T) where
  module _ (l rest : Items cgroups) (stack : stacks t ≡ l ++ rest) where
    start : IsStage O ts t is_open rest l stacks T l R H
    start = record { stacks = stacks; tree = T; holds = holds; unwindable = unwindable; stack = stack; others = refl; left = refl }

    -- the newest items of a stack may come off, one after another
    pub all_may_come_off : AllMayComeOff t (map (stack_item O) l) R H
    all_may_come_off = may_each O (MayComeOff t) (ComesOff t) (IsStage O ts t is_open rest l stacks T) (stage_kept O ts t is_open rest l stacks T) l R H start

    -- and after them the rest is held
    pub held_after_all_off : (R' : TreeWithRoom) (H' : Holdings) → AllComeOff t (map (stack_item O) l) R H R' H' → Holds O ts (with_items t rest stacks) (undone_all O l T) R' H'
    held_after_all_off R' H' off =
        last O ts t is_open rest l stacks T R' H' (all_kept O (MayComeOff t) (ComesOff t) (IsStage O ts t is_open rest l stacks T) (stage_kept O ts t is_open rest l stacks T) l R H R' H' start off)

  -- the newest item alone, as the code takes it
  module _ (x : Item cgroups) (l : Items cgroups) (stack : stacks t ≡ x ∷ l) where
    newest_alone : take 1 (map (stack_item O) (stacks t)) ≡ map (stack_item O) (x ∷ [])
    newest_alone = ap (λ k. take 1 (map (stack_item O) k)) stack

    -- it may come off
    pub newest_may_come_off : AllMayComeOff t (take 1 (map (stack_item O) (stacks t))) R H
    newest_may_come_off = subst (λ k. AllMayComeOff t k R H) (sym newest_alone) (all_may_come_off (x ∷ []) l stack)

    -- and after it the rest is held
    pub held_after_newest_off : (R' : TreeWithRoom) (H' : Holdings) → AllComeOff t (take 1 (map (stack_item O) (stacks t))) R H R' H' → Holds O ts (with_items t l stacks) (undone (inverse O x) T) R' H'
    held_after_newest_off R' H' off = held_after_all_off (x ∷ []) l stack R' H' (subst (λ k. AllComeOff t k R H R' H') newest_alone off)

  -- a whole stack may come off
  pub whole_may_come_off : AllMayComeOff t (map (stack_item O) (stacks t)) R H
  whole_may_come_off = all_may_come_off (stacks t) [] (sym (append-nil (stacks t)))

  -- and after it nothing stands on it
  pub held_after_whole_off : (R' : TreeWithRoom) (H' : Holdings) → AllComeOff t (map (stack_item O) (stacks t)) R H R' H' → Holds O ts (with_items t [] stacks) (undone_all O (stacks t) T) R' H'
  held_after_whole_off R' H' off = held_after_all_off (stacks t) [] (sym (append-nil (stacks t))) R' H' off

  -- ---- back to a savepoint

  module _ (n : Name) (there : reply.has_savepoint n (stacks t) ≡ true) where
    abbrev higher : Items cgroups
    higher = above n (stacks t)

    abbrev lower : Items cgroups
    lower = live.below n (stacks t)

    -- the commands above a savepoint may come off
    pub above_may_come_off : AllMayComeOff t (commands_above n (map (stack_item O) (stacks t))) R H
    above_may_come_off =
        let (x, savepoint, parts) = parted n (stacks t) there in
        subst (λ k. AllMayComeOff t k R H) (sym (same_above O n (stacks t))) (may_commands (MayComeOff t) (ComesOff t) (map (stack_item O) higher) R H (all_may_come_off higher (x ∷ lower) parts))

    savepoint_goes : (x : Item cgroups) → is_savepoint x ≡ true → (U : Tree) (R' : TreeWithRoom) (H' : Holdings) → Holds O ts (with_items t (x ∷ lower) stacks) U R' H' → Holds O ts (with_items t lower stacks) U R' H'
    savepoint_goes (Ran u h c a) e U R' H' held = absurd (false≢true e)
    savepoint_goes (AtSavepoint u h m) e U R' H' held =
        subst (λ s. Holds O ts s U R' H') (set_twice t lower (AtSavepoint u h m ∷ lower) stacks) (savepoint_off t u h m lower (own_items t (AtSavepoint u h m ∷ lower) stacks) held)

    -- and after them, without the savepoint, what stands below it is held
    pub held_after_back : (R' : TreeWithRoom) (H' : Holdings) → AllComeOff t (commands_above n (map (stack_item O) (stacks t))) R H R' H' → Holds O ts (with_items t lower stacks) (undone_all O higher T) R' H'
    held_after_back R' H' off =
        let (x, savepoint, parts) = parted n (stacks t) there in
        savepoint_goes x savepoint (undone_all O higher T) R' H'
        (held_after_all_off higher (x ∷ lower) parts R' H' (each_command (MayComeOff t) (ComesOff t) (map (stack_item O) higher) R H R' H' (subst (λ k. AllComeOff t k R H R' H') (same_above O n (stacks t)) off)))
