-- Going back to a savepoint: the core after it is that of the history with its record.
use Rattle.std.proofs.Common.{◌≡◌, ℕ, ◌+◌, ◌≤◌, ◌||◌, suc, Bool, true, false, cond, List, [], ◌∷◌, length, map, Some, refl, sym, ap, subst, ◌∙◌, arith}
use Rattle.std.proofs.lemmas.List.{length-append, length-map}
use Rattle.cg_core.proofs.ReturningParts.{items_are, is_open, unwindable, replied, history_is, tree_after, stays_core}
use Rattle.cg_core.proofs.Stages.Items.{above, undone_all, back_to_is, parted}
use Rattle.cg_core.proofs.Stages.StackItems.{same_savepoints, same_below, same_count}
use Rattle.cg_core.proofs.Stages.Unwinding.{above_may_come_off, held_after_back}
use Rattle.cg_core.proofs.Stepping.{unrecorded}
use Rattle.cg_core.proofs.TheLaws.{steps_law}
use Rattle.cg_core.specs.Parts.{stack_item, IsCoreOf}
use Rattle.cg_core.specs.Stage.{Holds}
use Rattle.cg_core_laws.specs.MachineOf.{entry_of, machine_of, history_after}
use Rattle.cg_core_laws.specs.Unwind.{with_items}
use Rattle.cg_history.specs.SessionMap.{found, with_value}
use Rattle.cg_locks.specs.Holdings.{Holdings}
use Rattle.cg_model.specs.Cgroups.{cgroups}
use Rattle.cg_model.specs.History.{Back, WentBack, Refused, History}
use Rattle.cg_model.specs.Live as live
use Rattle.cg_model.specs.Live.{Ran, AtSavepoint, Items}
use Rattle.cg_model.specs.Machine.{went_back, back_to, stack_has_savepoint}
use Rattle.cg_model.specs.Opens.{numbers, opens}
use Rattle.cg_model.specs.Reply as replies
use Rattle.cg_model.specs.Reply.{reply}
use Rattle.cg_model.specs.Run.{tree_of}
use Rattle.cg_model.specs.Tree.{Tree}
use Rattle.cg_name.specs.Name.{Name, same_name}
use Rattle.cg_name.specs.declared.refusal.Refusal.TheVariants.{NoSavepoint}
use Rattle.cg_txn.specs.TakingOff.{AllComeOff, AllMayComeOff}
use Rattle.cg_tree.specs.Room.{TreeWithRoom}
use Rattle.cg_txn.specs.Laws.{below, commands_above}
use Rattle.cg_txn.specs.Stack.{Stack, has_savepoint}

-- the machine has the same savepoints
machine_savepoints : (O : Tree) (m : Name) (l : Items cgroups) → stack_has_savepoint m (map (entry_of O) l) ≡ replies.has_savepoint m l
machine_savepoints O m [] = refl
machine_savepoints O m (Ran t h c a ∷ l) = machine_savepoints O m l
machine_savepoints O m (AtSavepoint t h k ∷ l) = ap (λ b. same_name k m || b) (machine_savepoints O m l)

-- no more commands stand above it than items stand
few_counted : (m : Name) (k : ℕ) (l : Items cgroups) → replies.commands_above m k l ≤ k + length l
few_counted m k [] = omega arith
few_counted m k (Ran t h c a ∷ l) =
    let rest : replies.commands_above m (k + 1) l ≤ (k + 1) + length l = few_counted m (k + 1) l in
    omega (arith, rest)
few_counted m k (AtSavepoint t h j ∷ l) = at (same_name j m) (few_counted m k l)
  where
    at : (b : Bool) → replies.commands_above m k l ≤ k + length l → cond b k (replies.commands_above m k l) ≤ k + suc (length l)
    at true rest = omega arith
    at false rest = omega (arith, rest)

module _ {O : Tree} {b : ℕ} {h : History cgroups} {n : ℕ} {R : TreeWithRoom} {H : Holdings} {xs : List (ℕ × Stack)} (core : IsCoreOf O b h n R H xs) (s : ℕ) (x : Stack) (is : found s xs ≡ Some x) (m : Name) where
  abbrev ours : Items cgroups
  ours = live.live x.number h

  same_there : replies.has_savepoint m (live.live x.number h) ≡ has_savepoint m x.items
  same_there = sym (same_savepoints O m (live.live x.number h)) ∙ sym (ap (has_savepoint m) (items_are core s x is))

  -- the commands above the savepoint may come off
  pub back_may : has_savepoint m x.items ≡ true → AllMayComeOff x.number (commands_above m x.items) R H
  back_may there =
      subst (λ l. AllMayComeOff x.number (commands_above m l) R H) (sym (items_are core s x is))
      (above_may_come_off x.number (is_open core s x is) core.holds (unwindable core s x is) m (same_there ∙ there))

  -- where there is none with the name, it is refused
  module _ (none : has_savepoint m x.items ≡ false) where
    pub back_refused : reply cgroups O b h s (Back m) ≡ Refused NoSavepoint
    back_refused = replied core s x is (Back m) ∙ ap (λ c. cond c (WentBack (replies.commands_above m 0 ours)) (Refused NoSavepoint)) (same_there ∙ none)

    pub history_not_back : history_after O b h s (Back m) ≡ h
    history_not_back = unrecorded steps_law O b h core.sound core.reached s (Back m) tt (Refused NoSavepoint) back_refused refl

  -- else so many come off
  module _ (there : has_savepoint m x.items ≡ true) where
    ours_there : replies.has_savepoint m (live.live x.number h) ≡ true
    ours_there = same_there ∙ there

    -- fewer items are left
    pub fewer : length (below m x.items) + 1 ≤ length x.items
    fewer =
        let (y, savepoint, parts) = parted m ours ours_there in
        let all : length x.items ≡ length ours = ap length (items_are core s x is) ∙ length-map ours (stack_item O) in
        let low : length (below m x.items) ≡ length (live.below m ours) = ap (λ l. length (below m l)) (items_are core s x is) ∙ ap length (same_below O m ours) ∙ length-map (live.below m ours) (stack_item O) in
        let split : length ours ≡ length (above m ours) + length (y ∷ live.below m ours) = ap length parts ∙ length-append (above m ours) (y ∷ live.below m ours) in
        omega (arith, all, low, split)

    -- as the code counts them
    pub fewer_counted : {k j : ℕ} {x' : Stack} → k ≡ length x.items → j ≡ length x'.items → x' ≡ record x { items = below m x.items; reserved = false } → j + 1 ≤ k
    fewer_counted {k} {j} {x'} all left written =
        let less : length (below m x.items) + 1 ≤ length x.items = fewer in
        let are : length x'.items ≡ length (below m x.items) = ap (λ (y : Stack). length y.items) written in
        omega (arith, all, left, are, less)

    -- no more come off than stand
    pub few_come_off : length (commands_above m x.items) ≤ length x.items
    few_come_off =
        let counted : replies.commands_above m 0 ours ≡ 0 + length (commands_above m (map (stack_item O) ours)) = same_count O m 0 ours in
        let alike : length (commands_above m x.items) ≡ length (commands_above m (map (stack_item O) ours)) = ap (λ l. length (commands_above m l)) (items_are core s x is) in
        let few : replies.commands_above m 0 ours ≤ 0 + length ours = few_counted m 0 ours in
        let all : length x.items ≡ length ours = ap length (items_are core s x is) ∙ length-map ours (stack_item O) in
        omega (arith, counted, alike, few, all)

    module _ (k : ℕ) (count : k ≡ length (commands_above m x.items)) where
      pub back_answered : reply cgroups O b h s (Back m) ≡ WentBack k
      back_answered =
          let counted : replies.commands_above m 0 ours ≡ 0 + length (commands_above m (map (stack_item O) ours)) = same_count O m 0 ours in
          let alike : length (commands_above m x.items) ≡ length (commands_above m (map (stack_item O) ours)) = ap (λ l. length (commands_above m l)) (items_are core s x is) in
          let told : replies.commands_above m 0 ours ≡ k = omega (arith, counted, alike, count) in
          replied core s x is (Back m) ∙ ap (λ c. cond c (WentBack (replies.commands_above m 0 ours)) (Refused NoSavepoint)) ours_there ∙ ap WentBack told

      abbrev after : History cgroups
      after = record { session = s; transaction = x.number; request = Back m; answer = WentBack k } ∷ h

      pub history_back : history_after O b h s (Back m) ≡ after
      history_back = history_is core s x is (Back m) (WentBack k) tt back_answered refl

      tree_back : tree_of cgroups O after ≡ undone_all O (above m ours) (tree_of cgroups O h)
      tree_back =
          tree_after core s x is (Back m) (WentBack k) tt back_answered refl
          ∙ ap (λ c. (cond c (went_back cgroups (machine_of O b h) x.number (back_to cgroups m (map (entry_of O) ours) (tree_of cgroups O h) 0)) (machine_of O b h, Refused NoSavepoint)).0.tree) (machine_savepoints O m ours ∙ ours_there)
          ∙ ap (λ r. (went_back cgroups (machine_of O b h) x.number r).0.tree) (back_to_is O m ours (tree_of cgroups O h) 0 ours_there)

      pub back_core : (n' : ℕ) (R' : TreeWithRoom) (H' : Holdings) (x' : Stack) → AllComeOff x.number (commands_above m x.items) R H R' H' → x' ≡ record x { items = below m x.items; reserved = false }
          → n' + length x.items ≡ n + length x'.items → IsCoreOf O b after n' R' H' (with_value s x' xs)
      back_core n' R' H' x' off written counted =
          let items : x.items ≡ map (stack_item O) (live.live x.number h) = items_are core s x is in
          let left : x'.items ≡ map (stack_item O) (live.below m ours) = ap (λ (y : Stack). y.items) written ∙ ap (below m) items ∙ same_below O m ours in
          let held : Holds O (numbers (opens h)) (with_items x.number (live.below m ours) (λ u. live.live u h)) (undone_all O (above m ours) (tree_of cgroups O h)) R' H' =
          held_after_back x.number (is_open core s x is) core.holds (unwindable core s x is) m ours_there R' H' (subst (λ l. AllComeOff x.number (commands_above m l) R H R' H') items off) in
          let long : length x.items ≡ length ours = ap length items ∙ length-map ours (stack_item O) in
          let short : length x'.items ≡ length (live.below m ours) = ap length left ∙ length-map (live.below m ours) (stack_item O) in
          stays_core core s x is (Back m) (WentBack k) tt back_answered refl refl n' R' H' x' (ap (λ (y : Stack). y.number) written) left
          (subst (λ T. Holds O (numbers (opens h)) (with_items x.number (live.below m ours) (λ u. live.live u h)) T R' H') (sym tree_back) held)
          (omega (arith, long, short, counted))
