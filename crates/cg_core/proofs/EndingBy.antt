-- A transaction ends by an abort: all that stands of it comes off. Or by a commit: it stays done, and nothing of it is held.
use Rattle.std.proofs.Common.{◌≡◌, ℕ, ◌+◌, ◌<◌, ◌≤◌, List, [], ◌∷◌, length, reverse, Some, refl, sym, ap, subst, arith}
use Rattle.cg_model.specs.Cgroups.{cgroups}
use Rattle.cg_model.specs.History.{Abort, Commit, Answer, Aborted, Committed, History}
use Rattle.cg_model.specs.Live.{live}
use Rattle.cg_model.specs.Opens.{numbers, opens, commits, commits_after}
use Rattle.cg_model.specs.Run.{tree_of}
use Rattle.cg_model.specs.Tree.{Tree}
use Rattle.cg_core_laws.specs.LettingGo.{OldestLetsGo}
use Rattle.cg_core_laws.specs.MachineOf.{machine_of}
use Rattle.cg_core_laws.specs.Unwind.{with_items}
use Rattle.cg_history.specs.SessionMap.{found, without}
use Rattle.cg_locks.specs.Holdings.{Holdings}
use Rattle.cg_tree.specs.Room.{TreeWithRoom}
use Rattle.cg_txn.specs.declared.txn.Room.{Room}
use Rattle.cg_txn.specs.Stack.{Stack}
use Rattle.cg_txn.specs.TakingOff.{AllMayComeOff, AllComeOff, AllMayLetGo, AllLetGo}
use Rattle.cg_core.proofs.AtHistory.{at_history}
use Rattle.cg_core.proofs.Endings.{IsEnd}
use Rattle.cg_core.proofs.ReturningParts.{few_records, is_open, items_are, unwindable}
use Rattle.cg_core.proofs.Stages.Draining.{Drainable, drainable_by_law, all_may_let_go, held_after_all_let_go}
use Rattle.cg_core.proofs.Stages.Items.{unwound_is}
use Rattle.cg_core.proofs.Stages.Unwinding.{whole_may_come_off, held_after_whole_off}
use Rattle.cg_core.proofs.TheLaws.{oldest_law}
use Rattle.cg_core.specs.Parts.{IsCoreOf}
use Rattle.cg_core.specs.Stage.{Holds}

-- one answer commits one at most
one_more : (a : Answer) (n m : ℕ) → n ≤ m → commits_after a n ≤ m + 1
one_more (Committed k) n m le = omega (arith, le)
one_more _ n m le = omega (arith, le)

-- so no more committed than there are records
commits_within : (h : History cgroups) → commits h ≤ length h
commits_within [] = omega arith
commits_within (r ∷ h) =
    let le : commits (r ∷ h) ≤ length h + 1 = one_more r.answer (commits h) (length h) (commits_within h) in
    omega (arith, le)

pub few_commits : {O : Tree} {b : ℕ} {h : History cgroups} {n : ℕ} {R : TreeWithRoom} {H : Holdings} {xs : List (ℕ × Stack)} → IsCoreOf O b h n R H xs → commits h < 4294967295
few_commits {O} {b} {h} core =
    let few : length h < 4294967295 = few_records core in
    let within : commits h ≤ length h = commits_within h in
    omega (arith, few, within)

module _ {O : Tree} {b : ℕ} {h : History cgroups} {n : ℕ} {R : TreeWithRoom} {H : Holdings} {xs : List (ℕ × Stack)} (core : IsCoreOf O b h n R H xs) (s : ℕ) (x : Stack) (here : found s xs ≡ Some x) where
  -- ---- an abort

  -- all that stands of it may come off
  pub may_abort : AllMayComeOff x.number x.items R H
  may_abort = subst (λ l. AllMayComeOff x.number l R H) (sym (items_are core s x here)) (whole_may_come_off x.number (is_open core s x here) core.holds (unwindable core s x here))

  -- and with that it ends, and l is noted
  pub abort_ends : (l : Room) {k : ℕ} {R' : TreeWithRoom} {H' : Holdings} {xs' : List (ℕ × Stack)} → k ≡ x.number → AllComeOff x.number x.items R H R' H' → xs' ≡ without s xs
      → IsEnd core s x here Abort (Aborted k) (record { opening = O; limit = b; tree = R'; locks = H'; «open» = xs'; history = (h, n); spare = l })
  abort_ends l {k} {R'} {H'} number off removed = record {
    proper = tt;
    answered = ap Aborted (sym number);
    noted = refl;
    closes = refl;
    rest = λ i. record { opening = O; limit = b; tree = R'; locks = H'; «open» = removed i; history = (h, n); spare = l };
    holds =
        subst (λ T. Holds O (numbers (opens h)) (with_items x.number [] (λ u. live u h)) T R' H') (sym (unwound_is O (live x.number h) (tree_of cgroups O h)))
        (held_after_whole_off x.number (is_open core s x here) core.holds (unwindable core s x here) R' H' (subst (λ l. AllComeOff x.number l R H R' H') (items_are core s x here) off));
  }

  -- ---- a commit

  drainable : Drainable O (numbers (opens h)) (λ u. live u h) (tree_of cgroups O h) x.number
  drainable = drainable_by_law O (machine_of O b h) (at_history (λ O m. OldestLetsGo O m) oldest_law O b h core.sound core.reached) x.number (is_open core s x here)

  -- all that it holds may be let go
  pub may_commit : AllMayLetGo x.number (reverse x.items) R H
  may_commit =
      subst (λ l. AllMayLetGo x.number (reverse l) R H) (sym (items_are core s x here))
      (all_may_let_go O (numbers (opens h)) (λ u. live u h) (tree_of cgroups O h) x.number (is_open core s x here) drainable core.holds)

  -- and with that it ends, where so many have committed, and l is noted
  pub commit_ends : (l : Room) {g : ℕ} {R' : TreeWithRoom} {H' : Holdings} {xs' : List (ℕ × Stack)} → g ≡ commits h → AllLetGo x.number (reverse x.items) R H R' H' → xs' ≡ without s xs
      → IsEnd core s x here Commit (Committed (g + 1)) (record { opening = O; limit = b; tree = R'; locks = H'; «open» = xs'; history = (h, n); spare = l })
  commit_ends l {g} {R'} {H'} counted let_go removed = record {
    proper = tt;
    answered = ap (λ g. Committed (g + 1)) (sym counted);
    noted = refl;
    closes = refl;
    rest = λ i. record { opening = O; limit = b; tree = R'; locks = H'; «open» = removed i; history = (h, n); spare = l };
    holds =
        held_after_all_let_go O (numbers (opens h)) (λ u. live u h) (tree_of cgroups O h) x.number (is_open core s x here) drainable core.holds R' H'
        (subst (λ l. AllLetGo x.number (reverse l) R H R' H') (items_are core s x here) let_go);
  }
