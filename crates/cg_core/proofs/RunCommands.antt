-- A command is run: it is held up, refused or done.
use Rattle.std.proofs.Common.{◌≡◌, ℕ, ◌+◌, ◌<◌, ◌≤◌, ◌==◌, ◌||◌, Bool, true, false, cond, List, [], ◌∷◌, map, length, Option, Some, None, is_some, inl, inr, refl, sym, ap, subst, subst₂, ◌∙◌, true≢false, arith}
use Rattle.std.proofs.lemmas.Option.{same_Some}
use Rattle.std.proofs.lemmas.Bool.{eqb-true}
use Rattle.std.specs.List.{AllByRecursion}
use Rattle.cg_name.specs.declared.refusal.Refusal.{Refusal}
use Rattle.cg_name.specs.declared.refusal.Refusal.TheVariants.{Full, Busy}
use Rattle.cg_model.specs.Change.{Change, done}
use Rattle.cg_model.specs.Cgroups.{cgroups}
use Rattle.cg_model.specs.Command.{Command, Effect, IsProper}
use Rattle.cg_model.specs.Effect.{effect}
use Rattle.cg_model.specs.Footprint.{Mark, footprint}
use Rattle.cg_model.specs.History.{Do, Answer, Gave, Refused, History, is_command_refusal, is_own_check, is_recorded}
use Rattle.cg_model.specs.Live.{Ran, AtSavepoint, Items, live}
use Rattle.cg_model.specs.Machine.{Machine, StackEntry, Transaction, step_in, stack_holder, dropped, done_unless_held, accepted}
use Rattle.cg_model.specs.Opens.{Opens, among, numbers, opens, without}
use Rattle.cg_model.specs.Reply as replies
use Rattle.cg_model.specs.Reply.{command_reply, reply, is_full}
use Rattle.cg_model.specs.Room.{changes_of}
use Rattle.cg_model.specs.Run.{own_tree, tree_of}
use Rattle.cg_model.specs.System.{Outcome, Refuse, Accept}
use Rattle.cg_model.specs.Tree.{Tree}
use Rattle.cg_model_laws.proofs.OwnChecks.{own_checks}
use Rattle.cg_core_laws.specs.Ends.{EndsAll, GoDown}
use Rattle.cg_core_laws.specs.LettingGo.{footprint_of}
use Rattle.cg_core_laws.specs.MachineOf.{entry_of, transaction_of, machine_of, history_after}
use Rattle.cg_core_laws.specs.Serial.{OnceEach}
use Rattle.cg_core_laws.specs.Unwind.{with_items}
use Rattle.cg_history.specs.SessionMap.{found, with_value}
use Rattle.cg_history.proofs.BySession.{written_once}
use Rattle.cg_locks.specs.Holdings.{Holdings, holdings, IsInTheWay}
use Rattle.cg_locks.specs.Marks.{times}
use Rattle.cg_locks.specs.Stacks.{times_in_stack, times_in_stacks, HoldsStacks, NewestFirst}
use Rattle.cg_locks.proofs.Stacks.{table_tells_holder}
use Rattle.cg_tree.specs.Room.{TreeWithRoom}
use Rattle.cg_txn.specs.Stack as stack
use Rattle.cg_txn.specs.Stack.{Stack}
use Rattle.cg_core.specs.Doing.{IsCarriedOut}
use Rattle.cg_core.specs.Parts.{of_history, stack_item, IsCoreOf}
use Rattle.cg_core.specs.Refusing.{IsFree, IsLeast, IsRefusedBy}
use Rattle.cg_core.specs.Held.{times_on}
use Rattle.cg_core.specs.Stage.{Holds}
use Rattle.cg_core.proofs.AtHistory.{at_history}
use Rattle.cg_core.proofs.Begun.{full_is}
use Rattle.cg_core.proofs.Open.{stack_written}
use Rattle.cg_core.proofs.ReturningParts.{session_open, items_are, is_open, once, pairs, replied, history_is, tree_after, stays_core}
use Rattle.cg_core.proofs.Stages.Alike.{same_stacks, told_alike}
use Rattle.cg_core.proofs.Stages.Doing.{IsDone, held_after_doing}
use Rattle.cg_core.proofs.Stepping.{reply_in}
use Rattle.cg_core.proofs.TheLaws.{steps_law, end_law}

-- ---- what the lock table says, in the words of the machine

module _ (O : Tree) (h : History cgroups) where
  on_stack : (m : Mark) (l : Items cgroups) → times_in_stack m (map (entry_of O) l) ≡ times_on O m l
  on_stack m [] = refl
  on_stack m (Ran t k c a ∷ l) = ap (λ n. times m (footprint_of O (Ran t k c a)) + n) (on_stack m l)
  on_stack m (AtSavepoint t k n ∷ l) = let rest : times_in_stack m (map (entry_of O) l) ≡ times_on O m l = on_stack m l in omega (arith, rest)

  none_there : (u : ℕ) (m : Mark) (ps : Opens) → among u (numbers ps) ≡ false → times_in_stacks u m (map (transaction_of O h) ps) ≡ 0
  none_there u m [] e = refl
  none_there u m (p ∷ ps) e =
      elim (u == p.1) as (λ b. (u == p.1) ≡ b → (b || among u (numbers ps)) ≡ false → times_in_stacks u m (map (transaction_of O h) (p ∷ ps)) ≡ 0) [
        | true ↦ λ k r. absurd (true≢false r)
        | false ↦ λ k r.
            let rest : times_in_stacks u m (map (transaction_of O h) ps) ≡ 0 = none_there u m ps r in
            let top : cond (u == p.1) (times_in_stack m (map (entry_of O) (live p.1 h))) 0 ≡ 0 = ap (λ b. cond b (times_in_stack m (map (entry_of O) (live p.1 h))) 0) k in
            omega (arith, rest, top)
      ] refl e

  in_stacks : (u : ℕ) (m : Mark) (ps : Opens) → OnceEach (numbers ps) → times_in_stacks u m (map (transaction_of O h) ps) ≡ cond (among u (numbers ps)) (times_on O m (live u h)) 0
  in_stacks u m [] once = refl
  in_stacks u m (p ∷ ps) once =
      elim (u == p.1) as (λ b. (u == p.1) ≡ b → times_in_stacks u m (map (transaction_of O h) (p ∷ ps)) ≡ cond (b || among u (numbers ps)) (times_on O m (live u h)) 0) [
        | true ↦ λ k.
            let is : u ≡ p.1 = eqb-true u p.1 k in
            let rest : times_in_stacks u m (map (transaction_of O h) ps) ≡ 0 = none_there u m ps (ap (λ n. among n (numbers ps)) is ∙ once.0) in
            let top : cond (u == p.1) (times_in_stack m (map (entry_of O) (live p.1 h))) 0 ≡ times_on O m (live u h) =
            ap (λ b. cond b (times_in_stack m (map (entry_of O) (live p.1 h))) 0) k ∙ on_stack m (live p.1 h) ∙ ap (λ n. times_on O m (live n h)) (sym is) in
            omega (arith, rest, top)
        | false ↦ λ k.
            let rest : times_in_stacks u m (map (transaction_of O h) ps) ≡ cond (among u (numbers ps)) (times_on O m (live u h)) 0 = in_stacks u m ps once.1 in
            let top : cond (u == p.1) (times_in_stack m (map (entry_of O) (live p.1 h))) 0 ≡ 0 = ap (λ b. cond b (times_in_stack m (map (entry_of O) (live p.1 h))) 0) k in
            omega (arith, rest, top)
      ] refl

  below_too : (n : ℕ) (ps : Opens) → AllByRecursion (λ m. m < n) (numbers ps) → AllByRecursion (λ (y : Transaction cgroups). y.number < n) (map (transaction_of O h) ps)
  below_too n [] a = tt
  below_too n (p ∷ ps) a = (a.0, below_too n ps a.1)

  pub newest_first : (ps : Opens) → GoDown (numbers ps) → NewestFirst (map (transaction_of O h) ps)
  newest_first [] d = tt
  newest_first (p ∷ ps) d = (below_too p.1 ps d.0, newest_first ps d.1)

  pub holds_stacks : (T : Tree) (R : TreeWithRoom) (H : Holdings) → OnceEach (numbers (opens h)) → Holds O (numbers (opens h)) (λ t. live t h) T R H → HoldsStacks H (map (transaction_of O h) (opens h))
  holds_stacks T R H once holds u m = holds.held u m ∙ sym (in_stacks u m (opens h) once)

-- ---- the machine's step

module _ (O : Tree) (b : ℕ) (h : History cgroups) (t : ℕ) (c : Command) (room : is_full b h ≡ false) where
  abbrev M : Machine cgroups
  M = machine_of O b h

  abbrev own_stack : List (StackEntry cgroups)
  own_stack = map (entry_of O) (live t h)

  abbrev holder : Option ℕ
  holder = stack_holder cgroups (footprint c (tree_of cgroups O h)) (dropped t (map (transaction_of O h) (opens h)))

  goes_on : step_in cgroups M t own_stack (Do c) ≡ done_unless_held cgroups M t own_stack c holder
  goes_on = ap (λ f. whole f) (full_is O b h ∙ room)
    where
      whole : Bool → Machine cgroups × Answer
      whole f = cond f (M, Refused Full) (done_unless_held cgroups M t own_stack c holder)

  pub step_busy : (u : ℕ) → Some u ≡ holder → step_in cgroups M t own_stack (Do c) ≡ (M, Refused (Busy (record { 0 = u })))
  step_busy u e = goes_on ∙ ap (done_unless_held cgroups M t own_stack c) (sym e)

  pub step_refused : (r : Refusal) → None ≡ holder → effect c (tree_of cgroups O h) ≡ Refuse r → step_in cgroups M t own_stack (Do c) ≡ (M, Refused r)
  step_refused r e k = goes_on ∙ ap (done_unless_held cgroups M t own_stack c) (sym e) ∙ ap (accepted cgroups M t own_stack c) k

  abbrev done_machine : Outcome → List Change → Machine cgroups × Answer
  done_machine a d = accepted cgroups M t own_stack c (Accept a d)

  pub step_done : (a : Outcome) (d : List Change) → None ≡ holder → effect c (tree_of cgroups O h) ≡ Accept a d → step_in cgroups M t own_stack (Do c) ≡ done_machine a d
  step_done a d e k = goes_on ∙ ap (done_unless_held cgroups M t own_stack c) (sym e) ∙ ap (accepted cgroups M t own_stack c) k

-- ---- what is left of the core

own_is_command_refusal : (r : Refusal) → is_own_check r ≡ true → is_command_refusal r ≡ true
own_is_command_refusal (Busy u) e = refl
own_is_command_refusal _ e = e

-- what a command meets is recorded
met_noted : (c : Command) (u : Option ℕ) (e : Effect) → ((r : Refusal) → e ≡ Refuse r → is_own_check r ≡ true) → is_recorded {y = cgroups} (Do c) (command_reply u e) ≡ true
met_noted c (Some u) e own = refl
met_noted c None (Refuse r) own = own_is_command_refusal r (own r refl)
met_noted c None (Accept a d) own = refl

module _ {O : Tree} {b : ℕ} {h : History cgroups} {n : ℕ} {R : TreeWithRoom} {H : Holdings} {xs : List (ℕ × Stack)} (core : IsCoreOf O b h n R H xs) (s : ℕ) (x : Stack) (is : found s xs ≡ Some x) where
  abbrev st : ℕ → Items cgroups
  st u = live u h

  abbrev ours : Items cgroups
  ours = live x.number h

  -- where the history isn't full, whatever the reply to a command is, it is recorded
  pub command_noted : (c : Command) → is_full b h ≡ false → is_recorded {y = cgroups} (Do c) (reply cgroups O b h s (Do c)) ≡ true
  command_noted c room =
      let found = replies.holder cgroups O (footprint c (tree_of cgroups O h)) h (numbers (without x.number (opens h))) in
      let own = own_tree cgroups O x.number h in
      ap (is_recorded {y = cgroups} (Do c)) (replied core s x is (Do c) ∙ ap (λ k. cond k (Refused Full) (command_reply found (effect c own))) room) ∙ met_noted c found (effect c own) (own_checks c own)

  -- ---- there was no memory: holdings and stack are as they were

  pub same_core : (H' : Holdings) (x' : Stack) → ((u : ℕ) (m : Mark) → holdings H' u m ≡ holdings H u m) → x'.number ≡ x.number → x'.items ≡ x.items → IsCoreOf O b h n R H' (with_value s x' xs)
  same_core H' x' free number items = record {
    low = core.low;
    high = core.high;
    sound = core.sound;
    reached = core.reached;
    holds = record { tree = core.holds.tree; entries = core.holds.entries; held = λ u m. free u m ∙ core.holds.held u m };
    transactions =
        stack_written O st (opens h) xs core.transactions s x.number x' ours (pairs core s x is) number (items ∙ items_are core s x is)
        ∙ (λ i. map (of_history O (λ u. told_alike (λ k. k) x.number ours st refl u i)) (opens h));
    once = written_once s x' xs core.once;
    reserved = core.reserved;
  }

  module _ (c : Command) (proper : IsProper c) where
    abbrev T : Tree
    T = tree_of cgroups O h

    abbrev f : List Mark
    f = footprint c T

    -- the history is full
    pub run_full : is_full b h ≡ true → reply cgroups O b h s (Do c) ≡ Refused Full
    run_full full =
        reply_in steps_law O b h core.sound core.reached s (Do c) proper x.number (session_open core s x is)
        ∙ ap (λ k. (full_or k).1) (full_is O b h ∙ full)
      where
        full_or : Bool → Machine cgroups × Answer
        full_or k = cond k (machine_of O b h, Refused Full) (done_unless_held cgroups (machine_of O b h) x.number (map (entry_of O) ours) c (stack_holder cgroups f (dropped x.number (map (transaction_of O h) (opens h)))))

    -- what is said of the tree and of equal numbers and marks
    pub refused_here : (r : Refusal) (t : ℕ) (g : List Mark) → t ≡ x.number → g ≡ footprint c R.tree → IsRefusedBy H t g (effect c R.tree) r → IsRefusedBy H x.number f (effect c T) r
    refused_here r t g number marks refused =
        subst (λ U. IsRefusedBy H x.number (footprint c U) (effect c U) r) core.holds.tree (subst₂ (λ t g. IsRefusedBy H t g (effect c R.tree) r) number marks refused)

    pub free_here : (t : ℕ) (g : List Mark) → t ≡ x.number → g ≡ footprint c R.tree → IsFree H t g → IsFree H x.number f
    free_here t g number marks free = subst (λ U. IsFree H x.number (footprint c U)) core.holds.tree (subst₂ (λ t g. IsFree H t g) number marks free)

    pub carried_here : (k : ℕ) (g : List Mark) (a : Answer) (R' : TreeWithRoom) (H' : Holdings) (x' : Stack) → k ≡ length h → g ≡ footprint c R.tree → IsCarriedOut c k g R H x a R' H' x' → IsCarriedOut c (length h) f R H x a R' H' x'
    carried_here k g a R' H' x' place marks carried =
        subst (λ U. IsCarriedOut c (length h) (footprint c U) R H x a R' H' x') core.holds.tree (subst₂ (λ k g. IsCarriedOut c k g R H x a R' H' x') place marks carried)

    module _ (room : is_full b h ≡ false) where
      abbrev in_the_way : Option ℕ
      in_the_way = holder O b h x.number c room

      -- the holder by the lock table is the machine's
      tells : (r : Option ℕ) → ((u : ℕ) → r ≡ Some u → IsInTheWay H x.number f u) → ((u : ℕ) → r ≡ Some u → (v : ℕ) → IsInTheWay H x.number f v → u ≤ v) → (r ≡ None → IsFree H x.number f) → r ≡ in_the_way
      tells r some least none =
          table_tells_holder H (map (transaction_of O h) (opens h)) (holds_stacks O h T R H (once core s x is) core.holds) x.number f
          (newest_first O h (opens h) (at_history (λ O m. EndsAll cgroups O m) end_law O b h core.sound core.reached).numbered) r some least none

      free_is : IsFree H x.number f → None ≡ in_the_way
      free_is free = tells None (λ u e. absurd (true≢false (sym (ap is_some e)))) (λ u e. absurd (true≢false (sym (ap is_some e)))) (λ e. free)

      busy_is : (u : ℕ) → IsLeast H x.number f u → Some u ≡ in_the_way
      busy_is u held = tells (Some u)
          (λ v e. subst (IsInTheWay H x.number f) (same_Some u v e) held.in_the_way)
          (λ v e w way. subst (λ k. k ≤ w) (same_Some u v e) (held.least w way))
          (λ e. absurd (true≢false (ap is_some e)))

      -- ---- it is refused

      module _ (r : Refusal) (refused : IsRefusedBy H x.number f (effect c T) r) where
        pub told : is_command_refusal r ≡ true
        told = elim refused as (λ k. is_command_refusal r ≡ true) [ inl k ↦ ap is_command_refusal k.1 | inr k ↦ own_is_command_refusal r (own_checks c T r k.1) ]

        steps : step_in cgroups (machine_of O b h) x.number (map (entry_of O) ours) (Do c) ≡ (machine_of O b h, Refused r)
        steps = elim refused as (λ k. step_in cgroups (machine_of O b h) x.number (map (entry_of O) ours) (Do c) ≡ (machine_of O b h, Refused r)) [
          | inl k ↦ step_busy O b h x.number c room k.0 (busy_is k.0 k.2) ∙ ap (λ e. pair_with e) (sym k.1)
          | inr k ↦ step_refused O b h x.number c room r (free_is k.0) k.1
        ]
          where
            pair_with : Refusal → Machine cgroups × Answer
            pair_with e = (machine_of O b h, Refused e)

        pub refused_reply : reply cgroups O b h s (Do c) ≡ Refused r
        refused_reply = reply_in steps_law O b h core.sound core.reached s (Do c) proper x.number (session_open core s x is) ∙ ap (λ (p : Machine cgroups × Answer). p.1) steps

        pub refused_history : history_after O b h s (Do c) ≡ record { session = s; transaction = x.number; request = Do c; answer = Refused r } ∷ h
        refused_history = history_is core s x is (Do c) (Refused r) proper refused_reply told

        pub refused_core : (n' : ℕ) (x' : Stack) → n' ≡ n → x'.number ≡ x.number → x'.items ≡ x.items
            → IsCoreOf O b (record { session = s; transaction = x.number; request = Do c; answer = Refused r } ∷ h) n' R H (with_value s x' xs)
        refused_core n' x' same number items =
            let tree : tree_of cgroups O (record { session = s; transaction = x.number; request = Do c; answer = Refused r } ∷ h) ≡ T =
            tree_after core s x is (Do c) (Refused r) proper refused_reply told ∙ ap (λ (p : Machine cgroups × Answer). p.0.tree) steps in
            stays_core core s x is (Do c) (Refused r) proper refused_reply told refl n' R H x' number (items ∙ items_are core s x is)
            (subst (λ U. Holds O (numbers (opens h)) (with_items x.number ours st) U R H) (sym tree) (same_stacks (with_items x.number ours st) st (λ u. told_alike (λ k. k) x.number ours st refl u) core.holds))
            (omega (arith, same))

      -- ---- it is done

      module _ (free : IsFree H x.number f) (a : Answer) (R' : TreeWithRoom) (H' : Holdings) (x' : Stack) (carried : IsCarriedOut c (length h) f R H x a R' H' x') where
        abbrev o : Outcome
        o = carried.applied.outcome

        abbrev d : List Change
        d = carried.changes

        effect_is : effect c T ≡ Accept o d
        effect_is = ap (effect c) (sym core.holds.tree) ∙ carried.applied.effect

        done_steps : step_in cgroups (machine_of O b h) x.number (map (entry_of O) ours) (Do c) ≡ done_machine O b h x.number c room o d
        done_steps = step_done O b h x.number c room o d (free_is free) effect_is

        gave : reply cgroups O b h s (Do c) ≡ Gave o
        gave = reply_in steps_law O b h core.sound core.reached s (Do c) proper x.number (session_open core s x is) ∙ ap (λ (p : Machine cgroups × Answer). p.1) done_steps

        pub done_reply : reply cgroups O b h s (Do c) ≡ a
        done_reply = gave ∙ sym carried.applied.answer

        pub done_history : history_after O b h s (Do c) ≡ record { session = s; transaction = x.number; request = Do c; answer = a } ∷ h
        done_history = history_is core s x is (Do c) (Gave o) proper gave refl ∙ ap (λ k. record { session = s; transaction = x.number; request = Do c; answer = k } ∷ h) (sym carried.applied.answer)

        abbrev more : Items cgroups
        more = Ran x.number h c o ∷ ours

        tree_is : tree_of cgroups O (record { session = s; transaction = x.number; request = Do c; answer = Gave o } ∷ h) ≡ done d T
        tree_is = tree_after core s x is (Do c) (Gave o) proper gave refl ∙ ap (λ (p : Machine cgroups × Answer). p.0.tree) done_steps

        is_done : IsDone O x.number h c o d T R H R' H'
        is_done = record { recorded = refl; effect = effect_is; tree = carried.applied.tree; entries = carried.applied.entries; held = carried.taken }

        more_items : x'.items ≡ map (stack_item O) more
        more_items = ap (λ (v : Stack). v.items) carried.stack ∙ (λ i. stack.Command (length h) (sym (ap changes_of effect_is) i) f ∷ items_are core s x is i)

        gave_core : (n' : ℕ) → n' ≡ n + 1 → IsCoreOf O b (record { session = s; transaction = x.number; request = Do c; answer = Gave o } ∷ h) n' R' H' (with_value s x' xs)
        gave_core n' one =
            stays_core core s x is (Do c) (Gave o) proper gave refl refl n' R' H' x' (ap (λ (v : Stack). v.number) carried.stack) more_items
            (subst (λ U. Holds O (numbers (opens h)) (with_items x.number more st) U R' H') (sym tree_is) (held_after_doing x.number x.number c h o d R' H' core.holds (is_open core s x is) is_done))
            (omega (arith, one))

        pub done_core : (n' : ℕ) → n' ≡ n + 1 → IsCoreOf O b (record { session = s; transaction = x.number; request = Do c; answer = a } ∷ h) n' R' H' (with_value s x' xs)
        done_core n' one = subst (λ k. IsCoreOf O b (record { session = s; transaction = x.number; request = Do c; answer = k } ∷ h) n' R' H' (with_value s x' xs)) (sym carried.applied.answer) (gave_core n' one)
