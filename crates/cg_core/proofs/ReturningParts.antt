-- Requests of a session: what a core is after them, by its parts.
use Rattle.std.proofs.Common.{◌≡◌, ℕ, ◌+◌, ◌<◌, ◌≤◌, ◌↔◌, Bool, true, false, List, ◌∷◌, length, map, Option, OnSome, Some, None, Ok, Err, refl, sym, ap, subst, subst₂, ◌∙◌, true≢false, arith}
use Rattle.std.proofs.lemmas.Bool.{true_from_ne_false}
use Rattle.std.specs.Result.{is_ok}
use Rattle.std.proofs.lemmas.List.{length-map}
use Rattle.cg_core.proofs.AtHistory.{at_history, numbers_once, within}
use Rattle.cg_core.proofs.Open.{ArePaired, among_open, paired, session_none, session_some, sessions_once, stack_written}
use Rattle.cg_core.proofs.Slots.{count_on, count_is, count_same, count_with, count_closed}
use Rattle.cg_core.proofs.Stages.Alike.{same_stacks, told_alike}
use Rattle.cg_core.proofs.Stages.LiveStacks.{live_stacks}
use Rattle.cg_core.proofs.Stages.Unwinding.{Unwindable, unwindable_by_law}
use Rattle.cg_core.proofs.Stepping.{tree_in, recorded, unrecorded, reached_on}
use Rattle.cg_core.proofs.TheLaws.{end_law, faithful_law, newest_law, steps_law}
use Rattle.cg_core.specs.State as cores
use Rattle.cg_core.specs.State.{CoreState}
use Rattle.cg_core.specs.Parts.{of_history, stack_item, reserved_for, IsCoreOf}
use Rattle.cg_core.specs.Stage.{Holds}
use Rattle.cg_core_laws.specs.LettingGo.{NewestLetsGo}
use Rattle.cg_core_laws.specs.MachineOf.{entry_of, machine_of, history_after, with_record, Reached}
use Rattle.cg_core_laws.specs.Serial.{OnceEach}
use Rattle.cg_core_laws.specs.Unwind.{with_items}
use Rattle.cg_history.proofs.BySession.{written_once}
use Rattle.cg_history.specs.SessionMap.{found, with_value}
use Rattle.cg_locks.specs.Holdings.{Holdings}
use Rattle.cg_model.specs.Cgroups.{cgroups}
use Rattle.cg_model.specs.History.{Request, Answer, Refused, History, is_recorded, named_in, IsProperRequest}
use Rattle.cg_model.specs.Live as live
use Rattle.cg_model.specs.Live.{Items, live_after}
use Rattle.cg_model.specs.Machine.{step_in}
use Rattle.cg_model.specs.Opens.{among, numbers, opens, transaction_in, without}
use Rattle.cg_model.specs.Reply.{reply, reply_at, reply_in, reply_out, is_full, live_count}
use Rattle.cg_model.specs.Run.{tree_of}
use Rattle.cg_model.specs.Tree.{Tree}
use Rattle.cg_name.specs.declared.refusal.Refusal.TheVariants.{NoTransaction}
use Rattle.cg_tree.specs.Room.{TreeWithRoom}
use Rattle.cg_txn.specs.Stack.{Stack}

-- ---- cores by their parts, and what they tell

abbrev pub state : Tree → ℕ → History cgroups → CoreState
state O b h = record { opening = O; bound = b; history = h }

module _ {O : Tree} {b : ℕ} {h : History cgroups} {c : CoreState} (s : ℕ) (q : Request cgroups) (is : state O b h ≡ c) where
  -- the answer is the reply of the core
  pub answer_told : {a : Answer} → reply cgroups O b h s q ≡ a → a ≡ cores.reply c s q
  answer_told e = sym e ∙ ap (λ k. cores.reply k s q) is

  -- the history is that of the core after it
  pub state_told : {k : History cgroups} → history_after O b h s q ≡ k → state O b k ≡ cores.after c s q
  state_told e = ap (state O b) (sym e) ∙ ap (λ k. cores.after k s q) is

-- the history is full where the core says so
pub full_told : {O : Tree} {b : ℕ} {h : History cgroups} {c : CoreState} {said full : Bool} → state O b h ≡ c → said ≡ is_full c.bound c.history → said ≡ full → is_full b h ≡ full
full_told is told e = ap (λ (v : CoreState). is_full v.bound v.history) is ∙ sym told ∙ e

-- an answer that is recorded is no reply that isn't
pub due : (q : Request cgroups) (a p : Answer) → a ≡ p → is_recorded q a ≡ true → {X : Type 0} → is_recorded q p ≡ false → X
due q a p is noted unnoted = absurd (true≢false (sym noted ∙ ap (is_recorded q) is ∙ unnoted))

-- what the code adds to its history, which has the number, the answer and the records so far by names of its own
pub noted_is : {s k t m : ℕ} {q : Request cgroups} {a c : Answer} {g h : History cgroups} {p : History cgroups × ℕ} → k ≡ t → a ≡ c → g ≡ h
    → p ≡ (record { session = s; transaction = k; request = q; answer = a } ∷ g, m) → p.0 ≡ record { session = s; transaction = t; request = q; answer = c } ∷ h
noted_is {s} {k} {t} {m} {q} number answer before pushed =
    ap (λ p. p.0) pushed ∙ (λ i. record { session = s; transaction = number i; request = q; answer = answer i } ∷ before i)

-- what holds once a value is lent, where one is
pub where_lent : {A P : Type 0} {r : Option A} {v : A} → r ≡ Some v → OnSome r P → P
where_lent {A} {P} is holds = subst (λ r. OnSome r P) is holds

-- a result that is a value is no error
pub no_error : {T E : Type 0} (v : T) (e : E) (b : Bool) → ((Ok v) ≡ Err e) ↔ (b ≡ false) → b ≡ true
no_error v e b tie = true_from_ne_false b (λ k. true≢false (ap is_ok (tie.1 k)))

-- ---- records and slots are within the bound

module _ {O : Tree} {b : ℕ} {h : History cgroups} {n : ℕ} {R : TreeWithRoom} {H : Holdings} {xs : List (ℕ × Stack)} (core : IsCoreOf O b h n R H xs) where
  pub few : length h + n ≤ 1048576
  few =
      let used : length h + (length (opens h) + live_count (opens h) h) ≤ b = within O b h core.sound core.reached faithful_law core.low in
      let high : b ≤ 1048576 = core.high in
      let reserved : n ≡ length (opens h) + live_count (opens h) h = core.reserved in
      omega (arith, used, high, reserved)

  -- so one more can be counted
  pub few_records : length h < 4294967295
  few_records = let all : length h + n ≤ 1048576 = few in omega (arith, all)

-- ---- a session with no open transaction: a request for one is refused, and has no record

module _ {O : Tree} {b : ℕ} {h : History cgroups} {n : ℕ} {R : TreeWithRoom} {H : Holdings} {xs : List (ℕ × Stack)} (core : IsCoreOf O b h n R H xs) (s : ℕ) (none : found s xs ≡ None) (q : Request cgroups) where
  pub out_refused : reply_out cgroups b h q ≡ Refused NoTransaction → reply cgroups O b h s q ≡ Refused NoTransaction
  out_refused e = ap (λ o. reply_at cgroups O b h o q) (session_none O (λ u. live.live u h) (opens h) xs core.transactions s none) ∙ e

  pub history_out : IsProperRequest q → reply_out cgroups b h q ≡ Refused NoTransaction → is_recorded q (Refused NoTransaction) ≡ false → history_after O b h s q ≡ h
  history_out proper e unnoted = unrecorded steps_law O b h core.sound core.reached s q proper (Refused NoTransaction) (out_refused e) unnoted

-- ---- an open transaction of a core

module _ {O : Tree} {b : ℕ} {h : History cgroups} {n : ℕ} {R : TreeWithRoom} {H : Holdings} {xs : List (ℕ × Stack)} (core : IsCoreOf O b h n R H xs) (s : ℕ) (x : Stack) (is : found s xs ≡ Some x) where
  abbrev stacks : ℕ → Items cgroups
  stacks u = live.live u h

  abbrev ours : Items cgroups
  ours = live.live x.number h

  -- its number, and what stands on its stack
  pub session_open : transaction_in s (opens h) ≡ Some x.number
  session_open = (session_some O (λ u. live.live u h) (opens h) xs core.transactions s x is).0

  pub items_are : x.items ≡ map (stack_item O) (live.live x.number h)
  items_are = (session_some O (λ u. live.live u h) (opens h) xs core.transactions s x is).1

  -- it is open, under a number of its own, and its session is the one with that number
  pub is_open : among x.number (numbers (opens h)) ≡ true
  is_open = among_open s x.number (opens h) session_open

  pub once : OnceEach (numbers (opens h))
  once = numbers_once O b h core.sound core.reached end_law

  pub pairs : ArePaired s x.number (opens h)
  pairs = paired s x.number (opens h) (sessions_once O (λ u. live.live u h) (opens h) xs core.transactions core.once) once session_open

  -- all that is open may be unwound
  pub unwindable : Unwindable O (numbers (opens h)) (λ u. live.live u h) (tree_of cgroups O h)
  unwindable = unwindable_by_law O (machine_of O b h) (at_history NewestLetsGo newest_law O b h core.sound core.reached)

  -- its end has a slot, and so has each of its items
  pub slots_there : length x.items + 1 ≤ n
  slots_there =
      let all : length x.items ≡ length ours = ap length items_are ∙ length-map ours (stack_item O) in
      let one : (length (without x.number (opens h)) + 1 ≡ length (opens h)) × (count_on stacks (without x.number (opens h)) + length ours ≡ count_on stacks (opens h)) = count_closed x.number stacks (opens h) once is_open in
      let first : length (without x.number (opens h)) + 1 ≡ length (opens h) = one.0 in
      let others : count_on stacks (without x.number (opens h)) + length ours ≡ count_on stacks (opens h) = one.1 in
      let counted : live_count (opens h) h ≡ count_on stacks (opens h) = count_is h (opens h) in
      let reserved : n ≡ length (opens h) + live_count (opens h) h = core.reserved in
      omega (arith, all, first, others, counted, reserved)

  -- so one is there
  pub slot_there : 0 < n
  slot_there = let slots : length x.items + 1 ≤ n = slots_there in omega (arith, slots)

  -- the answer is that to its own request
  pub replied : (q : Request cgroups) → reply cgroups O b h s q ≡ reply_in cgroups O b h x.number q
  replied q = ap (λ o. reply_at cgroups O b h o q) session_open

  -- where nothing changes, it is the same core
  pub written_same : IsCoreOf O b h n R H (with_value s x xs)
  written_same = record {
    low = core.low;
    high = core.high;
    sound = core.sound;
    reached = core.reached;
    holds = core.holds;
    transactions =
        stack_written O (λ u. live.live u h) (opens h) xs core.transactions s x.number x ours pairs refl items_are
        ∙ (λ i. map (of_history O (λ u. told_alike (λ k. k) x.number ours stacks refl u i)) (opens h));
    once = written_once s x xs core.once;
    reserved = core.reserved;
  }

  -- and so it is with equal parts
  pub unchanged : {R' : TreeWithRoom} {H' : Holdings} {x' : Stack} {xs' : List (ℕ × Stack)} → R' ≡ R → H' ≡ H → x' ≡ x → xs' ≡ with_value s x' xs → IsCoreOf O b h n R' H' xs'
  unchanged {R'} {H'} tree locks same written =
      subst (λ l. IsCoreOf O b h n R' H' l) (sym (written ∙ ap (λ y. with_value s y xs) same)) (subst₂ (λ R H. IsCoreOf O b h n R H (with_value s x xs)) (sym tree) (sym locks) written_same)

  -- ---- a request that is recorded

  module _ (q : Request cgroups) (a : Answer) (proper : IsProperRequest q) (answer : reply cgroups O b h s q ≡ a) (noted : is_recorded q a ≡ true) where
    -- the history with its record
    abbrev after : History cgroups
    after = record { session = s; transaction = x.number; request = q; answer = a } ∷ h

    recorded_in : with_record h s q a ≡ after
    recorded_in i = record { session = s; transaction = named_in (session_open i) a; request = q; answer = a } ∷ h

    pub history_is : history_after O b h s q ≡ after
    history_is = recorded steps_law O b h core.sound core.reached s q proper a answer noted ∙ recorded_in

    -- steps lead to it
    pub reached_after : Reached O b after
    reached_after = subst (Reached O b) recorded_in (reached_on steps_law O b h core.sound core.reached s q proper a answer noted)

    -- its tree is that of the machine's step
    pub tree_after : tree_of cgroups O after ≡ (step_in cgroups (machine_of O b h) x.number (map (entry_of O) ours) q).0.tree
    tree_after = sym (ap (tree_of cgroups O) history_is) ∙ tree_in steps_law O b h core.sound core.reached s q proper x.number session_open

    abbrev left : Items cgroups
    left = live_after q a x.number h ours

    -- the stack of the transaction is what is left of it, and the others stay
    pub same : (u : ℕ) → live.live u after ≡ with_items x.number left stacks u
    same u = live_stacks (record { session = s; transaction = x.number; request = q; answer = a }) h u

    -- the core with what is left of the stack
    pub stays_core : (opens after ≡ opens h) → (n' : ℕ) (R' : TreeWithRoom) (H' : Holdings) (x' : Stack) → x'.number ≡ x.number → x'.items ≡ map (stack_item O) left
        → Holds O (numbers (opens h)) (with_items x.number left stacks) (tree_of cgroups O after) R' H' → n' + length ours ≡ n + length left
        → IsCoreOf O b after n' R' H' (with_value s x' xs)
    stays_core kept n' R' H' x' number items holds counted = record {
      low = core.low;
      high = core.high;
      sound = core.sound;
      reached = reached_after;
      holds = subst (λ ps. Holds O (numbers ps) (λ u. live.live u after) (tree_of cgroups O after) R' H') (sym kept) (same_stacks (λ u. live.live u after) (with_items x.number left stacks) same holds);
      transactions =
          stack_written O (λ u. live.live u h) (opens h) xs core.transactions s x.number x' left pairs number items
          ∙ (λ i. map (of_history O (λ u. sym (same u) i)) (sym kept i));
      once = written_once s x' xs core.once;
      reserved = slots_after;
    }
      where
        slots_after : n' ≡ reserved_for after
        slots_after =
            let own : count_on (with_items x.number left stacks) (opens h) + length ours ≡ count_on stacks (opens h) + length left = count_with x.number left stacks (opens h) once is_open in
            let before : live_count (opens h) h ≡ count_on stacks (opens h) = count_is h (opens h) in
            let reserved : n ≡ length (opens h) + live_count (opens h) h = core.reserved in
            let now : live_count (opens after) after ≡ count_on (with_items x.number left stacks) (opens h) =
            ap (λ ps. live_count ps after) kept ∙ count_is after (opens h) ∙ count_same (with_items x.number left stacks) (λ u. live.live u after) same (opens h) in
            let many : length (opens after) ≡ length (opens h) = ap length kept in
            omega (arith, own, before, reserved, now, many, counted)
