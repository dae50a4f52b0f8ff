-- A transaction ends: its session has none, its slots are given up, and nothing of it is held.
use Rattle.std.proofs.Common.{◌≡◌, ℕ, ◌+◌, ◌-◌, ◌≤◌, ◌<◌, ◌==◌, Bool, true, false, cond, List, [], ◌∷◌, length, map, Some, None, is_some, refl, sym, ap, subst, subst₂, ◌∙◌, true≢false, arith}
use Rattle.std.proofs.lemmas.List.{length-map}
use Rattle.cg_model.specs.Cgroups.{cgroups}
use Rattle.cg_model.specs.History.{Request, Abort, Commit, Answer, Refused, History, is_recorded, IsProperRequest}
use Rattle.cg_model.specs.Live.{Items, live, live_after}
use Rattle.cg_model.specs.Machine.{step_in}
use Rattle.cg_model.specs.Opens.{Opens, numbers, opens, opens_after, without}
use Rattle.cg_model.specs.Reply.{live_count, reply, reply_in}
use Rattle.cg_model.specs.Run.{tree_of}
use Rattle.cg_model.specs.Tree.{Tree}
use Rattle.cg_core_laws.specs.MachineOf.{entry_of, history_after, machine_of}
use Rattle.cg_core_laws.specs.Unwind.{with_items}
use Rattle.cg_core_laws.proofs.ControlGroups.UnwindingStages.{own_items}
use Rattle.cg_history.specs.SessionMap as sessions
use Rattle.cg_history.specs.SessionMap.{found}
use Rattle.cg_history.proofs.BySession.{removed_once}
use Rattle.cg_locks.specs.Holdings.{Holdings}
use Rattle.cg_name.specs.declared.refusal.Refusal.TheVariants.{NoTransaction}
use Rattle.cg_tree.specs.Room.{TreeWithRoom}
use Rattle.cg_txn.specs.Stack.{Stack}
use Rattle.cg_core.proofs.Open.{closed}
use Rattle.cg_core.proofs.ReturningParts.{answer_told, few_records, history_is, history_out, is_open, items_are, noted_is, once, out_refused, pairs, reached_after, replied, same, slots_there, state, state_told, tree_after}
use Rattle.cg_core.proofs.Slots.{count_on, count_is, count_same, count_with, count_closed}
use Rattle.cg_core.proofs.Stages.BeginAndEnd.{ended}
use Rattle.cg_core.specs.declared.ending.Ending.{Ending}
use Rattle.cg_core.specs.declared.ending.Ending.TheVariants as endings
use Rattle.cg_core.specs.declared.machine.Core.TheInside.{Inside}
use Rattle.cg_core.specs.Ending.{asked_by}
use Rattle.cg_core.specs.Parts.{IsCoreOf, of_history, stack_item, reserved_for}
use Rattle.cg_core.specs.Stage.{Holds}
use Rattle.cg_core.specs.State.{CoreState, after}
use Rattle.cg_core.specs.State as cores

-- the history with the record of a request in the transaction t
abbrev pub with_end : History cgroups → ℕ → ℕ → Request cgroups → Answer → History cgroups
with_end h s t q a = record { session = s; transaction = t; request = q; answer = a } ∷ h

-- other stacks stay
listed_alike : (O : Tree) (st st' : ℕ → Items cgroups) (t : ℕ) → ((u : ℕ) → (u == t) ≡ false → st' u ≡ st u) → (ps : Opens) → map (of_history O st) (without t ps) ≡ map (of_history O st') (without t ps)
listed_alike O st st' t others [] = refl
listed_alike O st st' t others (p ∷ ps) = at (p.1 == t) refl (listed_alike O st st' t others ps)
  where
    at : (b : Bool) → (p.1 == t) ≡ b → map (of_history O st) (without t ps) ≡ map (of_history O st') (without t ps)
        → map (of_history O st) (cond b (without t ps) (p ∷ without t ps)) ≡ map (of_history O st') (cond b (without t ps) (p ∷ without t ps))
    at true k rest = rest
    at false k rest = λ i. (p.0, (p.1, map (stack_item O) (sym (others p.1 k) i))) ∷ rest i

module _ {O : Tree} {b : ℕ} {h : History cgroups} {n : ℕ} {R : TreeWithRoom} {H : Holdings} {xs : List (ℕ × Stack)} (core : IsCoreOf O b h n R H xs) (s : ℕ) (x : Stack) (here : found s xs ≡ Some x) where
  -- it ends by this request, with this answer, and m is left of the core, whose history has no record of it as yet
  pub record IsEnd (q : Request cgroups) (a : Answer) (m : Inside) : Type 0 where
    pub proper : IsProperRequest q
    pub answered : reply_in cgroups O b h x.number q ≡ a
    pub noted : is_recorded q a ≡ true
    pub closes : opens_after a s x.number (opens h) ≡ without x.number (opens h)
    pub rest : m ≡ record { opening = O; limit = b; tree = m.tree; locks = m.locks; «open» = sessions.without s xs; history = (h, n); spare = m.spare }
    pub holds : Holds O (numbers (opens h)) (with_items x.number [] (λ u. live u h)) (step_in cgroups (machine_of O b h) x.number (map (entry_of O) (live x.number h)) q).0.tree m.tree m.locks

module _ {O : Tree} {b : ℕ} {h : History cgroups} {n : ℕ} {R : TreeWithRoom} {H : Holdings} {xs : List (ℕ × Stack)} {core : IsCoreOf O b h n R H xs} {s : ℕ} {x : Stack} {here : found s xs ≡ Some x} {q : Request cgroups} {a : Answer} {m : Inside} (end : IsEnd core s x here q a m) where
  abbrev stacks : ℕ → Items cgroups
  stacks u = live u h

  abbrev next : History cgroups
  next = with_end h s x.number q a

  abbrev left : Items cgroups
  left = live_after q a x.number h (stacks x.number)

  -- a slot is reserved for it
  pub slot_for_end : 0 < m.history.1
  slot_for_end =
      let slots : length x.items + 1 ≤ n = slots_there core s x here in
      let are : m.history.1 ≡ n = ap (λ m. m.history.1) end.rest in
      omega (arith, slots, are)

  pub few_before : length m.history.0 < 4294967295
  few_before = subst (λ m. length m.history.0 < 4294967295) (sym end.rest) (few_records core)

  -- and behind its record one for each of its items
  pub slots_for_items : {l : ℕ} {k : History cgroups} {p : History cgroups × ℕ} → l ≡ length x.items → p ≡ (k, m.history.1 - 1) → l ≤ p.1
  slots_for_items {l} {k} {p} long pushed =
      let slots : length x.items + 1 ≤ n = slots_there core s x here in
      let are : m.history.1 ≡ n = ap (λ m. m.history.1) end.rest in
      let left : p.1 ≡ m.history.1 - 1 = ap (λ p. p.1) pushed in
      omega (arith, slots, are, long, left)

  replies : reply cgroups O b h s q ≡ a
  replies = replied core s x here q ∙ end.answered

  others : (u : ℕ) → (u == x.number) ≡ false → live u next ≡ live u h
  others u k = same core s x here q a end.proper replies end.noted u ∙ ap (λ c. cond c left (live u h)) k

  slots_left : (l : ℕ) → l ≡ length x.items → n - 1 - l ≡ reserved_for next
  slots_left l is =
      let open_ones : (length (without x.number (opens h)) + 1 ≡ length (opens h)) × (count_on stacks (without x.number (opens h)) + length (stacks x.number) ≡ count_on stacks (opens h)) = count_closed x.number stacks (opens h) (once core s x here) (is_open core s x here) in
      let gone : count_on (with_items x.number left stacks) (without x.number (opens h)) + length (with_items x.number left stacks x.number) ≡ count_on (with_items x.number left stacks) (opens h) = (count_closed x.number (with_items x.number left stacks) (opens h) (once core s x here) (is_open core s x here)).1 in
      let top : length (with_items x.number left stacks x.number) ≡ length left = ap length (own_items x.number left stacks) in
      let changed : count_on (with_items x.number left stacks) (opens h) + length (stacks x.number) ≡ count_on stacks (opens h) + length left = count_with x.number left stacks (opens h) (once core s x here) (is_open core s x here) in
      let alike : count_on (λ u. live u next) (without x.number (opens h)) ≡ count_on (with_items x.number left stacks) (without x.number (opens h)) =
      count_same (with_items x.number left stacks) (λ u. live u next) (same core s x here q a end.proper replies end.noted) (without x.number (opens h))
      in
      let count : live_count (opens h) h ≡ count_on stacks (opens h) = count_is h (opens h) in
      let count' : live_count (without x.number (opens h)) next ≡ count_on (λ u. live u next) (without x.number (opens h)) = count_is next (without x.number (opens h)) in
      let long : length x.items ≡ length (stacks x.number) = ap length (items_are core s x here) ∙ length-map (stacks x.number) (stack_item O) in
      let reserved : n ≡ length (opens h) + live_count (opens h) h = core.reserved in
      let all : n - 1 - l ≡ length (without x.number (opens h)) + live_count (without x.number (opens h)) next = omega (arith, open_ones.0, gone, top, changed, alike, count, count', long, reserved, is) in
      all ∙ ap (λ (ps : Opens). length ps + live_count ps next) (sym end.closes)

  held : Holds O (numbers (opens h)) (with_items x.number [] stacks) (tree_of cgroups O next) m.tree m.locks
  held = subst (λ T. Holds O (numbers (opens h)) (with_items x.number [] stacks) T m.tree m.locks) (sym (tree_after core s x here q a end.proper replies end.noted)) end.holds

  core_left : (l : ℕ) → l ≡ length x.items → IsCoreOf O b next (n - 1 - l) m.tree m.locks (sessions.without s xs)
  core_left l is = record {
    low = core.low;
    high = core.high;
    sound = core.sound;
    reached = reached_after core s x here q a end.proper replies end.noted;
    holds = subst (λ ps. Holds O (numbers ps) (λ t. live t next) (tree_of cgroups O next) m.tree m.locks) (sym end.closes) (ended stacks x.number (λ t. live t next) others (opens h) held);
    transactions =
        closed O stacks (opens h) xs core.transactions s x.number (pairs core s x here)
        ∙ listed_alike O stacks (λ t. live t next) x.number others (opens h)
        ∙ ap (λ ps. map (of_history O (λ t. live t next)) ps) (sym end.closes);
    once = removed_once s xs core.once;
    reserved = slots_left l is;
  }

  -- what the code adds to its history and gives up of its slots, for a transaction with the number k and l items, and its answer c
  module _ {k l : ℕ} {c : Answer} (is_number : k ≡ x.number) (is_length : l ≡ length x.items) (is_answer : c ≡ a) {p e : History cgroups × ℕ}
      (pushed : p ≡ (with_end m.history.0 s k q c, m.history.1 - 1)) (released : e ≡ (p.0, p.1 - l)) where
    its_history : e.0 ≡ next
    its_history = ap (λ e. e.0) released ∙ noted_is is_number is_answer (ap (λ m. m.history.0) end.rest) pushed

    its_slots : e.1 ≡ n - 1 - l
    its_slots = ap (λ e. e.1) released ∙ ap (λ p. p.1 - l) pushed ∙ ap (λ m. m.history.1 - 1 - l) end.rest

    -- the state after it
    pub state_left : {v : CoreState} → state O b h ≡ v → state m.opening m.limit e.0 ≡ after v s q
    state_left is =
        ap (λ m. state m.opening m.limit e.0) end.rest
        ∙ ap (state O b) its_history
        ∙ state_told s q is (history_is core s x here q a end.proper replies end.noted)

    -- and its parts
    pub parts_left : IsCoreOf m.opening m.limit e.0 e.1 m.tree m.locks m.open
    parts_left =
        subst (λ i. IsCoreOf i.opening i.limit e.0 e.1 m.tree m.locks i.open) (sym end.rest)
        (subst₂ (λ h' n'. IsCoreOf O b h' n' m.tree m.locks (sessions.without s xs)) (sym its_history) (sym its_slots) (core_left l is_length))

  -- its answer
  pub answer_is : {v : CoreState} → state O b h ≡ v → a ≡ cores.reply v s q
  answer_is is = answer_told s q is replies

-- ---- a session with no open transaction

-- where the session has no value, none is taken out
without_absent : {V : Type 0} (s : ℕ) (xs : List (ℕ × V)) → found s xs ≡ None → sessions.without s xs ≡ xs
without_absent s [] e = refl
without_absent s (x ∷ xs) e = at (x.0 == s) e (without_absent s xs)
  where
    at : (b : Bool) → cond b (Some x.1) (found s xs) ≡ None → (found s xs ≡ None → sessions.without s xs ≡ xs) → cond b (sessions.without s xs) (x ∷ sessions.without s xs) ≡ x ∷ xs
    at true e rest = absurd (true≢false (ap is_some e))
    at false e rest = ap (λ l. x ∷ l) (rest e)

-- nothing is taken out of the map
pub stays_without : {O : Tree} {b : ℕ} {h : History cgroups} {n : ℕ} {R : TreeWithRoom} {H : Holdings} {xs xs' : List (ℕ × Stack)} → IsCoreOf O b h n R H xs → (s : ℕ) → found s xs ≡ None → xs' ≡ sessions.without s xs
    → IsCoreOf O b h n R H xs'
stays_without {O} {b} {h} {n} {R} {H} {xs} core s none removed = subst (IsCoreOf O b h n R H) (sym (removed ∙ without_absent s xs none)) core

-- it is refused, and has no record
pub none_ends : {O : Tree} {b : ℕ} {h : History cgroups} {n : ℕ} {R : TreeWithRoom} {H : Holdings} {xs : List (ℕ × Stack)} → IsCoreOf O b h n R H xs → (s : ℕ) → found s xs ≡ None → (e : Ending)
    → (reply cgroups O b h s (asked_by e) ≡ Refused NoTransaction) × (history_after O b h s (asked_by e) ≡ h)
none_ends core s none endings.Abort = (out_refused core s none Abort refl, history_out core s none Abort tt refl refl)
none_ends core s none endings.Commit = (out_refused core s none Commit refl, history_out core s none Commit tt refl refl)
