-- A transaction begins.
use Rattle.std.proofs.Common.{◌≡◌, ℕ, ◌+◌, ◌-◌, ◌==◌, nat_lt, Bool, true, false, cond, List, [], ◌∷◌, length, map, Option, Some, None, is_some, refl, sym, ap, subst, ◌∙◌, true≢false, arith}
use Rattle.std.proofs.lemmas.List.{length-map}
use Rattle.cg_name.specs.declared.refusal.Refusal.TheVariants.{AlreadyOpen, Full}
use Rattle.cg_model.specs.Cgroups.{cgroups}
use Rattle.cg_model.specs.History.{Begin, Answer, Begun, Refused, History, named_in}
use Rattle.cg_model.specs.Live.{Items, live}
use Rattle.cg_model.specs.Machine.{Machine, StackEntry, Transaction, is_full_machine, stack_entries}
use Rattle.cg_model.specs.Opens.{Opens, numbers, transaction_in, opens, begins}
use Rattle.cg_model.specs.Reply.{reply, reply_at, is_full, live_count}
use Rattle.cg_model.specs.Run.{tree_of}
use Rattle.cg_model.specs.Tree.{Tree}
use Rattle.cg_core_laws.specs.MachineOf.{entry_of, transaction_of, machine_of, history_after, with_record}
use Rattle.cg_history.specs.SessionMap.{found}
use Rattle.cg_locks.specs.Holdings.{Holdings}
use Rattle.cg_tree.specs.Room.{TreeWithRoom}
use Rattle.cg_txn.specs.Stack.{Stack}
use Rattle.cg_core.specs.Parts.{of_history, stack_item, reserved_for, IsCoreOf}
use Rattle.cg_core.specs.Stage.{Holds}
use Rattle.cg_core.proofs.Open.{session_none}
use Rattle.cg_core.proofs.Slots.{count_is, count_same}
use Rattle.cg_core.proofs.Stages.Alike.{same_stacks}
use Rattle.cg_core.proofs.Stages.BeginAndEnd.{begun}
use Rattle.cg_core.proofs.Stepping.{tree_out, transactions_out, recorded, reached_on}
use Rattle.cg_core.proofs.TheLaws.{steps_law}

-- ---- the machine of a history is full where the history is

entries_are : (O : Tree) (h : History cgroups) (ps : Opens) → stack_entries (map (transaction_of O h) ps) ≡ live_count ps h
entries_are O h [] = refl
entries_are O h (p ∷ ps) = λ i. length-map (live p.1 h) (entry_of O) i + entries_are O h ps i

pub full_is : (O : Tree) (b : ℕ) (h : History cgroups) → is_full_machine (machine_of O b h) ≡ is_full b h
full_is O b h = λ i. nat_lt (b - 2) (length h + (length-map (opens h) (transaction_of O h) i + entries_are O h (opens h) i))

-- ---- the reply

pub begin_reply : (O : Tree) (b : ℕ) (h : History cgroups) (s : ℕ) → transaction_in s (opens h) ≡ None → is_full b h ≡ false → reply cgroups O b h s Begin ≡ Begun (begins h + 1)
begin_reply O b h s none room = ap (λ o. reply_at cgroups O b h o Begin) none ∙ ap (λ f. cond f (Refused Full) (Begun (begins h + 1))) room

-- the session has one already
pub already_open : (O : Tree) (b : ℕ) (h : History cgroups) (s : ℕ) → is_some (transaction_in s (opens h)) ≡ true → reply cgroups O b h s Begin ≡ Refused AlreadyOpen
already_open O b h s there = at (transaction_in s (opens h)) there
  where
    at : (o : Option ℕ) → is_some o ≡ true → reply_at cgroups O b h o Begin ≡ Refused AlreadyOpen
    at None e = absurd (true≢false (sym e))
    at (Some t) e = refl

-- the history is full
pub begin_full : (O : Tree) (b : ℕ) (h : History cgroups) (s : ℕ) → transaction_in s (opens h) ≡ None → is_full b h ≡ true → reply cgroups O b h s Begin ≡ Refused Full
begin_full O b h s none full = ap (λ o. reply_at cgroups O b h o Begin) none ∙ ap (λ f. cond f (Refused Full) (Begun (begins h + 1))) full

-- ---- the new transaction has nothing on its stack

abbrev first_stack : List (Transaction cgroups) → List (StackEntry cgroups)
first_stack [] = []
first_stack (x ∷ xs) = x.stack

no_items : (O : Tree) (l : Items cgroups) → [] ≡ map (entry_of O) l → l ≡ []
no_items O [] e = refl
no_items O (x ∷ l) e = absurd (true≢false (ap is_empty e))
  where
    is_empty : List (StackEntry cgroups) → Bool
    is_empty [] = true
    is_empty (y ∷ ys) = false

is_begun : Answer → Bool
is_begun (Begun t) = true
is_begun _ = false

module _ (O : Tree) (b : ℕ) (h : History cgroups) (n : ℕ) (R : TreeWithRoom) (H : Holdings) (xs : List (ℕ × Stack)) (core : IsCoreOf O b h n R H xs) (s : ℕ)
    (absent : found s xs ≡ None) (room : is_full b h ≡ false) where
  abbrev number : ℕ
  number = begins h + 1

  abbrev next : History cgroups
  next = with_record h s Begin (Begun number)

  none : transaction_in s (opens h) ≡ None
  none = session_none O (λ t. live t h) (opens h) xs core.transactions s absent

  is : reply cgroups O b h s Begin ≡ Begun number
  is = begin_reply O b h s none room

  next_is : history_after O b h s Begin ≡ next
  next_is = recorded steps_law O b h core.sound core.reached s Begin tt (Begun number) is refl

  abbrev begun_machine : Bool → Machine cgroups × Answer
  begun_machine f = cond f (machine_of O b h, Refused Full) (record (machine_of O b h) { transactions = record { session = s; number = number; stack = [] } ∷ map (transaction_of O h) (opens h); begun = number }, Begun number)

  -- a record of a begin changes no stack
  same : (u : ℕ) → live u next ≡ live u h
  same u = at (named_in (transaction_in s (opens h)) (Begun number) == u)
    where
      at : (c : Bool) → cond c (live u h) (live u h) ≡ live u h
      at true = refl
      at false = refl

  not_full : is_full_machine (machine_of O b h) ≡ false
  not_full = full_is O b h ∙ room

  empty : live number h ≡ []
  empty =
      sym (same number)
      ∙ no_items O (live number next)
      (sym (ap first_stack (ap (λ k. map (transaction_of O k) (opens k)) (sym next_is) ∙ transactions_out steps_law O b h core.sound core.reached s Begin tt none
      ∙ ap (λ f. (begun_machine f).0.transactions) not_full)))

  tree_same : tree_of cgroups O next ≡ tree_of cgroups O h
  tree_same =
      ap (tree_of cgroups O) (sym next_is) ∙ tree_out steps_law O b h core.sound core.reached s Begin tt none
      ∙ ap (λ f. (begun_machine f).0.tree) not_full

  -- the record names the transaction
  pub begun_record : next ≡ record { session = s; transaction = number; request = Begin; answer = Begun number } ∷ h
  begun_record = λ i. record { session = s; transaction = named_in (none i) (Begun number); request = Begin; answer = Begun number } ∷ h

  pub begun_core : (x : Stack) → x.number ≡ number → x.items ≡ [] → IsCoreOf O b next (n + 1) R H ((s, x) ∷ xs)
  begun_core x numbered nothing = record {
    low = core.low;
    high = core.high;
    sound = core.sound;
    reached = reached_on steps_law O b h core.sound core.reached s Begin tt (Begun number) is refl;
    holds = subst (λ T. Holds O (numbers (opens next)) (λ t. live t next) T R H) (sym tree_same) (same_stacks (λ t. live t next) (λ t. live t h) same (begun number empty core.holds));
    transactions = λ i. (s, (numbered i, (nothing ∙ sym (ap (map (stack_item O)) (same number ∙ empty))) i)) ∷ (core.transactions ∙ ap (λ (st : ℕ → Items cgroups). map (of_history O st) (opens h)) (λ j. λ u. sym (same u) j)) i;
    once = (absent, core.once);
    reserved =
        let before : n ≡ reserved_for h = core.reserved in
        let top : length (live number next) ≡ 0 = ap length (same number ∙ empty) in
        let rest : live_count (opens h) next ≡ live_count (opens h) h = count_is next (opens h) ∙ count_same (λ t. live t h) (λ t. live t next) same (opens h) ∙ sym (count_is h (opens h)) in
        omega (arith, before, top, rest);
  }
