-- The open transactions of the code are those of the history.
use Rattle.std.proofs.Common.{Bor, ◌≡◌, ℕ, ◌==◌, ◌||◌, Bool, true, false, cond, List, [], ◌∷◌, length, map, Option, Some, None, is_some, option_map, refl, sym, ap, subst, ◌∙◌, true≢false}
use Rattle.std.proofs.lemmas.Bool.{eqb-true, eq-eqb, or_parts}
use Rattle.std.proofs.lemmas.List.{length-map}
use Rattle.std.proofs.lemmas.Option.{same_Some}
use Rattle.std.specs.List.{AllByRecursion}
use Rattle.std.specs.Option.{option_copied}
use Rattle.cg_model.specs.Cgroups.{cgroups}
use Rattle.cg_model.specs.Live.{Items}
use Rattle.cg_model.specs.Opens.{Opens, numbers, among, without, transaction_in}
use Rattle.cg_model.specs.Tree.{Tree}
use Rattle.cg_core_laws.specs.Serial.{OnceEach}
use Rattle.cg_core_laws.specs.Unwind.{with_items}
use Rattle.cg_history.specs.SessionMap as sessions
use Rattle.cg_history.specs.SessionMap.{found, with_value, IsOnceEach}
use Rattle.cg_txn.specs.Stack.{Stack, StackItem}
use Rattle.cg_core.specs.Parts.{of_code, of_history, stack_item}

-- ---- maps keep what is found

module _ {V W : Type 0} (f : V → W) where
  abbrev in_pair : ℕ × V → ℕ × W
  in_pair x = (x.0, f x.1)

  found_step : (b : Bool) (v : V) (o : Option V) (r : Option W) → r ≡ option_map f o → cond b (Some (f v)) r ≡ option_map f (cond b (Some v) o)
  found_step true v o r e = refl
  found_step false v o r e = e

  pub found-map : (s : ℕ) (xs : List (ℕ × V)) → found s (map in_pair xs) ≡ option_map f (found s xs)
  found-map s [] = refl
  found-map s (x ∷ xs) = found_step (x.0 == s) x.1 (found s xs) _ (found-map s xs)

  none_step : (o : Option V) → o ≡ None → option_map f o ≡ None
  none_step None e = refl
  none_step (Some v) e = absurd (true≢false (ap is_some e))

  pub once-map : (xs : List (ℕ × V)) → IsOnceEach xs → IsOnceEach (map in_pair xs)
  once-map [] h = tt
  once-map (x ∷ xs) h = (found-map x.0 xs ∙ none_step (found x.0 xs) h.0, once-map xs h.1)

  written_step : (b : Bool) (w v : V) → cond b (f w) (f v) ≡ f (cond b w v)
  written_step true w v = refl
  written_step false w v = refl

  pub with_value-map : (s : ℕ) (w : V) (xs : List (ℕ × V)) → map in_pair (with_value s w xs) ≡ with_value s (f w) (map in_pair xs)
  with_value-map s w [] = refl
  with_value-map s w (x ∷ xs) = λ i. (x.0, sym (written_step (x.0 == s) w x.1) i) ∷ with_value-map s w xs i

  without_step : (b : Bool) (x : ℕ × V) (l : List (ℕ × V)) (r : List (ℕ × W)) → map in_pair l ≡ r → map in_pair (cond b l (x ∷ l)) ≡ cond b r (in_pair x ∷ r)
  without_step true x l r e = e
  without_step false x l r e = ap (λ k. in_pair x ∷ k) e

  pub without-map : (s : ℕ) (xs : List (ℕ × V)) → map in_pair (sessions.without s xs) ≡ sessions.without s (map in_pair xs)
  without-map s [] = refl
  without-map s (x ∷ xs) = without_step (x.0 == s) x (sessions.without s xs) _ (without-map s xs)

  pub oldest-map : (xs : List (ℕ × V)) → sessions.oldest (map in_pair xs) ≡ sessions.oldest xs
  oldest-map [] = refl
  oldest-map (x ∷ []) = refl
  oldest-map (x ∷ y ∷ xs) = oldest-map (y ∷ xs)

-- a borrowed value is there where the value is
pub copied_too : {A : Type 0} (r : Option (Bor A)) → is_some (option_copied r) ≡ is_some r
copied_too None = refl
copied_too (Some x) = refl

-- whether there is one, as the code asks a copy
pub found_told : {A : Type 0} (r : Option (Bor A)) {o : Option A} {said there : Bool} → option_copied r ≡ o → said ≡ is_some r → said ≡ there → is_some o ≡ there
found_told r copied told e = sym (ap is_some copied) ∙ copied_too r ∙ sym told ∙ e

pub nothing_there : {A : Type 0} (o : Option A) → is_some o ≡ false → o ≡ None
nothing_there None e = refl
nothing_there (Some x) e = absurd (true≢false e)

-- ---- a session and its number

-- in these open transactions the session is s exactly where the number is t
abbrev pub ArePaired : ℕ → ℕ → Opens → Type 0
ArePaired s t ps = AllByRecursion (λ p. (p.0 == s) ≡ (p.1 == t)) ps

pub eqb-swapped : (a b : ℕ) → (a == b) ≡ (b == a)
eqb-swapped a b =
    elim (a == b) as (λ x. (a == b) ≡ x → x ≡ (b == a)) [
      | true ↦ λ e. sym (eq-eqb b a (sym (eqb-true a b e)))
      | false ↦ λ e. elim (b == a) as (λ y. (b == a) ≡ y → false ≡ y) [ true ↦ λ k. absurd (true≢false (sym (eq-eqb a b (sym (eqb-true b a k))) ∙ e)) | false ↦ λ k. refl ] refl
    ] refl

-- where neither is there, they are paired
none_paired : (s t : ℕ) (ps : Opens) → found s ps ≡ None → among t (numbers ps) ≡ false → ArePaired s t ps
none_paired s t [] f a = tt
none_paired s t (p ∷ ps) f a =
    let other : ((p.0 == s) ≡ false) × (found s ps ≡ None) = absent (p.0 == s) p.1 (found s ps) f in
    let parts : ((t == p.1) ≡ false) × (among t (numbers ps) ≡ false) = or_parts (t == p.1) (among t (numbers ps)) a in
    (other.0 ∙ sym (eqb-swapped p.1 t ∙ parts.0), none_paired s t ps other.1 parts.1)
  where
    absent : (b : Bool) (n : ℕ) (o : Option ℕ) → cond b (Some n) o ≡ None → (b ≡ false) × (o ≡ None)
    absent true n o e = absurd (true≢false (ap is_some e))
    absent false n o e = (refl, e)

-- a transaction that a session has open is among the open ones
pub among_open : (s t : ℕ) (ps : Opens) → transaction_in s ps ≡ Some t → among t (numbers ps) ≡ true
among_open s t [] e = absurd (true≢false (sym (ap is_some e)))
among_open s t (p ∷ ps) e =
    elim (p.0 == s) as (λ b. (p.0 == s) ≡ b → among t (numbers (p ∷ ps)) ≡ true) [
      | true ↦ λ k.
          let is : p.1 ≡ t = same_Some p.1 t (sym (ap (λ b. cond b (Some p.1) (transaction_in s ps)) k) ∙ e) in
          ap (λ b. b || among t (numbers ps)) (eq-eqb t p.1 (sym is))
      | false ↦ λ k. or_right (t == p.1) (among t (numbers ps)) (among_open s t ps (sym (ap (λ b. cond b (Some p.1) (transaction_in s ps)) k) ∙ e))
    ] refl
  where
    or_right : (a b : Bool) → b ≡ true → (a || b) ≡ true
    or_right true b e = refl
    or_right false b e = e

-- each session and each number once: so a session and its number are paired
pub paired : (s t : ℕ) (ps : Opens) → IsOnceEach ps → OnceEach (numbers ps) → transaction_in s ps ≡ Some t → ArePaired s t ps
paired s t [] once numbered e = tt
paired s t (p ∷ ps) once numbered e =
    elim (p.0 == s) as (λ b. (p.0 == s) ≡ b → ArePaired s t (p ∷ ps)) [
      | true ↦ λ k.
          let is : p.1 ≡ t = same_Some p.1 t (sym (ap (λ b. cond b (Some p.1) (transaction_in s ps)) k) ∙ e) in
          (k ∙ sym (eq-eqb p.1 t is), none_paired s t ps (ap (λ n. found n ps) (sym (eqb-true p.0 s k)) ∙ once.0) (ap (λ n. among n (numbers ps)) (sym is) ∙ numbered.0))
      | false ↦ λ k.
          let rest : transaction_in s ps ≡ Some t = sym (ap (λ b. cond b (Some p.1) (transaction_in s ps)) k) ∙ e in
          (k ∙ sym (other p.1 (among_open s t ps rest) numbered.0), paired s t ps once.1 numbered.1 rest)
    ] refl
  where
    other : (n : ℕ) → among t (numbers ps) ≡ true → among n (numbers ps) ≡ false → (n == t) ≡ false
    other n here gone = elim (n == t) as (λ b. (n == t) ≡ b → b ≡ false) [ true ↦ λ k. absurd (true≢false (sym here ∙ sym (ap (λ v. among v (numbers ps)) (eqb-true n t k)) ∙ gone)) | false ↦ λ k. refl ] refl

found_transaction : (s : ℕ) (ps : Opens) → found s ps ≡ transaction_in s ps
found_transaction s [] = refl
found_transaction s (p ∷ ps) = ap (cond (p.0 == s) (Some p.1)) (found_transaction s ps)

-- ---- the transactions of the code are those of the history

abbrev view : Stack → ℕ × List StackItem
view v = (v.number, v.items)

abbrev listed : Tree → (ℕ → Items cgroups) → ℕ → ℕ × List StackItem
listed O st t = (t, map (stack_item O) (st t))

module _ (O : Tree) (st : ℕ → Items cgroups) (ps : Opens) (xs : List (ℕ × Stack)) (same : map of_code xs ≡ map (of_history O st) ps) where
  same_found : (s : ℕ) → option_map view (found s xs) ≡ option_map (listed O st) (transaction_in s ps)
  same_found s = sym (found-map view s xs) ∙ ap (found s) same ∙ found-map (listed O st) s ps ∙ ap (option_map (listed O st)) (found_transaction s ps)

  -- a session without one
  pub session_none : (s : ℕ) → found s xs ≡ None → transaction_in s ps ≡ None
  session_none s e =
      elim (transaction_in s ps) as (λ o. option_map view (found s xs) ≡ option_map (listed O st) o → o ≡ None) [
        | None ↦ λ k. refl
        | Some t ↦ λ k. absurd (true≢false (sym (ap is_some (sym (ap (option_map view) e) ∙ k))))
      ] (same_found s)

  first_of : ℕ × List StackItem → Option (ℕ × List StackItem) → ℕ × List StackItem
  first_of d None = d
  first_of d (Some k) = k

  -- a session with one: its number, and its stack
  pub session_some : (s : ℕ) (x : Stack) → found s xs ≡ Some x → (transaction_in s ps ≡ Some x.number) × (x.items ≡ map (stack_item O) (st x.number))
  unfolding first_of
  session_some s x e =
      elim (transaction_in s ps) as (λ o. option_map view (found s xs) ≡ option_map (listed O st) o → (o ≡ Some x.number) × (x.items ≡ map (stack_item O) (st x.number))) [
        | None ↦ λ k. absurd (true≢false (ap is_some (sym (ap (option_map view) e) ∙ k)))
        | Some t ↦ λ k.
            let alike : view x ≡ listed O st t = ap (first_of (view x)) (sym (ap (option_map view) e) ∙ k) in
            let number : x.number ≡ t = ap (λ p. p.0) alike in
            (ap Some (sym number), ap (λ p. p.1) alike ∙ ap (λ n. map (stack_item O) (st n)) (sym number))
      ] (same_found s)

  -- the session that began first
  pub oldest_there : sessions.oldest xs ≡ sessions.oldest ps
  oldest_there = sym (oldest-map view xs) ∙ ap sessions.oldest same ∙ oldest-map (listed O st) ps

  pub session_there : (s : ℕ) → is_some (found s xs) ≡ true → is_some (transaction_in s ps) ≡ true
  session_there s e =
      elim (found s xs) as (λ o. found s xs ≡ o → is_some o ≡ true → is_some (transaction_in s ps) ≡ true) [
        | None ↦ λ k r. absurd (true≢false (sym r))
        | Some x ↦ λ k r. ap is_some (session_some s x k).0
      ] refl e

  pub session_absent : (s : ℕ) → is_some (found s xs) ≡ false → transaction_in s ps ≡ None
  session_absent s e =
      elim (found s xs) as (λ o. found s xs ≡ o → is_some o ≡ false → transaction_in s ps ≡ None) [
        | None ↦ λ k r. session_none s k
        | Some x ↦ λ k r. absurd (true≢false r)
      ] refl e

  once_unmapped : (f : ℕ → ℕ × List StackItem) (qs : Opens) → IsOnceEach (map (in_pair f) qs) → IsOnceEach qs
  once_unmapped f [] h = tt
  once_unmapped f (q ∷ qs) h = (none (found q.0 qs) (sym (found-map f q.0 qs) ∙ h.0), once_unmapped f qs h.1)
    where
      none : (o : Option ℕ) → option_map f o ≡ None → o ≡ None
      none None e = refl
      none (Some v) e = absurd (true≢false (ap is_some e))

  pub sessions_once : IsOnceEach xs → IsOnceEach ps
  sessions_once once = once_unmapped (listed O st) ps (subst IsOnceEach same (once-map view xs once))

  abbrev pair_of : ℕ → Items cgroups → ℕ × List StackItem
  pair_of n k = (n, map (stack_item O) k)

  -- the stack of a session is another one
  rewritten : (s t : ℕ) (l : Items cgroups) (qs : Opens) → ArePaired s t qs → with_value s (t, map (stack_item O) l) (map (of_history O st) qs) ≡ map (of_history O (with_items t l st)) qs
  rewritten s t l [] pairs = refl
  rewritten s t l (q ∷ qs) pairs = λ i. (q.0, at (q.0 == s) (q.1 == t) refl pairs.0 i) ∷ rewritten s t l qs pairs.1 i
    where
      at : (a b : Bool) → (q.1 == t) ≡ b → a ≡ b → cond a (pair_of t l) (pair_of q.1 (st q.1)) ≡ pair_of q.1 (cond b l (st q.1))
      at true true is e = ap (λ n. pair_of n l) (sym (eqb-true q.1 t is))
      at false false is e = refl
      at true false is e = absurd (true≢false e)
      at false true is e = absurd (true≢false (sym e))

  pub stack_written : (s t : ℕ) (x : Stack) (l : Items cgroups) → ArePaired s t ps → x.number ≡ t → x.items ≡ map (stack_item O) l → map of_code (with_value s x xs) ≡ map (of_history O (with_items t l st)) ps
  stack_written s t x l pairs number items =
      with_value-map view s x xs ∙ ap (with_value s (view x)) same ∙ (λ i. with_value s (number i, items i) (map (of_history O st) ps)) ∙ rewritten s t l ps pairs

  -- a transaction is closed
  dropped_too : (s t : ℕ) (qs : Opens) → ArePaired s t qs → sessions.without s (map (of_history O st) qs) ≡ map (of_history O st) (without t qs)
  dropped_too s t [] pairs = refl
  dropped_too s t (q ∷ qs) pairs = at (q.0 == s) (q.1 == t) pairs.0 (dropped_too s t qs pairs.1)
    where
      at : (a b : Bool) → a ≡ b → sessions.without s (map (of_history O st) qs) ≡ map (of_history O st) (without t qs)
          → cond a (sessions.without s (map (of_history O st) qs)) (of_history O st q ∷ sessions.without s (map (of_history O st) qs)) ≡ map (of_history O st) (cond b (without t qs) (q ∷ without t qs))
      at true true e rest = rest
      at false false e rest = ap (λ l. of_history O st q ∷ l) rest
      at true false e rest = absurd (true≢false e)
      at false true e rest = absurd (true≢false (sym e))

  pub closed : (s t : ℕ) → ArePaired s t ps → map of_code (sessions.without s xs) ≡ map (of_history O st) (without t ps)
  closed s t pairs = without-map view s xs ∙ ap (sessions.without s) same ∙ dropped_too s t ps pairs

  -- as many are open
  pub as_many : length xs ≡ length ps
  as_many = sym (length-map xs of_code) ∙ ap length same ∙ length-map ps (of_history O st)
