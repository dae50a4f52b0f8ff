-- The open transaction with a number, and its command in the way, are those of the history.
use Rattle.std.proofs.Common.{◌≡◌, ℕ, ◌+◌, ◌≤◌, ◌==◌, ◌||◌, ◌&&◌, Bool, true, false, cond, zero, suc, List, [], ◌∷◌, drop, get_or, length, map, slice_get, Option, Some, None, is_some, option_map, refl, sym, ap, ◌∙◌, arith, true≢false}
use Rattle.std.proofs.lemmas.Bool.{eqb-true, eq-eqb}
use Rattle.std.proofs.lemmas.List.{drop_all}
use Rattle.std.proofs.lemmas.Option.{same_Some}
use Rattle.std.specs.List.{find, list_any}
use Rattle.std.specs.Option.{option_or}
use Rattle.cg_model.specs.Cgroups.{cgroups}
use Rattle.cg_model.specs.Footprint.{Mark, clashes, footprint}
use Rattle.cg_model.specs.Live.{Ran, AtSavepoint, Items, live}
use Rattle.cg_model.specs.Opens.{Opens, among, numbers, opens}
use Rattle.cg_model.specs.Reply.{clashes_with}
use Rattle.cg_model.specs.Run.{tree_of}
use Rattle.cg_model.specs.Tree.{Tree}
use Rattle.cg_locks.specs.Clashing.{clashes_any, first_clashing}
use Rattle.cg_txn.specs.Clashing as stack
use Rattle.cg_txn.specs.Stack.{Stack, StackItem}
use Rattle.cg_core.specs.InTheWay.{in_the_way, oldest_clashing, with_number}
use Rattle.cg_core.specs.Parts.{of_code, of_history, stack_item}
use Rattle.cg_core.specs.State.{CoreState}
use Rattle.cg_core.proofs.Open.{eqb-swapped}

or_none : {A : Type 0} (o : Option A) → option_or o None ≡ o
or_none None = refl
or_none (Some x) = refl

-- ---- the stack of the code is that of the history

pub same_oldest : (O : Tree) (g : List Mark) (l : Items cgroups) → stack.oldest_clashing g (map (stack_item O) l) ≡ oldest_clashing O g l
same_oldest O g [] = refl
same_oldest O g (Ran t h c a ∷ l) = ap (λ o. option_or o (option_map (λ m. (length h, m)) (first_clashing (footprint c (tree_of cgroups O h)) g))) (same_oldest O g l)
same_oldest O g (AtSavepoint t h n ∷ l) = same_oldest O g l ∙ sym (or_none (oldest_clashing O g l))

-- ---- a command is found where one is in the way

some_or : {A : Type 0} (a b : Option A) → is_some (option_or a b) ≡ (is_some a || is_some b)
some_or None b = refl
some_or (Some x) b = refl

some_map : {A B : Type 0} (f : A → B) (o : Option A) → is_some (option_map f o) ≡ is_some o
some_map f None = refl
some_map f (Some x) = refl

some_step : {A : Type 0} (b : Bool) (x : A) (o : Option A) (c : Bool) → is_some o ≡ c → is_some (cond b (Some x) o) ≡ (b || c)
some_step true x o c e = refl
some_step false x o c e = e

some_found : {A : Type 0} (test : A → Bool) (xs : List A) → is_some (find test xs) ≡ list_any test xs
some_found test [] = refl
some_found test (x ∷ xs) = some_step (test x) x (find test xs) (list_any test xs) (some_found test xs)

or_swapped : (a b : Bool) → (a || b) ≡ (b || a)
or_swapped true true = refl
or_swapped true false = refl
or_swapped false true = refl
or_swapped false false = refl

pub some_oldest : (O : Tree) (g : List Mark) (l : Items cgroups) → is_some (oldest_clashing O g l) ≡ clashes_with cgroups O g l
some_oldest O g [] = refl
some_oldest O g (Ran t h c a ∷ l) =
    let f : List Mark = footprint c (tree_of cgroups O h) in
    let placed : Mark → ℕ × Mark = λ m. (length h, m) in
    some_or (oldest_clashing O g l) (option_map placed (first_clashing f g))
    ∙ (λ i. some_oldest O g l i || (some_map placed (first_clashing f g) ∙ some_found (clashes_any g) f) i)
    ∙ or_swapped (clashes_with cgroups O g l) (clashes f g)
some_oldest O g (AtSavepoint t h n ∷ l) = ap is_some (or_none (oldest_clashing O g l)) ∙ some_oldest O g l

-- ---- the transaction with a number

module _ (O : Tree) (st : ℕ → Items cgroups) (n : ℕ) where
  abbrev listed : List StackItem
  listed = map (stack_item O) (st n)

  -- its items
  by_number : (xs : List (ℕ × Stack)) (ps : Opens) → map of_code xs ≡ map (of_history O st) ps → option_map (λ (y : Stack). y.items) (with_number n xs) ≡ cond (among n (numbers ps)) (Some listed) None
  by_number [] [] same = refl
  by_number [] (p ∷ ps) same = let l : zero ≡ suc (length (map (of_history O st) ps)) = ap length same in absurd (omega (arith, l))
  by_number (x ∷ xs) [] same = let l : suc (length (map of_code xs)) ≡ zero = ap length same in absurd (omega (arith, l))
  by_number (x ∷ xs) (p ∷ ps) same =
      let head : of_code x ≡ of_history O st p = ap (λ l. get_or l 0 (of_code x)) same in
      let number : x.1.number ≡ p.1 = ap (λ z. z.1.0) head in
      let items : x.1.items ≡ map (stack_item O) (st p.1) = ap (λ z. z.1.1) head in
      let others : option_map (λ (y : Stack). y.items) (with_number n xs) ≡ cond (among n (numbers ps)) (Some listed) None = by_number xs ps (ap (drop 1) same) in
      elim (x.1.number == n) as (λ b. (x.1.number == n) ≡ b → option_map (λ (y : Stack). y.items) (cond b (Some x.1) (with_number n xs)) ≡ cond ((n == p.1) || among n (numbers ps)) (Some listed) None) [
        | true ↦ λ e.
            let is : p.1 ≡ n = sym number ∙ eqb-true x.1.number n e in
            ap Some (items ∙ ap (λ m. map (stack_item O) (st m)) is) ∙ sym (ap (λ b. cond (b || among n (numbers ps)) (Some listed) None) (eq-eqb n p.1 (sym is)))
        | false ↦ λ e.
            let other : (n == p.1) ≡ false = eqb-swapped n p.1 ∙ ap (λ m. m == n) (sym number) ∙ e in
            others ∙ sym (ap (λ b. cond (b || among n (numbers ps)) (Some listed) None) other)
      ] refl

  module _ (g : List Mark) (xs : List (ℕ × Stack)) (ps : Opens) (same : map of_code xs ≡ map (of_history O st) ps) where
    some_way : (b : Bool) (l : List StackItem) → Some l ≡ cond b (Some listed) None → stack.oldest_clashing g l ≡ cond b (oldest_clashing O g (st n)) None
    some_way true l e = ap (stack.oldest_clashing g) (same_Some l listed e) ∙ same_oldest O g (st n)
    some_way false l e = absurd (true≢false (ap is_some e))

    no_way : (b : Bool) → None ≡ cond b (Some listed) None → None ≡ cond b (oldest_clashing O g (st n)) None
    no_way true e = absurd (true≢false (sym (ap is_some e)))
    no_way false e = refl

    -- its command in the way
    pub way_found : (x : Stack) → Some x ≡ with_number n xs → stack.oldest_clashing g x.items ≡ cond (among n (numbers ps)) (oldest_clashing O g (st n)) None
    way_found x e = some_way (among n (numbers ps)) x.items (ap (option_map (λ (y : Stack). y.items)) e ∙ by_number xs ps same)

    -- none, where there is no such transaction
    pub way_none : None ≡ with_number n xs → None ≡ cond (among n (numbers ps)) (oldest_clashing O g (st n)) None
    way_none e = no_way (among n (numbers ps)) (ap (option_map (λ (y : Stack). y.items)) e ∙ by_number xs ps same)

-- there is one exactly where the transaction is open and a command of it is in the way
some_where : {A : Type 0} (b : Bool) (o : Option A) → is_some (cond b o None) ≡ (b && is_some o)
some_where true o = refl
some_where false o = refl

pub some_in_the_way : {A : Type 0} (f : A → ℕ × Mark) (r : Option A) (c : CoreState) (n : ℕ) (g : List Mark) → option_map f r ≡ in_the_way c n g → is_some r ≡ (among n (numbers (opens c.history)) && clashes_with cgroups c.opening g (live n c.history))
some_in_the_way f r c n g e =
    sym (some_map f r)
    ∙ ap is_some e
    ∙ some_where (among n (numbers (opens c.history))) (oldest_clashing c.opening g (live n c.history))
    ∙ ap (λ b. among n (numbers (opens c.history)) && b) (some_oldest c.opening g (live n c.history))

-- ---- the walk over the open transactions

module _ {A : Type 0} (test : A → Bool) where
  dropped_there : (xs : List A) (i : ℕ) (x : A) → slice_get xs i ≡ Some x → drop i xs ≡ x ∷ drop (suc i) xs
  dropped_there [] i x e = absurd (true≢false (sym (ap is_some e)))
  dropped_there (y ∷ xs) zero x e = ap (λ z. z ∷ xs) (same_Some y x e)
  dropped_there (y ∷ xs) (suc i) x e = dropped_there xs i x e

  -- at the next one
  pub next_there : (xs : List A) (i : ℕ) (x : A) → Some x ≡ slice_get xs i → find test (drop i xs) ≡ cond (test x) (Some x) (find test (drop (i + 1) xs))
  next_there xs i x e =
      let next : suc i ≡ i + 1 = omega arith in
      ap (find test) (dropped_there xs i x (sym e)) ∙ ap (λ k. cond (test x) (Some x) (find test (drop k xs))) next

  -- at the end
  pub ended_there : (xs : List A) (i : ℕ) → length xs ≤ i → find test (drop i xs) ≡ None
  ended_there xs i h = ap (find test) (drop_all i xs h)
