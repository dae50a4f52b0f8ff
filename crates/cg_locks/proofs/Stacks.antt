-- The least transaction in the way, by the table and by the stacks.
use Rattle.std.proofs.Common.{◌≡◌, ◌≢◌, ℕ, zero, suc, ◌+◌, ◌<◌, ◌≤◌, ◌==◌, ◌||◌, Bool, true, false, cond, ◌⊎◌, inl, inr, List, [], ◌∷◌, Option, Some, None, refl, sym, subst, ap, ◌∙◌, arith}
use Rattle.std.proofs.lemmas.Bool.{false≢true, eqb-true, eq-eqb}
use Rattle.std.proofs.lemmas.List.Sums.{sum_by-cons}
use Rattle.std.proofs.lemmas.Option.{none-some, same_Some}
use Rattle.std.specs.List.{AllByRecursion, list_any}
use Rattle.cg_model.specs.Cgroups.{cgroups}
use Rattle.cg_model.specs.Footprint.{Mark, clash}
use Rattle.cg_model.specs.Machine.{StackEntry, Did, Savepoint, Transaction, dropped, hits, stack_holder}
use Rattle.cg_model.specs.Reply.{found_or}
use Rattle.cg_locks.specs.Holdings.{Holdings, IsInTheWay}
use Rattle.cg_locks.specs.Marks.{same_mark, times}
use Rattle.cg_locks.specs.Stacks.{times_in_stack, times_in_stacks, HoldsStacks, NewestFirst}
use Rattle.cg_locks.proofs.Marks.{same_mark-itself, same_mark-is}

-- ---- one footprint

times-cons : (m n : Mark) (g : List Mark) → times m (n ∷ g) ≡ cond (same_mark m n) 1 0 + times m g
times-cons m n g = sum_by-cons (λ x. cond (same_mark m x) 1 0) n g

either : (a b : Bool) → a || b ≡ true → (a ≡ true) ⊎ (b ≡ true)
either true b e = inl refl
either false b e = inr e

or_right : (a b : Bool) → b ≡ true → a || b ≡ true
or_right true b e = refl
or_right false b e = e

or_left : (a b : Bool) → a ≡ true → a || b ≡ true
or_left true b e = refl
or_left false b e = absurd (false≢true e)

-- a test passes at a mark that stands there, where it passes at one
module _ (p : Mark → Bool) where
  standing : (g : List Mark) → list_any p g ≡ true → (m : Mark) × (0 < times m g) × (p m ≡ true)
  standing [] e = absurd (false≢true e)
  standing (n ∷ g) e = elim (either (p n) (list_any p g) e) [
    | inl y ↦ (let one : times n (n ∷ g) ≡ 1 + times n g = times-cons n n g ∙ ap (λ b. cond b 1 0 + times n g) (same_mark-itself n) in (n, omega (arith, one), y))
    | inr y ↦ (let w = standing g y in
        let low : 0 < times w.0 g = w.1 in
        let more : times w.0 (n ∷ g) ≡ cond (same_mark w.0 n) 1 0 + times w.0 g = times-cons w.0 n g in
        (w.0, omega (arith, low, more), w.2))
  ]

  passing : (g : List Mark) (m : Mark) → 0 < times m g → p m ≡ true → list_any p g ≡ true
  passing [] m low y = absurd (omega (arith, low))
  passing (n ∷ g) m low y = elim (same_mark m n) as (λ b. same_mark m n ≡ b → p n || list_any p g ≡ true) [
    | true ↦ λ e. or_left (p n) (list_any p g) (subst (λ x. p x ≡ true) (same_mark-is m n e) y)
    | false ↦ λ e.
        let none : times m (n ∷ g) ≡ 0 + times m g = times-cons m n g ∙ ap (λ b. cond b 1 0 + times m g) e in
        or_right (p n) (list_any p g) (passing g m (omega (arith, none, low)) y)
  ] refl

-- ---- one stack

one_of_two : (a b : ℕ) → 0 < a + b → (0 < a) ⊎ (0 < b)
one_of_two zero b low = inr (omega (arith, low))
one_of_two (suc a) b low = inl (omega arith)

module _ (f : List Mark) where
  -- what is on the stack hits where a mark that stands there clashes
  hit_by : (l : List (StackEntry cgroups)) → hits cgroups f l ≡ true → (m : Mark) × (0 < times_in_stack m l) × (list_any (clash m) f ≡ true)
  hit_by [] e = absurd (false≢true e)
  hit_by (Did t h c a d g ∷ l) e = elim (either (list_any (λ m. list_any (clash m) f) g) (hits cgroups f l) e) [
    | inl y ↦ (let w = standing (λ m. list_any (clash m) f) g y in let low : 0 < times w.0 g = w.1 in (w.0, omega (arith, low), w.2))
    | inr y ↦ (let w = hit_by l y in let low : 0 < times_in_stack w.0 l = w.1 in (w.0, omega (arith, low), w.2))
  ]
  hit_by (Savepoint t h n ∷ l) e = hit_by l e

  hits_with : (l : List (StackEntry cgroups)) (m : Mark) → 0 < times_in_stack m l → list_any (clash m) f ≡ true → hits cgroups f l ≡ true
  hits_with [] m low y = absurd (omega (arith, low))
  hits_with (Did t h c a d g ∷ l) m low y = elim (one_of_two (times m g) (times_in_stack m l) low) [
    | inl z ↦ or_left (list_any (λ n. list_any (clash n) f) g) (hits cgroups f l) (passing (λ n. list_any (clash n) f) g m z y)
    | inr z ↦ or_right (list_any (λ n. list_any (clash n) f) g) (hits cgroups f l) (hits_with l m z y)
  ]
  hits_with (Savepoint t h n ∷ l) m low y = hits_with l m low y

  -- ---- all stacks

  -- v's stack, where it is that of x
  own : (v : ℕ) (m : Mark) (x : Transaction cgroups) → 0 < cond (v == x.number) (times_in_stack m x.stack) 0 → (v ≡ x.number) × (0 < times_in_stack m x.stack)
  own v m x low = elim (v == x.number) as (λ b. (v == x.number) ≡ b → 0 < cond b (times_in_stack m x.stack) 0 → (v ≡ x.number) × (0 < times_in_stack m x.stack)) [
    | true ↦ λ e z. (eqb-true v x.number e, z)
    | false ↦ λ e z. absurd (omega (arith, z))
  ] refl low

  abbrev HoldsThere : List (Transaction cgroups) → ℕ → Type 0
  HoldsThere xs u = (m : Mark) × (0 < times_in_stacks u m xs) × (list_any (clash m) f ≡ true)

  below_all : (n u : ℕ) (m : Mark) (xs : List (Transaction cgroups)) → AllByRecursion (λ y. y.number < n) xs → 0 < times_in_stacks u m xs → u < n
  below_all n u m [] all low = absurd (omega (arith, low))
  below_all n u m (x ∷ xs) all low = elim (one_of_two (cond (u == x.number) (times_in_stack m x.stack) 0) (times_in_stacks u m xs) low) [
    | inl z ↦ (let e : u ≡ x.number = (own u m x z).0 in let b : x.number < n = all.0 in omega (arith, e, b))
    | inr z ↦ below_all n u m xs all.1 z
  ]

  holder_holds : (xs : List (Transaction cgroups)) (u : ℕ) → stack_holder cgroups f xs ≡ Some u → HoldsThere xs u
  holder_holds [] u e = absurd (none-some u e)
  holder_holds (x ∷ xs) u e =
      elim (stack_holder cgroups f xs) as (λ r. stack_holder cgroups f xs ≡ r → found_or r (hits cgroups f x.stack) x.number ≡ Some u → HoldsThere (x ∷ xs) u) [
        | Some w ↦ λ is y.
            let rest = holder_holds xs u (is ∙ y) in
            let low : 0 < times_in_stacks u rest.0 xs = rest.1 in
            (rest.0, omega (arith, low), rest.2)
        | None ↦ λ is y. (elim (hits cgroups f x.stack) as (λ b. hits cgroups f x.stack ≡ b → found_or None b x.number ≡ Some u → HoldsThere (x ∷ xs) u) [
          | true ↦ λ hit z.
              let w = hit_by x.stack hit in
              let low : 0 < times_in_stack w.0 x.stack = w.1 in
              let same : (u == x.number) ≡ true = eq-eqb u x.number (sym (same_Some x.number u z)) in
              let one : times_in_stacks u w.0 (x ∷ xs) ≡ times_in_stack w.0 x.stack + times_in_stacks u w.0 xs = ap (λ b. cond b (times_in_stack w.0 x.stack) 0 + times_in_stacks u w.0 xs) same in
              (w.0, omega (arith, low, one), w.2)
          | false ↦ λ hit z. absurd (none-some u z)
        ] refl y)
      ] refl e

  no_holder : (xs : List (Transaction cgroups)) → stack_holder cgroups f xs ≡ None → (v : ℕ) → HoldsThere xs v → ⊥
  no_holder [] e v w = let low : 0 < 0 = w.1 in absurd (omega (arith, low))
  no_holder (x ∷ xs) e v w =
      elim (stack_holder cgroups f xs) as (λ r. stack_holder cgroups f xs ≡ r → found_or r (hits cgroups f x.stack) x.number ≡ None → ⊥) [
        | Some u ↦ λ is y. none-some u (sym y)
        | None ↦ λ is y. (elim (one_of_two (cond (v == x.number) (times_in_stack w.0 x.stack) 0) (times_in_stacks v w.0 xs) w.1) [
          | inl z ↦
              (let hit : hits cgroups f x.stack ≡ true = hits_with x.stack w.0 (own v w.0 x z).1 w.2 in
              none-some x.number (sym (ap (λ b. found_or None b x.number) (sym hit) ∙ y)))
          | inr z ↦ no_holder xs is v (w.0, z, w.2)
        ])
      ] refl e

  least_holder : (xs : List (Transaction cgroups)) → NewestFirst xs → (u : ℕ) → stack_holder cgroups f xs ≡ Some u → (v : ℕ) → HoldsThere xs v → u ≤ v
  least_holder [] order u e v w = absurd (none-some u e)
  least_holder (x ∷ xs) order u e v w =
      elim (stack_holder cgroups f xs) as (λ r. stack_holder cgroups f xs ≡ r → found_or r (hits cgroups f x.stack) x.number ≡ Some u → u ≤ v) [
        | Some k ↦ λ is y. (elim (one_of_two (cond (v == x.number) (times_in_stack w.0 x.stack) 0) (times_in_stacks v w.0 xs) w.1) [
          | inl z ↦
              (let there = holder_holds xs u (is ∙ y) in
              let low : u < x.number = below_all x.number u there.0 xs order.0 there.1 in
              let same : v ≡ x.number = (own v w.0 x z).0 in
              omega (arith, low, same))
          | inr z ↦ least_holder xs order.1 u (is ∙ y) v (w.0, z, w.2)
        ])
        | None ↦ λ is y. (elim (one_of_two (cond (v == x.number) (times_in_stack w.0 x.stack) 0) (times_in_stacks v w.0 xs) w.1) [
          | inl z ↦
              (let hit : hits cgroups f x.stack ≡ true = hits_with x.stack w.0 (own v w.0 x z).1 w.2 in
              let found : u ≡ x.number = sym (same_Some x.number u (ap (λ b. found_or None b x.number) (sym hit) ∙ y)) in
              let same : v ≡ x.number = (own v w.0 x z).0 in
              omega (arith, found, same))
          | inr z ↦ absurd (no_holder xs is v (w.0, z, w.2))
        ])
      ] refl e

-- ---- without one transaction

differs : (a b : ℕ) → a ≢ b → (a == b) ≡ false
differs a b ne = elim (a == b) as (λ c. (a == b) ≡ c → c ≡ false) [ true ↦ λ e. absurd (ne (eqb-true a b e)) | false ↦ λ e. refl ] refl

in_dropped : (t v : ℕ) (m : Mark) (xs : List (Transaction cgroups)) → v ≢ t → times_in_stacks v m (dropped t xs) ≡ times_in_stacks v m xs
in_dropped t v m [] ne = refl
in_dropped t v m (x ∷ xs) ne =
    elim (x.number == t) as (λ b. (x.number == t) ≡ b → times_in_stacks v m (cond b (dropped t xs) (x ∷ dropped t xs)) ≡ times_in_stacks v m (x ∷ xs)) [
      | true ↦ λ e.
          let other : (v == x.number) ≡ false = differs v x.number (λ z. ne (z ∙ eqb-true x.number t e)) in
          let rest : times_in_stacks v m (dropped t xs) ≡ times_in_stacks v m xs = in_dropped t v m xs ne in
          let none : times_in_stacks v m (x ∷ xs) ≡ 0 + times_in_stacks v m xs = ap (λ b. cond b (times_in_stack m x.stack) 0 + times_in_stacks v m xs) other in
          omega (arith, rest, none)
      | false ↦ λ e. ap (λ n. cond (v == x.number) (times_in_stack m x.stack) 0 + n) (in_dropped t v m xs ne)
    ] refl

not_in_dropped : (t : ℕ) (m : Mark) (xs : List (Transaction cgroups)) → times_in_stacks t m (dropped t xs) ≡ 0
not_in_dropped t m [] = refl
not_in_dropped t m (x ∷ xs) =
    elim (x.number == t) as (λ b. (x.number == t) ≡ b → times_in_stacks t m (cond b (dropped t xs) (x ∷ dropped t xs)) ≡ 0) [
      | true ↦ λ e. not_in_dropped t m xs
      | false ↦ λ e.
          let other : (t == x.number) ≡ false = differs t x.number (λ z. false≢true (sym e ∙ eq-eqb x.number t (sym z))) in
          let rest : times_in_stacks t m (dropped t xs) ≡ 0 = not_in_dropped t m xs in
          let none : times_in_stacks t m (x ∷ dropped t xs) ≡ 0 + times_in_stacks t m (dropped t xs) = ap (λ b. cond b (times_in_stack m x.stack) 0 + times_in_stacks t m (dropped t xs)) other in
          omega (arith, rest, none)
    ] refl

dropped_below : (t n : ℕ) (xs : List (Transaction cgroups)) → AllByRecursion (λ y. y.number < n) xs → AllByRecursion (λ y. y.number < n) (dropped t xs)
dropped_below t n [] all = tt
dropped_below t n (x ∷ xs) all =
    elim (x.number == t) as (λ b. AllByRecursion (λ y. y.number < n) (cond b (dropped t xs) (x ∷ dropped t xs))) [
      | true ↦ dropped_below t n xs all.1
      | false ↦ (all.0, dropped_below t n xs all.1)
    ]

dropped_in_order : (t : ℕ) (xs : List (Transaction cgroups)) → NewestFirst xs → NewestFirst (dropped t xs)
dropped_in_order t [] order = tt
dropped_in_order t (x ∷ xs) order =
    elim (x.number == t) as (λ b. NewestFirst (cond b (dropped t xs) (x ∷ dropped t xs))) [
      | true ↦ dropped_in_order t xs order.1
      | false ↦ (dropped_below t x.number xs order.0, dropped_in_order t xs order.1)
    ]

-- ---- the two are one

module _ (T : Holdings) (xs : List (Transaction cgroups)) (tie : HoldsStacks T xs) (t : ℕ) (f : List Mark) where
  by_stacks : (v : ℕ) → IsInTheWay T t f v → HoldsThere f (dropped t xs) v
  by_stacks v w = (w.mark, subst (λ n. 0 < n) (tie v w.mark ∙ sym (in_dropped t v w.mark xs w.other)) w.held, w.clashing)

  by_table : (v : ℕ) → HoldsThere f (dropped t xs) v → IsInTheWay T t f v
  by_table v w =
      let ne : v ≢ t = (λ e. let low : 0 < times_in_stacks t w.0 (dropped t xs) = subst (λ x. 0 < times_in_stacks x w.0 (dropped t xs)) e w.1 in
      let none : times_in_stacks t w.0 (dropped t xs) ≡ 0 = not_in_dropped t w.0 xs in absurd (omega (arith, low, none))) in
      record {
        other = ne;
        mark = w.0;
        held = subst (λ n. 0 < n) (in_dropped t v w.0 xs ne ∙ sym (tie v w.0)) w.1;
        clashing = w.2;
      }

  -- the least in the way by the table, if there is one, is the machine's
  pub table_tells_holder : NewestFirst xs → (r : Option ℕ)
      → ((u : ℕ) → r ≡ Some u → IsInTheWay T t f u) → ((u : ℕ) → r ≡ Some u → (v : ℕ) → IsInTheWay T t f v → u ≤ v) → (r ≡ None → (v : ℕ) → ¬ (IsInTheWay T t f v))
      → r ≡ stack_holder cgroups f (dropped t xs)
  table_tells_holder order r some least none =
      elim r as (λ o. r ≡ o → o ≡ stack_holder cgroups f (dropped t xs)) [
        | Some u ↦ λ is. (elim (stack_holder cgroups f (dropped t xs)) as (λ s. stack_holder cgroups f (dropped t xs) ≡ s → Some u ≡ s) [
          | Some v ↦ λ held.
              let one : u ≤ v = least u is v (by_table v (holder_holds f (dropped t xs) v held)) in
              let two : v ≤ u = least_holder f (dropped t xs) (dropped_in_order t xs order) v held u (by_stacks u (some u is)) in
              ap Some (omega (arith, one, two))
          | None ↦ λ held. absurd (no_holder f (dropped t xs) held u (by_stacks u (some u is)))
        ] refl)
        | None ↦ λ is. (elim (stack_holder cgroups f (dropped t xs)) as (λ s. stack_holder cgroups f (dropped t xs) ≡ s → None ≡ s) [
          | Some v ↦ λ held. absurd (none is v (by_table v (holder_holds f (dropped t xs) v held)))
          | None ↦ λ held. refl
        ] refl)
      ] refl
