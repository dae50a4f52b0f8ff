-- How many slots open transactions reserve, as their stacks change and as they close.
use Rattle.std.proofs.Common.{◌≡◌, ℕ, ◌+◌, ◌==◌, ◌||◌, Bool, true, false, cond, [], ◌∷◌, length, refl, sym, ap, ◌∙◌, true≢false, arith}
use Rattle.std.proofs.lemmas.Bool.{eqb-true, eq-eqb, or_parts}
use Rattle.cg_model.specs.Cgroups.{cgroups}
use Rattle.cg_model.specs.History.{History}
use Rattle.cg_model.specs.Live.{Items, live}
use Rattle.cg_model.specs.Opens.{Opens, numbers, among, without}
use Rattle.cg_model.specs.Reply.{live_count}
use Rattle.cg_core_laws.specs.Serial.{OnceEach}
use Rattle.cg_core_laws.specs.Unwind.{with_items}

-- the items on the stacks of open transactions
abbrev pub count_on : (ℕ → Items cgroups) → Opens → ℕ
count_on st [] = 0
count_on st (p ∷ ps) = length (st p.1) + count_on st ps

pub count_is : (h : History cgroups) (ps : Opens) → live_count ps h ≡ count_on (λ t. live t h) ps
count_is h [] = refl
count_is h (p ∷ ps) = ap (λ n. length (live p.1 h) + n) (count_is h ps)

pub count_same : (st st' : ℕ → Items cgroups) → ((u : ℕ) → st' u ≡ st u) → (ps : Opens) → count_on st' ps ≡ count_on st ps
count_same st st' e ps = ap (λ s. count_on s ps) (λ i. λ u. e u i)

-- ---- a stack is another one

count_without_it : (t : ℕ) (l : Items cgroups) (st : ℕ → Items cgroups) (ps : Opens) → among t (numbers ps) ≡ false → count_on (with_items t l st) ps ≡ count_on st ps
count_without_it t l st [] a = refl
count_without_it t l st (p ∷ ps) a =
    let parts : ((t == p.1) ≡ false) × (among t (numbers ps) ≡ false) = or_parts (t == p.1) (among t (numbers ps)) a in
    let other : (p.1 == t) ≡ false = elim (p.1 == t) as (λ b. (p.1 == t) ≡ b → b ≡ false) [ true ↦ λ k. absurd (true≢false (sym (eq-eqb t p.1 (sym (eqb-true p.1 t k))) ∙ parts.0)) | false ↦ λ k. refl ] refl in
    λ i. length (cond (other i) l (st p.1)) + count_without_it t l st ps parts.1 i

pub count_with : (t : ℕ) (l : Items cgroups) (st : ℕ → Items cgroups) (ps : Opens) → OnceEach (numbers ps) → among t (numbers ps) ≡ true
    → count_on (with_items t l st) ps + length (st t) ≡ count_on st ps + length l
count_with t l st [] once a = absurd (true≢false (sym a))
count_with t l st (p ∷ ps) once a =
    elim (p.1 == t) as (λ b. (p.1 == t) ≡ b → count_on (with_items t l st) (p ∷ ps) + length (st t) ≡ count_on st (p ∷ ps) + length l) [
      | true ↦ λ k.
          let is : p.1 ≡ t = eqb-true p.1 t k in
          let rest : count_on (with_items t l st) ps ≡ count_on st ps = count_without_it t l st ps (ap (λ n. among n (numbers ps)) (sym is) ∙ once.0) in
          let top : length (cond (p.1 == t) l (st p.1)) ≡ length l = ap (λ b. length (cond b l (st p.1))) k in
          let own : length (st p.1) ≡ length (st t) = ap (λ n. length (st n)) is in
          omega (arith, rest, top, own)
      | false ↦ λ k.
          let there : among t (numbers ps) ≡ true = left (t == p.1) (among t (numbers ps)) (λ e. true≢false (sym (eq-eqb p.1 t (sym (eqb-true t p.1 e))) ∙ k)) a in
          let rest : count_on (with_items t l st) ps + length (st t) ≡ count_on st ps + length l = count_with t l st ps once.1 there in
          let top : length (cond (p.1 == t) l (st p.1)) ≡ length (st p.1) = ap (λ b. length (cond b l (st p.1))) k in
          omega (arith, rest, top)
    ] refl
  where
    left : (a b : Bool) → ¬ (a ≡ true) → (a || b) ≡ true → b ≡ true
    left true b n e = absurd (n refl)
    left false b n e = e

-- ---- a transaction closes

none_dropped : (t : ℕ) (ps : Opens) → among t (numbers ps) ≡ false → without t ps ≡ ps
none_dropped t [] a = refl
none_dropped t (p ∷ ps) a =
    let parts : ((t == p.1) ≡ false) × (among t (numbers ps) ≡ false) = or_parts (t == p.1) (among t (numbers ps)) a in
    let other : (p.1 == t) ≡ false = elim (p.1 == t) as (λ b. (p.1 == t) ≡ b → b ≡ false) [ true ↦ λ k. absurd (true≢false (sym (eq-eqb t p.1 (sym (eqb-true p.1 t k))) ∙ parts.0)) | false ↦ λ k. refl ] refl in
    (λ i. cond (other i) (without t ps) (p ∷ without t ps)) ∙ ap (λ l. p ∷ l) (none_dropped t ps parts.1)

pub count_closed : (t : ℕ) (st : ℕ → Items cgroups) (ps : Opens) → OnceEach (numbers ps) → among t (numbers ps) ≡ true
    → (length (without t ps) + 1 ≡ length ps) × (count_on st (without t ps) + length (st t) ≡ count_on st ps)
count_closed t st [] once a = absurd (true≢false (sym a))
count_closed t st (p ∷ ps) once a =
    elim (p.1 == t) as (λ b. (p.1 == t) ≡ b → (length (cond b (without t ps) (p ∷ without t ps)) + 1 ≡ length (p ∷ ps)) × (count_on st (cond b (without t ps) (p ∷ without t ps)) + length (st t) ≡ count_on st (p ∷ ps))) [
      | true ↦ λ k.
          let is : p.1 ≡ t = eqb-true p.1 t k in
          let same : without t ps ≡ ps = none_dropped t ps (ap (λ n. among n (numbers ps)) (sym is) ∙ once.0) in
          let long : length (without t ps) ≡ length ps = ap length same in
          let count : count_on st (without t ps) ≡ count_on st ps = ap (count_on st) same in
          let own : length (st p.1) ≡ length (st t) = ap (λ n. length (st n)) is in
          (omega (arith, long), omega (arith, count, own))
      | false ↦ λ k.
          let there : among t (numbers ps) ≡ true = left (t == p.1) (among t (numbers ps)) (λ e. true≢false (sym (eq-eqb p.1 t (sym (eqb-true t p.1 e))) ∙ k)) a in
          let rest : (length (without t ps) + 1 ≡ length ps) × (count_on st (without t ps) + length (st t) ≡ count_on st ps) = count_closed t st ps once.1 there in
          (omega (arith, rest.0), omega (arith, rest.1))
    ] refl
  where
    left : (a b : Bool) → ¬ (a ≡ true) → (a || b) ≡ true → b ≡ true
    left true b n e = absurd (n refl)
    left false b n e = e
