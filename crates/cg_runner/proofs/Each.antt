-- Lists of which each element is such, and what holds at each place of two.
use Rattle.std.proofs.Common.{◌≡◌, ℕ, suc, ◌+◌, ◌<◌, ◌≤◌, Bool, true, false, cond, List, [], ◌∷◌, ◌++◌, length, Some, Result, Ok, Err, IfOk, OnOk, get_or, take, drop, refl, sym, ap, subst, ◌∙◌, arith}
use Rattle.std.proofs.lemmas.List.{append-nil, take_more}
use Rattle.std.proofs.Math.Seq.{drop-length, take-length}
use Rattle.std.proofs.lemmas.List.Sums.{sum_by-cons}
use Rattle.std.specs.List.{AllByRecursion, AllZip, count_by, slice_get}

pub each_append : {X : Type 0} (P : X → Type 0) (xs ys : List X) → AllByRecursion P xs → AllByRecursion P ys → AllByRecursion P (xs ++ ys)
each_append P [] ys h k = k
each_append P (x ∷ xs) ys h k = (h.0, each_append P xs ys h.1 k)

pub each_weaker : {X : Type 0} (P Q : X → Type 0) (xs : List X) → ((x : X) → P x → Q x) → AllByRecursion P xs → AllByRecursion Q xs
each_weaker P Q [] f h = tt
each_weaker P Q (x ∷ xs) f h = (f x h.0, each_weaker P Q xs f h.1)

pub each_both : {X : Type 0} (P Q : X → Type 0) (xs : List X) → AllByRecursion P xs → AllByRecursion Q xs → AllByRecursion (λ x. P x × Q x) xs
each_both P Q [] h k = tt
each_both P Q (x ∷ xs) h k = ((h.0, k.0), each_both P Q xs h.1 k.1)

pub zip_append : {A B : Type 0} (R : A → B → Type 0) (xs vs : List A) (ys ws : List B) → AllZip R xs ys → AllZip R vs ws → AllZip R (xs ++ vs) (ys ++ ws)
zip_append R [] vs [] ws h k = k
zip_append R [] vs (y ∷ ys) ws h k = absurd h
zip_append R (x ∷ xs) vs [] ws h k = absurd h
zip_append R (x ∷ xs) vs (y ∷ ys) ws h k = (h.0, zip_append R xs vs ys ws h.1 k)

-- what holds at each place of two lists that are as long holds of them
pub zip_at : {X : Type 0} (R : X → X → Type 0) (xs ys : List X) → length ys ≡ length xs
    → ((i : ℕ) (d : X) → i < length xs → R (get_or xs i d) (get_or ys i d)) → AllZip R xs ys
zip_at R [] [] e h = tt
zip_at R [] (y ∷ ys) e h = absurd (omega (arith, e))
zip_at R (x ∷ xs) [] e h = absurd (omega (arith, e))
zip_at R (x ∷ xs) (y ∷ ys) e h = (h 0 x (omega arith), zip_at R xs ys (omega (arith, e)) (λ i d k. h (suc i) d (omega (arith, k))))

pub zip_got : {A B : Type 0} (R : A → B → Type 0) (xs : List A) (ys : List B) → length ys ≡ length xs
    → ((i : ℕ) → i < length xs → (x : A) × (y : B) × (slice_get xs i ≡ Some x) × (slice_get ys i ≡ Some y) × R x y) → AllZip R xs ys
zip_got R [] [] e h = tt
zip_got R [] (y ∷ ys) e h = absurd (omega (arith, e))
zip_got R (x ∷ xs) [] e h = absurd (omega (arith, e))
zip_got {A} {B} R (x ∷ xs) (y ∷ ys) e h =
    let first = h 0 (omega arith) in
    let at : first.0 ≡ x = cc (first.2) in
    let beside : first.1 ≡ y = cc (first.3) in
    (subst (λ (v : A). R v y) at (subst (λ (w : B). R first.0 w) beside first.4), zip_got R xs ys (omega (arith, e)) (λ i k. h (suc i) (omega (arith, k))))

-- where some are counted there is one
pub some_counted : {X : Type 0} (P : X → Type 0) (test : X → Bool) (xs : List X) → AllByRecursion P xs → 1 ≤ count_by test xs → (x : X) × P x × (test x ≡ true)
some_counted P test [] h some = absurd (omega (arith, some))
some_counted {X} P test (x ∷ xs) h some =
    at (some_counted P test xs h.1) (test x) refl (subst (λ k. 1 ≤ k) (sum_by-cons (λ y. cond (test y) 1 0) x xs) some)
  where
    at : (1 ≤ count_by test xs → (y : X) × P y × (test y ≡ true)) → (b : Bool) → test x ≡ b → 1 ≤ cond b 1 0 + count_by test xs
        → (y : X) × P y × (test y ≡ true)
    at later true e k = (x, h.0, e)
    at later false e k = later (omega (arith, k))

pub take_item : {X : Type 0} (xs : List X) (i : ℕ) (x : X) → i < length xs → x ≡ get_or xs i x → take (i + 1) xs ≡ take i xs ++ x ∷ []
take_item xs i x inside at = take_more xs i x inside ∙ ap (λ y. take i xs ++ y ∷ []) (sym at)

-- what stands where all of a list was lent is what was left there
pub all_left : {X : Type 0} (old new : List X) (n : ℕ) → length new ≡ length old → n ≡ length old → take n (new ++ drop (length new) old) ≡ new
all_left old new n same is =
    let none : drop (length new) old ≡ [] = ap (λ k. drop k old) same ∙ drop-length old in
    let whole : n ≡ length new = is ∙ sym same in
    ap (λ l. take n (new ++ l)) none ∙ ap (λ l. take n l) (append-nil new) ∙ ap (λ k. take k new) whole ∙ take-length new

pub both_if_ok : {T E : Type 0} (W : Type 0) (P Q : T → Type 0) (r : Result T E) → (W → (x : T) → P x → Q x) → OnOk r W → IfOk r P → IfOk r Q
both_if_ok W P Q (Ok x) f w h = f w x h
both_if_ok W P Q (Err e) f w h = tt
