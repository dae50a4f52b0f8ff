-- Texts that grow, piece by piece.
use Rattle.std.proofs.Common.{◌≡◌, ℕ, ◌≤◌, List, ◌++◌, length, take, Result, Ok, Err, OnErr, OnOk, sym, ap, subst, ◌∙◌, append_assoc, arith, length-take}
use Rattle.std.proofs.Math.Seq.{take-length}
use Rattle.std.proofs.lemmas.List.{take-take, take-append-le}

-- y is x and then a
pub record Adds (x a y : List ℕ) : Type 0 where
  pub is : y ≡ x ++ a

pub first : (x a : List ℕ) {y : List ℕ} → y ≡ x ++ a → Adds x a y
first x a e = record { is = e }

-- one piece after another
pub more : {x a y z : List ℕ} (b : List ℕ) → Adds x a y → z ≡ y ++ b → Adds x (a ++ b) z
more {x} {a} b d e = record { is = e ∙ ap (λ l. l ++ b) d.is ∙ append_assoc x a b }

-- what stands at the front of a text that began so
abbrev pub Begins : List ℕ → List ℕ → Type 0
Begins x y = take (length x) y ≡ x

pub begins_itself : (x a y : List ℕ) → y ≡ x ++ a → Begins x y
begins_itself x a y e = ap (take (length x)) e ∙ take-append-le (length x) x a (omega arith) ∙ take-length x

pub begins_on : (x y z : List ℕ) → Begins x y → Begins y z → Begins x z
begins_on x y z h more =
    let within : length x ≤ length y = omega (arith, length-take (length x) y, ap length h) in
    sym (take-take (length x) (length y) z within) ∙ ap (take (length x)) more ∙ h

pub begins_more : (x a y z : List ℕ) → y ≡ x ++ a → Begins y z → Begins x z
begins_more x a y z e h = begins_on x y z (begins_itself x a y e) h

pub on_err : {X E : Type 0} (r : Result X E) (P : Type 0) → P → OnErr r P
on_err (Ok x) P p = tt
on_err (Err e) P p = p

-- a refusal leaves what was there, after what was added before it
pub refused : {X E : Type 0} {x a y : List ℕ} (r : Result X E) → Adds x a y → (z : List ℕ) → Begins y z → OnErr r (Begins x z)
refused {x} {a} {y} r d z h = on_err r (Begins x z) (begins_more x a y z d.is h)

pub refused_same : {X E : Type 0} {x a y : List ℕ} (r : Result X E) → Adds x a y → (z : List ℕ) → z ≡ y → OnErr r (Begins x z)
refused_same {x} {a} {y} r d z e = on_err r (Begins x z) (begins_itself x a z (e ∙ d.is))

both_equal : {X E : Type 0} (x y z : List ℕ) (r : Result X E) → OnOk r (x ≡ z) → OnOk r (y ≡ x) → OnOk r (y ≡ z)
both_equal x y z (Ok t) h k = k ∙ h
both_equal x y z (Err d) h k = tt

-- what was appended is there where nothing is cut off
pub appended : {X E : Type 0} (x y z : List ℕ) (r written : Result X E) → r ≡ written → OnOk written (x ≡ z) → OnOk r (y ≡ x) → OnOk r (y ≡ z)
appended x y z r written e h k = both_equal x y z r (subst (λ q. OnOk q (x ≡ z)) (sym e) h) k
