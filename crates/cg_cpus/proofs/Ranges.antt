-- An element spells one range: the texts of numbers have no dash.
use Rattle.std.proofs.Common.{◌≡◌, ◌≢◌, ℕ, suc, ◌<◌, ◌≤◌, inl, inr, List, [], ◌∷◌, ◌++◌, length, get_or, refl, sym, subst, ◌∙◌, arith, length-append}
use Rattle.std.specs.Int.{IsInRange}
use Rattle.std.specs.Str.Parse.{IsNumeral}
use Rattle.std.proofs.lemmas.Str.Parse.{digit_at}
use Rattle.cg_cpus.specs.CpuList.{IsCpuNumber, SpellsRange}

-- no byte is c
abbrev pub Lacks : ℕ → List ℕ → Type 0
Lacks c bs = (i : ℕ) → i < length bs → get_or bs i 0 ≢ c

pub digits_lack : (c : ℕ) (ds : List ℕ) → (IsInRange 48 57 c → ⊥) → IsNumeral 10 ds → Lacks c ds
digits_lack c ds other h i l e = other (subst (IsInRange 48 57) e (digit_at ds i h.1 l))

not_a_digit : IsInRange 48 57 45 → ⊥
not_a_digit h = omega (arith, h.0)

pub number_lacks_dash : (ds : List ℕ) (n : ℕ) → IsCpuNumber ds n → Lacks 45 ds
number_lacks_dash ds n h = digits_lack 45 ds not_a_digit h.0

-- what stands behind a dash
pub dash_within : (low high : List ℕ) → Lacks 45 (low ++ 45 ∷ high) → ⊥
dash_within low high h = h (length low) (omega (arith, length-append low (45 ∷ high))) (at_dash low)
  where
    at_dash : (low : List ℕ) → get_or (low ++ 45 ∷ high) (length low) 0 ≡ 45
    at_dash [] = refl
    at_dash (b ∷ low) = at_dash low

pub lacks_tail : (c b : ℕ) (bs : List ℕ) → Lacks c (b ∷ bs) → Lacks c bs
lacks_tail c b bs h i l = h (suc i) (omega arith)

-- a text has one first dash
pub same_split : (xs us ys vs : List ℕ) → Lacks 45 xs → Lacks 45 us → xs ++ 45 ∷ ys ≡ us ++ 45 ∷ vs → (xs ≡ us) × (ys ≡ vs)
same_split [] [] ys vs h k e = (refl, cc)
same_split [] (u ∷ us) ys vs h k e = let is : 45 ≡ u = cc in absurd (k 0 (omega arith) (sym is))
same_split (x ∷ xs) [] ys vs h k e = let is : x ≡ 45 = cc in absurd (h 0 (omega arith) is)
same_split (x ∷ xs) (u ∷ us) ys vs h k e =
    let head : x ≡ u = cc in
    let tail : xs ++ 45 ∷ ys ≡ us ++ 45 ∷ vs = cc in
    let rest = same_split xs us ys vs (lacks_tail 45 x xs h) (lacks_tail 45 u us k) tail in
    ((λ i. head i ∷ rest.0 i), rest.1)

-- with no dash an element is a number
pub is_number : (e : List ℕ) (first last : ℕ) → Lacks 45 e → SpellsRange e first last → IsCpuNumber e first × (last ≡ first)
is_number e first last h (inl n) = n
is_number e first last h (inr r) = absurd (dash_within r.0 r.1 (subst (Lacks 45) r.2 h))

-- with a dash it is two
pub are_numbers : (e low high : List ℕ) (first last : ℕ) → e ≡ low ++ 45 ∷ high → Lacks 45 low → SpellsRange e first last → IsCpuNumber low first × IsCpuNumber high last × (first ≤ last)
are_numbers e low high first last is h (inl n) = absurd (dash_within low high (subst (Lacks 45) is (number_lacks_dash e first n.0)))
are_numbers e low high first last is h (inr r) =
    let same = same_split r.0 low r.1 high (number_lacks_dash r.0 first r.3) h (sym r.2 ∙ is) in
    (subst (λ ds. IsCpuNumber ds first) same.0 r.3, subst (λ ds. IsCpuNumber ds last) same.1 r.4, r.5)

-- an element spells one range
pub one_range : (e : List ℕ) (a b c d : ℕ) → SpellsRange e a b → SpellsRange e c d → (a ≡ c) × (b ≡ d)
one_range e a b c d (inl n) s =
    let m = is_number e c d (number_lacks_dash e a n.0) s in
    let same : a ≡ c = sym n.0.1 ∙ m.0.1 in
    (same, n.1 ∙ same ∙ sym m.1)
one_range e a b c d (inr r) s =
    let m = are_numbers e r.0 r.1 c d r.2 (number_lacks_dash r.0 a r.3) s in
    (sym r.3.1 ∙ m.0.1, sym r.4.1 ∙ m.1.1)

pub ordered : (e : List ℕ) (first last : ℕ) → SpellsRange e first last → (first ≤ last) × (last < 1024)
ordered e first last (inl n) = (omega (arith, n.1), omega (arith, n.1, n.0.2))
ordered e first last (inr r) = (r.5, omega (arith, r.4.2))
