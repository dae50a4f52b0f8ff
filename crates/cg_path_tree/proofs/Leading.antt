-- Texts ascend as the numbers that they begin with.
use Rattle.std.proofs.Common.{◌≡◌, ℕ, zero, suc, ◌+◌, ◌*◌, ◌<◌, ◌≤◌, false, List, [], ◌∷◌, get_or, refl, sym, ap, subst, ◌∙◌, arith, true≢false, Bor}
use Rattle.std.specs.Int.{w64, from_be_bytes}
use Rattle.std.specs.declared.cmp.Ordering.{Ordering}
use Rattle.std.specs.declared.cmp.Ordering.TheVariants.{Less, Equal, Greater}
use Rattle.std.specs.Ordering.{nat_cmp, is_lt, ordering_then, ordering_reverse, MatchOrdering}
use Rattle.std.specs.Cmp.{ranks}
use Rattle.std.specs.Cmp.Lexicographic.{slice_cmp, nat_list_cmp_total}
use Rattle.cg_path_tree.specs.declared.node.NodeKey.{NodeKey}

abbrev pub AreBytes : List ℕ → Type 0
AreBytes xs = (k : ℕ) → get_or xs k 0 < 256

-- what stands behind the first byte
abbrev rest_of : List ℕ → List ℕ
rest_of [] = []
rest_of (x ∷ xs) = xs

-- the number that k bytes spell after n, with zeros behind the last
abbrev spelt : ℕ → ℕ → List ℕ → ℕ
spelt zero n xs = n
spelt (suc k) n xs = spelt k (n * 256 + get_or xs 0 0) (rest_of xs)

abbrev behind : ℕ → List ℕ → List ℕ
behind zero xs = xs
behind (suc k) xs = behind k (rest_of xs)

shift : (xs : List ℕ) (k : ℕ) → get_or (rest_of xs) k 0 ≡ get_or xs (suc k) 0
shift [] k = refl
shift (x ∷ xs) k = refl

first_behind : (k : ℕ) (xs : List ℕ) → get_or (behind k xs) 0 0 ≡ get_or xs k 0
first_behind zero xs = refl
first_behind (suc k) xs = first_behind k (rest_of xs) ∙ shift xs k

is_spelt : (xs : List ℕ) → from_be_bytes w64 xs ≡ spelt 8 0 xs
is_spelt xs = omega (arith, first_behind 1 xs, first_behind 2 xs, first_behind 3 xs, first_behind 4 xs, first_behind 5 xs, first_behind 6 xs, first_behind 7 xs)

-- a greater number before stays greater
rises : (k a b : ℕ) (xs ys : List ℕ) → AreBytes xs → a < b → spelt k a xs < spelt k b ys
rises zero a b xs ys h l = l
rises (suc k) a b xs ys h l =
    let small : get_or xs 0 0 < 256 = h 0 in
    rises k (a * 256 + get_or xs 0 0) (b * 256 + get_or ys 0 0) (rest_of xs) (rest_of ys) (λ j. rw (shift xs j) (h (suc j))) (omega arith)

-- no text spells less than none
least : (k a b : ℕ) (xs : List ℕ) → a ≤ b → spelt k a [] ≤ spelt k b xs
least zero a b xs l = l
least (suc k) a b xs l = least k (a * 256 + 0) (b * 256 + get_or xs 0 0) (rest_of xs) (omega arith)

ascend : (k a : ℕ) (xs ys : List ℕ) → AreBytes xs → AreBytes ys → spelt k a xs < spelt k a ys → slice_cmp nat_cmp xs ys ≡ Less
ascend zero a xs ys g h l = absurd (omega arith)
ascend (suc k) a [] [] g h l = absurd (omega arith)
ascend (suc k) a [] (y ∷ ys) g h l = refl
ascend (suc k) a (x ∷ xs) [] g h l =
    let most : spelt k (a * 256 + 0) [] ≤ spelt k (a * 256 + x) xs = least k (a * 256 + 0) (a * 256 + x) xs (omega arith) in
    absurd (omega arith)
ascend (suc k) a (x ∷ xs) (y ∷ ys) g h l = by (λ more. ascend k (a * 256 + x) xs ys (λ j. g (suc j)) (λ j. h (suc j)) more) (nat_cmp x y) refl (ranks x y)
  where
    by : (spelt k (a * 256 + x) xs < spelt k (a * 256 + x) ys → slice_cmp nat_cmp xs ys ≡ Less)
        → (r : Ordering) → nat_cmp x y ≡ r → MatchOrdering r (x < y) (x ≡ y) (y < x) → slice_cmp nat_cmp (x ∷ xs) (y ∷ ys) ≡ Less
    by rest Less e _ = ap (λ o. ordering_then o (slice_cmp nat_cmp xs ys)) e
    by rest Equal e same =
        let level : x ≡ y = same in
        let more : spelt k (a * 256 + x) xs < spelt k (a * 256 + x) ys = subst (λ z. spelt k (a * 256 + x) xs < spelt k (a * 256 + z) ys) (sym level) l in
        ap (λ o. ordering_then o (slice_cmp nat_cmp xs ys)) e ∙ rest more
    by rest Greater e over =
        let above : y < x = over in
        let down : spelt k (a * 256 + y) ys < spelt k (a * 256 + x) xs = rises k (a * 256 + y) (a * 256 + x) ys xs (λ j. h (suc j)) (omega arith) in
        absurd (omega arith)

-- texts are in order where they are so by their numbers, and then by themselves
pub in_order_by_numbers : (xs ys : List ℕ) → AreBytes xs → AreBytes ys
    → is_lt (ordering_then (nat_cmp (from_be_bytes w64 xs) (from_be_bytes w64 ys)) (slice_cmp nat_cmp xs ys)) ≡ false → is_lt (slice_cmp nat_cmp xs ys) ≡ false
in_order_by_numbers xs ys g h = by (nat_cmp (from_be_bytes w64 xs) (from_be_bytes w64 ys)) (ranks (from_be_bytes w64 xs) (from_be_bytes w64 ys))
  where
    by : (r : Ordering) → MatchOrdering r (from_be_bytes w64 xs < from_be_bytes w64 ys) (from_be_bytes w64 xs ≡ from_be_bytes w64 ys) (from_be_bytes w64 ys < from_be_bytes w64 xs)
        → is_lt (ordering_then r (slice_cmp nat_cmp xs ys)) ≡ false → is_lt (slice_cmp nat_cmp xs ys) ≡ false
    by Less _ not_less = absurd (true≢false not_less)
    by Equal _ not_less = not_less
    by Greater over _ =
        let below : from_be_bytes w64 ys < from_be_bytes w64 xs = over in
        let up : spelt 8 0 ys < spelt 8 0 xs = rw (← is_spelt xs, ← is_spelt ys) below in
        ap is_lt (nat_list_cmp_total.antisymm xs ys ∙ ap ordering_reverse (ascend 8 0 ys xs h g up))

-- an entry has the number of its text
pub record IsNumbered (e : ℕ × Bor (List ℕ) × NodeKey) : Type 0 where
  pub number : e.0 ≡ from_be_bytes w64 e.1.now
  pub bytes : AreBytes e.1.now

-- the entry without its number
abbrev pub unnumbered : ℕ × Bor (List ℕ) × NodeKey → Bor (List ℕ) × NodeKey
unnumbered e = (e.1, e.2)

-- entries that are in order by their numbers and texts are so by their texts
pub in_order_by_texts : (e f : ℕ × Bor (List ℕ) × NodeKey) → IsNumbered e → IsNumbered f
    → is_lt (ordering_then (nat_cmp e.0 f.0) (slice_cmp nat_cmp e.1.now f.1.now)) ≡ false → is_lt (slice_cmp nat_cmp e.1.now f.1.now) ≡ false
in_order_by_texts e f m n h =
    in_order_by_numbers e.1.now f.1.now m.bytes n.bytes
    (sym (λ i. is_lt (ordering_then (nat_cmp (m.number i) (n.number i)) (slice_cmp nat_cmp e.1.now f.1.now))) ∙ h)
