-- The bytes of lists: no white space is among them, and no comma among those of an element.
use Rattle.std.proofs.Common.{◌≡◌, ℕ, zero, suc, ◌-◌, ◌<◌, ◌≤◌, inl, inr, false, ◌==◌, List, [], ◌∷◌, ◌++◌, length, reverse, refl, sym, ap, subst, ◌∙◌, arith}
use Rattle.std.specs.List.{All, AllByRecursion, slice_split, join_with_byte}
use Rattle.std.specs.Str.Parse.{AllDigits}
use Rattle.std.proofs.lemmas.Bool.Decides.{nat_tests}
use Rattle.std.proofs.lemmas.List.Splits.{slice_split_none, slice_split_at}
use Rattle.std.proofs.lemmas.Str.Parse.{digit_from_value}
use Rattle.cg_cpus.specs.CpuList.{SpellsRange}
use Rattle.cg_digits.specs.WhiteSpace.{is_white_space, starts_white, trimmed, without_trailing_white_space}
use Rattle.cg_digits.proofs.Trimmed.{front_end, back_end, last_test}

-- ---- lists

all_append : {X : Type 0} (P : X → Type 0) (xs ys : List X) → AllByRecursion P xs → AllByRecursion P ys → AllByRecursion P (xs ++ ys)
all_append P [] ys h k = k
all_append P (x ∷ xs) ys h k = (h.0, all_append P xs ys h.1 k)

all_weaker : {X : Type 0} (P Q : X → Type 0) → ((x : X) → P x → Q x) → (xs : List X) → AllByRecursion P xs → AllByRecursion Q xs
all_weaker P Q f [] h = tt
all_weaker P Q f (x ∷ xs) h = (f x h.0, all_weaker P Q f xs h.1)

pub all_by_index : {X : Type 0} (P : X → Type 0) (xs : List X) → AllByRecursion P xs → All P xs
all_by_index P [] h k d l = absurd (omega arith)
all_by_index P (x ∷ xs) h zero d l = h.0
all_by_index P (x ∷ xs) h (suc k) d l = all_by_index P xs h.1 k d (omega arith)

-- ---- elements

-- a digit or a dash
unfoldable pub IsElementByte : ℕ → Type 0
IsElementByte b = (45 ≤ b) × (b ≤ 57)

digit_bytes : (ds : List ℕ) → AllDigits 10 ds → AllByRecursion IsElementByte ds
unfolding IsElementByte
digit_bytes [] h = tt
digit_bytes (d ∷ ds) h = let r = digit_from_value d h.0 in ((omega (arith, r.0), r.1), digit_bytes ds h.1)

pub element_bytes : (e : List ℕ) (first last : ℕ) → SpellsRange e first last → AllByRecursion IsElementByte e
unfolding IsElementByte
element_bytes e first last (inl n) = digit_bytes e n.0.0.1
element_bytes e first last (inr r) =
    subst (AllByRecursion IsElementByte) (sym r.2)
    (all_append IsElementByte r.0 (45 ∷ r.1) (digit_bytes r.0 r.3.0.1) ((omega arith, omega arith), digit_bytes r.1 r.4.0.1))

pub element_nonempty : (e : List ℕ) (first last : ℕ) → SpellsRange e first last → 0 < length e
element_nonempty e first last (inl n) = n.0.0.0
element_nonempty e first last (inr r) = subst (λ bs. 0 < length bs) (sym r.2) (longer r.0 (45 ∷ r.1) r.3.0.0)
  where
    longer : (xs ys : List ℕ) → 0 < length xs → 0 < length (xs ++ ys)
    longer [] ys l = absurd (omega arith)
    longer (x ∷ xs) ys l = omega arith

no_comma : (bs : List ℕ) → AllByRecursion IsElementByte bs → All (λ b. (b == 44) ≡ false) bs
unfolding IsElementByte
no_comma bs h = all_by_index (λ b. (b == 44) ≡ false) bs (all_weaker IsElementByte (λ b. (b == 44) ≡ false) (λ b k. apart b k.0) bs h)
  where
    apart : (b : ℕ) → 45 ≤ b → (b == 44) ≡ false
    apart b l = grind (arith, nat_tests)

-- the elements of a row are cut as they were joined
pub cut : (e : List ℕ) (es : List (List ℕ)) → AllByRecursion (AllByRecursion IsElementByte) (e ∷ es) → slice_split (λ c. c == 44) (join_with_byte 44 (e ∷ es)) ≡ e ∷ es
cut e [] h = slice_split_none (λ c. c == 44) e (no_comma e h.0)
cut e (f ∷ es) h = slice_split_at (λ c. c == 44) e 44 (join_with_byte 44 (f ∷ es)) (no_comma e h.0) refl ∙ ap (λ ps. e ∷ ps) (cut f es h.1)

-- ---- lists of them

-- a digit, a dash or a comma
IsListByte : ℕ → Type 0
IsListByte b = (44 ≤ b) × (b ≤ 57)

wider : (b : ℕ) → IsElementByte b → IsListByte b
unfolding IsElementByte IsListByte
wider b h = (omega (arith, h.0), h.1)

list_bytes : (es : List (List ℕ)) → AllByRecursion (AllByRecursion IsElementByte) es → AllByRecursion IsListByte (join_with_byte 44 es)
unfolding IsListByte
list_bytes [] h = tt
list_bytes (e ∷ []) h = all_weaker IsElementByte IsListByte wider e h.0
list_bytes (e ∷ f ∷ es) h = all_append IsListByte e (44 ∷ join_with_byte 44 (f ∷ es)) (all_weaker IsElementByte IsListByte wider e h.0) ((omega arith, omega arith), list_bytes (f ∷ es) h.1)

not_white : (b : ℕ) → IsListByte b → is_white_space b ≡ false
unfolding IsListByte
not_white b h = let l = h.0 in grind (arith, nat_tests)

front : (bs : List ℕ) → AllByRecursion IsListByte bs → starts_white bs ≡ false
front [] h = refl
front (b ∷ bs) h = not_white b h.0

back : (bs : List ℕ) → AllByRecursion IsListByte bs → starts_white (reverse bs) ≡ false
back [] h = refl
back (b ∷ bs) h = last_test (b ∷ bs) (omega arith) ∙ not_white _ (all_by_index IsListByte (b ∷ bs) h (length (b ∷ bs) - 1) 0 (omega arith))

-- there is no white space at the ends
pub untrimmed : (es : List (List ℕ)) → AllByRecursion (AllByRecursion IsElementByte) es → trimmed (join_with_byte 44 es) ≡ join_with_byte 44 es
untrimmed es h =
    let bytes = list_bytes es h in
    ap without_trailing_white_space (front_end (join_with_byte 44 es) (front (join_with_byte 44 es) bytes))
    ∙ back_end (join_with_byte 44 es) (back (join_with_byte 44 es) bytes)
