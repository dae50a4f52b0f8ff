-- Packed paths are ordered as paths are.
use Rattle.std.proofs.Common.{◌≡◌, ℕ, ◌==◌, Bool, true, false, cond, nat_eq, List, [], ◌∷◌, refl, sym, ap, ◌∙◌, arith}
use Rattle.std.specs.declared.cmp.Ordering.{Ordering}
use Rattle.std.specs.declared.cmp.Ordering.TheVariants.{Less, Equal, Greater}
use Rattle.std.specs.Ordering.{ordering_then, nat_cmp, is_eq}
use Rattle.std.specs.Cmp.Lexicographic.{slice_cmp, pointwise, texts_ties, lists_ties}
use Rattle.std.proofs.lemmas.Bool.Decides.{nat_tests}
use Rattle.std.proofs.lemmas.Bool.{eqb-true}
use Rattle.cg_name.specs.Name.{Name, name_cmp}
use Rattle.cg_name.specs.Path.{Path, path_cmp, IsPath}
use Rattle.cg_name.specs.Packed.{names_in, packed_text, first_name, BeginsName}
use Rattle.cg_name.proofs.Packing.{names_in-packed_text, start-packed_text}

then_assoc : (a b c : Ordering) → ordering_then a (ordering_then b c) ≡ ordering_then (ordering_then a b) c
then_assoc Less b c = refl
then_assoc Equal b c = refl
then_assoc Greater b c = refl

none_first : (y : ℕ) (t : Bool) → (y == 0) ≡ t → (n : Name) (p : Path) → Less ≡ ordering_then (name_cmp [] (cond t [] (y ∷ n))) (path_cmp [] (cond t (n ∷ p) p))
none_first y true e n p = refl
none_first y false e n p = refl

none_last : (x : ℕ) (t : Bool) → (x == 0) ≡ t → (n : Name) (p : Path) → Greater ≡ ordering_then (name_cmp (cond t [] (x ∷ n)) []) (path_cmp (cond t (n ∷ p) p) [])
none_last x true e n p = refl
none_last x false e n p = refl

step : (x y : ℕ) (s t : Bool) → (x == 0) ≡ s → (y == 0) ≡ t → (n m : Name) (p q : Path) (o : Ordering) → o ≡ ordering_then (name_cmp n m) (path_cmp p q)
    → ordering_then (nat_cmp x y) o ≡ ordering_then (name_cmp (cond s [] (x ∷ n)) (cond t [] (y ∷ m))) (path_cmp (cond s (n ∷ p) p) (cond t (m ∷ q) q))
step x y true true e d n m p q o h = let x0 : x ≡ 0 = eqb-true x 0 e in let y0 : y ≡ 0 = eqb-true y 0 d in rw (x0, y0) h
step x y true false e d n m p q o h = let c : nat_cmp x y ≡ Less = grind (arith, nat_tests) in rw c refl
step x y false true e d n m p q o h = let c : nat_cmp x y ≡ Greater = grind (arith, nat_tests) in rw c refl
step x y false false e d n m p q o h = ap (ordering_then (nat_cmp x y)) h ∙ then_assoc (nat_cmp x y) (name_cmp n m) (path_cmp p q)

-- the first parts decide, and then the names
by_parts : (xs ys : List ℕ) → slice_cmp nat_cmp xs ys ≡ ordering_then (name_cmp (first_name xs) (first_name ys)) (path_cmp (names_in xs) (names_in ys))
by_parts [] [] = refl
by_parts [] (y ∷ ys) = none_first y (y == 0) refl (first_name ys) (names_in ys)
by_parts (x ∷ xs) [] = none_last x (x == 0) refl (first_name xs) (names_in xs)
by_parts (x ∷ xs) (y ∷ ys) = step x y (x == 0) (y == 0) refl refl (first_name xs) (first_name ys) (names_in xs) (names_in ys) (slice_cmp nat_cmp xs ys) (by_parts xs ys)

pub packed_order : (xs ys : List ℕ) → BeginsName xs → BeginsName ys → slice_cmp nat_cmp xs ys ≡ path_cmp (names_in xs) (names_in ys)
packed_order [] [] h k = refl
packed_order [] (y ∷ ys) h k = by_parts [] (y ∷ ys) ∙ rw k refl
packed_order (x ∷ xs) [] h k = by_parts (x ∷ xs) [] ∙ rw h refl
packed_order (x ∷ xs) (y ∷ ys) h k = rw (h, k) (by_parts xs ys)

pub packed_ties : (xs ys : List ℕ) → BeginsName xs → BeginsName ys → pointwise nat_eq xs ys ≡ pointwise (pointwise nat_eq) (names_in xs) (names_in ys)
packed_ties xs ys h k = texts_ties xs ys ∙ ap is_eq (packed_order xs ys h k) ∙ sym (lists_ties name_cmp texts_ties (names_in xs) (names_in ys))

pub text_order : (p q : Path) → IsPath p → IsPath q → slice_cmp nat_cmp (packed_text p) (packed_text q) ≡ path_cmp p q
text_order p q h k = packed_order (packed_text p) (packed_text q) (start-packed_text p) (start-packed_text q) ∙ rw (names_in-packed_text p h, names_in-packed_text q k) refl

pub text_ties : (p q : Path) → IsPath p → IsPath q → pointwise nat_eq (packed_text p) (packed_text q) ≡ pointwise (pointwise nat_eq) p q
text_ties p q h k = packed_ties (packed_text p) (packed_text q) (start-packed_text p) (start-packed_text q) ∙ rw (names_in-packed_text p h, names_in-packed_text q k) refl
