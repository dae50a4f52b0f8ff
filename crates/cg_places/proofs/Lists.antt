-- Lists that are written at one place.
use Rattle.std.proofs.Common.{◌≡◌, ◌≢◌, ℕ, zero, suc, ◌<◌, List, [], ◌∷◌, length, map, set, Option, None, Some, unwrap_or, option_map, refl, sym, ap, ◌∙◌, arith}
use Rattle.std.specs.List.{slice_get}
use Rattle.std.proofs.lemmas.List.{length-set}
use Rattle.cg_places.specs.Lists.{WritesAt}

pub same_some : {A : Type 0} (x y : A) → Some x ≡ Some y → x ≡ y
same_some x y e = ap (λ o. unwrap_or o x) e

pub some_not_none : {A : Type 0} (x : A) (o : Option A) → o ≡ Some x → o ≢ None
some_not_none x o e n = cc

-- what is mapped to something is something
pub unmap : {A B : Type 0} (f : A → B) (o : Option A) (y : B) → option_map f o ≡ Some y → (x : A) × (o ≡ Some x) × (f x ≡ y)
unmap f None y e = absurd (cc)
unmap f (Some x) y e = (x, refl, same_some (f x) y e)

pub item_at : {A : Type 0} (xs : List A) (j : ℕ) → j < length xs → (x : A) × (slice_get xs j ≡ Some x)
item_at [] j low = absurd (omega arith)
item_at (x ∷ xs) zero low = (x, refl)
item_at (x ∷ xs) (suc j) low = item_at xs j (omega arith)

set_here : {A : Type 0} (xs : List A) (i : ℕ) (x : A) → i < length xs → slice_get (set xs i x) i ≡ Some x
set_here [] i x low = absurd (omega arith)
set_here (y ∷ ys) zero x low = refl
set_here (y ∷ ys) (suc i) x low = set_here ys i x (omega arith)

set_elsewhere : {A : Type 0} (xs : List A) (i : ℕ) (x : A) (j : ℕ) → j ≢ i → slice_get (set xs i x) j ≡ slice_get xs j
set_elsewhere [] zero x j ne = refl
set_elsewhere [] (suc i) x j ne = refl
set_elsewhere (y ∷ ys) zero x zero ne = absurd (ne refl)
set_elsewhere (y ∷ ys) zero x (suc j) ne = refl
set_elsewhere (y ∷ ys) (suc i) x zero ne = refl
set_elsewhere (y ∷ ys) (suc i) x (suc j) ne = set_elsewhere ys i x j (λ same. ne (ap suc same))

pub writes-set : {A : Type 0} (xs : List A) (i : ℕ) (x : A) → i < length xs → WritesAt xs (set xs i x) i x
writes-set xs i x low = record { changed = set_here xs i x low; others = set_elsewhere xs i x; many = length-set xs i x }

pub at_mapped : {A B : Type 0} (f : A → B) (xs : List A) (j : ℕ) → slice_get (map f xs) j ≡ option_map f (slice_get xs j)
at_mapped f [] j = refl
at_mapped f (y ∷ ys) zero = refl
at_mapped f (y ∷ ys) (suc j) = at_mapped f ys j
