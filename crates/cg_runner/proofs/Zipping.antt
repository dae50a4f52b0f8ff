-- Two lists of which the second grows, item by item, to the length of the first.
use Rattle.std.proofs.Common.{◌≡◌, ℕ, ◌+◌, ◌<◌, List, [], ◌∷◌, ◌++◌, length, take, get_or, subst, sym}
use Rattle.std.specs.List.{AllZip}
use Rattle.std.proofs.lemmas.Slice.Zip.{all_zipped_more}
use Rattle.std.proofs.lemmas.List.{take_more}

pub zip_more :
    {A B : Type 0} (R : A → B → Type 0) (xs : List A) (ys : List B) (i : ℕ) (x : A) (y : B)
    → i < length xs → x ≡ get_or xs i x → AllZip R (take i xs) ys → R x y → AllZip R (take (i + 1) xs) (ys ++ y ∷ [])
zip_more {A} {B} R xs ys i x y inside at before here =
    let e : take (i + 1) xs ≡ take i xs ++ get_or xs i x ∷ [] = take_more xs i x inside in
    let f : take i xs ++ x ∷ [] ≡ take (i + 1) xs = subst (λ z. take i xs ++ z ∷ [] ≡ take (i + 1) xs) (sym at) (sym e) in
    subst (λ zs. AllZip R zs (ys ++ y ∷ [])) f (all_zipped_more R (take i xs) ys x y before here)
