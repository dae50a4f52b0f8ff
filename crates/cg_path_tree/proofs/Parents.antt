-- A path one name longer than another, and how many there are of them.
use Rattle.std.proofs.Common.{◌≡◌, ◌≢◌, ℕ, zero, suc, ◌+◌, ◌-◌, Bool, true, false, cond, ◌&&◌, List, [], ◌∷◌, ◌++◌, length, take, Some, refl, sym, ap, ◌∙◌, arith, true≢false, length-take}
use Rattle.std.specs.List.{slice_get, count_by}
use Rattle.std.proofs.lemmas.Bool.{and_parts}
use Rattle.std.proofs.lemmas.List.Sums.{sum_by-append, sum_by-cons}
use Rattle.cg_name.specs.Name.{same_name}
use Rattle.cg_name.specs.Path.{Path, is_root, is_parent}
use Rattle.cg_name.proofs.Packing.{same_name-is, same_name-itself}
use Rattle.cg_path_tree.specs.Nodes.{parent_path}

root_is : (q : Path) → is_root q ≡ true → q ≡ []
root_is [] h = refl
root_is (m ∷ q) h = absurd (true≢false (sym h))

-- the path one name shorter of a path with a name before it
longer : {A : Type 0} (n m : A) (q : List A) → take (length (n ∷ m ∷ q) - 1) (n ∷ m ∷ q) ≡ n ∷ take (length (m ∷ q) - 1) (m ∷ q)
longer n m q = let next : length (n ∷ m ∷ q) - 1 ≡ suc (length (m ∷ q) - 1) = omega arith in ap (λ k. take k (n ∷ m ∷ q)) next

-- each path but the root's is right below the one that is one name shorter
pub below_parent : (q : Path) → is_root q ≡ false → is_parent (parent_path q) q ≡ true
below_parent [] h = absurd (true≢false h)
below_parent (n ∷ []) h = refl
below_parent (n ∷ m ∷ q) h = ap (λ p. is_parent p (n ∷ m ∷ q)) (longer n m q) ∙ (λ i. same_name-itself n i && below_parent (m ∷ q) refl i)

-- and below no other
pub parent_is : (p q : Path) → is_parent p q ≡ true → p ≡ parent_path q
parent_is p [] h = absurd (true≢false (sym h))
parent_is [] (m ∷ []) h = refl
parent_is [] (m ∷ n ∷ q) h = absurd (true≢false (sym h))
parent_is (n ∷ p) (m ∷ []) h = absurd (none p (and_parts (same_name n m) (is_parent p []) h).1)
  where
    none : (p : Path) → is_parent p [] ≡ true → ⊥
    none p e = true≢false (sym e)
parent_is (n ∷ p) (m ∷ l ∷ q) h =
    let both = and_parts (same_name n m) (is_parent p (l ∷ q)) h in
    (λ i. same_name-is n m both.0 i ∷ parent_is p (l ∷ q) both.1 i) ∙ sym (longer m l q)

pub not_root : (p q : Path) → is_parent p q ≡ true → is_root q ≡ false
not_root p [] h = absurd (true≢false (sym h))
not_root p (m ∷ q) h = refl

pub length-parent : (q : Path) → is_root q ≡ false → suc (length (parent_path q)) ≡ length q
length-parent [] h = absurd (true≢false h)
length-parent (n ∷ q) h = omega (arith, length-take (length (n ∷ q) - 1) (n ∷ q))

pub not_own_child : (p : Path) → is_parent p p ≡ false
not_own_child p = by (is_parent p p) refl
  where
    by : (b : Bool) → is_parent p p ≡ b → b ≡ false
    by true e = absurd (omega (arith, length-parent p (not_root p p e), ap length (parent_is p p e)))
    by false e = refl

pub no_child : (p q : Path) → p ≢ parent_path q → is_parent p q ≡ false
no_child p q ne = by (is_parent p q) refl
  where
    by : (b : Bool) → is_parent p q ≡ b → b ≡ false
    by true e = absurd (ne (parent_is p q e))
    by false e = refl

pub root_no_child : (p q : Path) → is_root q ≡ true → is_parent p q ≡ false
root_no_child p [] h = refl
root_no_child p (m ∷ q) h = absurd (true≢false (sym h))

-- ---- counts

module _ {A : Type 0} (test : A → Bool) where
  pub count-push : (xs : List A) (x : A) → count_by test (xs ++ x ∷ []) ≡ count_by test xs + cond (test x) 1 0
  count-push xs x = omega (arith, sum_by-append (λ y. cond (test y) 1 0) xs (x ∷ []), sum_by-cons (λ y. cond (test y) 1 0) x [])

  pub count-cons : (x : A) (xs : List A) → count_by test (x ∷ xs) ≡ cond (test x) 1 0 + count_by test xs
  count-cons x xs = sum_by-cons (λ y. cond (test y) 1 0) x xs

  pub count_none : (xs : List A) → ((j : ℕ) (x : A) → slice_get xs j ≡ Some x → test x ≡ false) → count_by test xs ≡ 0
  count_none [] h = refl
  count_none (x ∷ xs) h = count-cons x xs ∙ (λ i. cond (h 0 x refl i) 1 0 + count_none xs (λ j. h (suc j)) i)

  pub none_counted : (xs : List A) → count_by test xs ≡ 0 → (j : ℕ) (x : A) → slice_get xs j ≡ Some x → test x ≡ false
  none_counted [] h j x e = absurd (cc)
  none_counted (y ∷ ys) h zero x e = first (test y) refl
    where
      same : y ≡ x
      same = cc

      first : (b : Bool) → test y ≡ b → test x ≡ false
      first true t = absurd (omega (arith, count-cons y ys, ap {B = ℕ} (λ b. cond b 1 0) t))
      first false t = ap test (sym same) ∙ t
  none_counted (y ∷ ys) h (suc j) x e = none_counted ys (omega (arith, count-cons y ys)) j x e
