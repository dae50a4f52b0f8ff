-- What is packed, and what is unpacked from it.
use Rattle.std.proofs.Common.{◌≡◌, ℕ, ◌+◌, ◌<◌, ◌≤◌, ◌==◌, Bool, true, false, cond, List, [], ◌∷◌, ◌++◌, Some, None, length, take, drop, get_or, refl, sym, ap, subst, ◌∙◌, arith, add-one, zero, suc, length-append, take-append-drop, drop-cons, append_assoc, length-take, ◌&&◌}
use Rattle.std.specs.List.{AllByRecursion, count_by, slice_get}
use Rattle.std.specs.Cmp.Lexicographic.{texts_ties, bytes_decides}
use Rattle.std.proofs.lemmas.List.{take_all, append_cancel_left}
use Rattle.std.proofs.lemmas.List.Sums.{sum_by-cons}
use Rattle.std.proofs.lemmas.Option.{slice_get_past}
use Rattle.std.proofs.Math.Seq.{take-append_seam}
use Rattle.std.proofs.lemmas.Bool.{and_parts, eqb-true, false≢true}
use borrow.Author.Tests.{ne_eqb}
use Rattle.cg_name.specs.Name.{Name, IsName, IsNameByte, same_name}
use Rattle.cg_name.specs.Path.{Path, IsPath, is_prefix}
use Rattle.cg_name.specs.Packed.{packed_text, names_in, first_name, BeginsName, IsPacked}

-- the first part and the packed rest are the whole
whole : (b : ℕ) (t : Bool) → (b == 0) ≡ t → (n : Name) (p : Path) (bs : List ℕ) → n ++ packed_text p ≡ bs → cond t [] (b ∷ n) ++ packed_text (cond t (n ∷ p) p) ≡ b ∷ bs
whole b true e n p bs h = let zero : b ≡ 0 = eqb-true b 0 e in cc
whole b false e n p bs h = ap (λ z. b ∷ z) h

first_name_and_rest : (bs : List ℕ) → first_name bs ++ packed_text (names_in bs) ≡ bs
first_name_and_rest [] = refl
first_name_and_rest (b ∷ bs) = whole b (b == 0) refl (first_name bs) (names_in bs) bs (first_name_and_rest bs)

pub packed_text-names_in : (bs : List ℕ) → BeginsName bs → packed_text (names_in bs) ≡ bs
packed_text-names_in [] h = refl
packed_text-names_in (b ∷ bs) h = rw h (ap (λ z. 0 ∷ z) (first_name_and_rest bs))

-- a text that is cut where a name begins
first_name-append : (xs ys : List ℕ) → BeginsName ys → first_name (xs ++ ys) ≡ first_name xs
first_name-append [] [] h = refl
first_name-append [] (y ∷ ys) h = rw h refl
first_name-append (x ∷ xs) ys h = ap (λ z. cond (x == 0) [] (x ∷ z)) (first_name-append xs ys h)

parts : (t : Bool) (n m : Name) (p q r : Path) → n ≡ m → p ≡ q ++ r → cond t (n ∷ p) p ≡ cond t (m ∷ q) q ++ r
parts true n m p q r e h = λ i. e i ∷ h i
parts false n m p q r e h = h

pub names_in-append : (xs ys : List ℕ) → BeginsName ys → names_in (xs ++ ys) ≡ names_in xs ++ names_in ys
names_in-append [] ys h = refl
names_in-append (x ∷ xs) ys h = parts (x == 0) _ _ _ _ _ (first_name-append xs ys h) (names_in-append xs ys h)

-- ---- a text's names are as many as its zero bytes

abbrev pub is_zero : ℕ → Bool
is_zero b = b == 0

counted : (t : Bool) (n : Name) (p : Path) (k : ℕ) → length p ≡ k → length (cond t (n ∷ p) p) ≡ cond t 1 0 + k
counted true n p k e = omega arith
counted false n p k e = omega arith

pub length-names_in : (bs : List ℕ) → length (names_in bs) ≡ count_by is_zero bs
length-names_in [] = refl
length-names_in (b ∷ bs) = counted (b == 0) (first_name bs) (names_in bs) (count_by is_zero bs) (length-names_in bs) ∙ sym (sum_by-cons (λ x. cond (is_zero x) 1 0) b bs)

-- ---- where a name begins

pub start-nil : BeginsName []
start-nil = tt

pub start_at : (bs : List ℕ) (i : ℕ) → i < length bs → get_or bs i 0 ≡ 0 → BeginsName (drop i bs)
start_at bs i low e = subst BeginsName (sym (drop-cons bs i 0 low)) e

pub starts_at : (bs : List ℕ) (i : ℕ) → i < length bs → BeginsName (drop i bs) → get_or bs i 0 ≡ 0
starts_at bs i low h = subst BeginsName (drop-cons bs i 0 low) h

pub start-take : (bs : List ℕ) (i : ℕ) → BeginsName bs → BeginsName (take i bs)
start-take [] zero h = tt
start-take [] (suc i) h = tt
start-take (b ∷ bs) zero h = tt
start-take (b ∷ bs) (suc i) h = h

pub start-append : (xs ys : List ℕ) → BeginsName xs → BeginsName ys → BeginsName (xs ++ ys)
start-append [] ys h k = k
start-append (x ∷ xs) ys h k = h

pub start-packed_text : (p : Path) → BeginsName (packed_text p)
start-packed_text [] = tt
start-packed_text (n ∷ p) = refl

pub names_in-cut : (bs : List ℕ) (i : ℕ) → BeginsName (drop i bs) → names_in bs ≡ names_in (take i bs) ++ names_in (drop i bs)
names_in-cut bs i h = ap names_in (sym (take-append-drop i bs)) ∙ names_in-append (take i bs) (drop i bs) h

first_so : (p q r : Path) (k : ℕ) → p ≡ q ++ r → length q ≡ k → q ≡ take k p
first_so p q r k e h = sym (ap (λ z. take k z) e ∙ ap (λ j. take j (q ++ r)) (sym h) ∙ take-append_seam q r)

pub names_before : (bs : List ℕ) (i k : ℕ) → BeginsName (drop i bs) → count_by is_zero (take i bs) ≡ k → names_in (take i bs) ≡ take k (names_in bs)
names_before bs i k h e = first_so (names_in bs) (names_in (take i bs)) (names_in (drop i bs)) k (names_in-cut bs i h) (length-names_in (take i bs) ∙ e)

pub all_names : (bs : List ℕ) (k : ℕ) → count_by is_zero bs ≤ k → names_in bs ≡ take k (names_in bs)
all_names bs k h = sym (take_all k (names_in bs) (omega (arith, length-names_in bs)))

-- ---- the name at a place

at_seam : (p : Path) (n : Name) (q : Path) → slice_get (p ++ n ∷ q) (length p) ≡ Some n
at_seam [] n q = refl
at_seam (m ∷ p) n q = at_seam p n q

seam_so : (p q : Path) (n : Name) (r : Path) (k : ℕ) → p ≡ q ++ n ∷ r → q ≡ take k p → slice_get p k ≡ Some n
seam_so p q n r k e h =
    let len : length q ≡ k = omega (arith, ap length e, ap length h, length-append q (n ∷ r), length-take k p) in
    ap (λ z. slice_get z k) e ∙ ap (λ j. slice_get (q ++ n ∷ r) j) (sym len) ∙ at_seam q n r

pub name_here : (bs : List ℕ) (i k : ℕ) → i < length bs → BeginsName (drop i bs) → names_in (take i bs) ≡ take k (names_in bs) → slice_get (names_in bs) k ≡ Some (first_name (drop (i + 1) bs))
name_here bs i k low h e =
    let one : drop i bs ≡ get_or bs i 0 ∷ drop (suc i) bs = drop-cons bs i 0 low in
    let zeroed : drop i bs ≡ 0 ∷ drop (suc i) bs = one ∙ ap (λ z. z ∷ drop (suc i) bs) (starts_at bs i low h) in
    let cut : names_in bs ≡ names_in (take i bs) ++ names_in (0 ∷ drop (suc i) bs) = names_in-cut bs i h ∙ ap (λ z. names_in (take i bs) ++ names_in z) zeroed in
    rw add-one (seam_so (names_in bs) (names_in (take i bs)) (first_name (drop (suc i) bs)) (names_in (drop (suc i) bs)) k cut e)

pub no_name_here : (bs : List ℕ) (k : ℕ) → names_in bs ≡ take k (names_in bs) → slice_get (names_in bs) k ≡ None
no_name_here bs k e = slice_get_past (names_in bs) k (omega (arith, ap length e, length-take k (names_in bs)))

-- ---- paths

some_names : (p : Path) (k : ℕ) → AllByRecursion IsName p → AllByRecursion IsName (take k p)
some_names [] zero h = tt
some_names [] (suc k) h = tt
some_names (n ∷ p) zero h = tt
some_names (n ∷ p) (suc k) h = (h.0, some_names p k h.1)

pub path-take : (p : Path) (k : ℕ) → IsPath p → IsPath (take k p)
path-take p k h = record { names = some_names p k h.names; depth = omega (arith, length-take k p, h.depth) }

names_push : (p : Path) (n : Name) → AllByRecursion IsName p → IsName n → AllByRecursion IsName (p ++ n ∷ [])
names_push [] n h k = (k, tt)
names_push (m ∷ p) n h k = (h.0, names_push p n h.1 k)

pub path-push : (p : Path) (n : Name) → IsPath p → length p < 64 → IsName n → IsPath (p ++ n ∷ [])
path-push p n h low k = record { names = names_push p n h.names k; depth = omega (arith, length-append p (n ∷ [])) }

pub name_within : (p : Path) (k : ℕ) (n : Name) → AllByRecursion IsName p → slice_get p k ≡ Some n → IsName n
name_within [] k n h e = cc
name_within (m ∷ p) zero n h e = let same : m ≡ n = cc in subst IsName same h.0
name_within (m ∷ p) (suc k) n h e = name_within p k n h.1 e

-- a name's bytes are one part
one_name : (n : Name) → AllByRecursion IsNameByte n → (first_name n ≡ n) × (names_in n ≡ [])
one_name [] h = (refl, refl)
one_name (b ∷ n) h =
    let r = one_name n h.1 in
    rw (ne_eqb b 0 h.0.0) (ap (λ z. b ∷ z) r.0, r.1)

names_back : (p : Path) → AllByRecursion IsName p → names_in (packed_text p) ≡ p
names_back [] h = refl
names_back (n ∷ p) h =
    let r = one_name n h.0.bytes in
    let first : first_name (n ++ packed_text p) ≡ n = first_name-append n (packed_text p) (start-packed_text p) ∙ r.0 in
    let rest : names_in (n ++ packed_text p) ≡ p = names_in-append n (packed_text p) (start-packed_text p) ∙ ap (λ z. z ++ names_in (packed_text p)) r.1 ∙ names_back p h.1 in
    λ i. first i ∷ rest i

pub names_in-packed_text : (p : Path) → IsPath p → names_in (packed_text p) ≡ p
names_in-packed_text p h = names_back p h.names

-- the first byte tells
pub start_from_first : (bs : List ℕ) → get_or bs 0 0 ≡ 0 → BeginsName bs
start_from_first [] e = tt
start_from_first (b ∷ bs) e = e

pub first_from_start : (bs : List ℕ) → BeginsName bs → get_or bs 0 0 ≡ 0
first_from_start [] h = refl
first_from_start (b ∷ bs) h = h

pub names_in-push : (bs : List ℕ) (n : Name) → IsName n → names_in (bs ++ 0 ∷ n) ≡ names_in bs ++ n ∷ []
names_in-push bs n h =
    let r = one_name n h.bytes in
    names_in-append bs (0 ∷ n) refl ∙ (λ i. names_in bs ++ r.0 i ∷ r.1 i)

pub packed-take : (bs : List ℕ) (i k : ℕ) → IsPacked bs → names_in (take i bs) ≡ take k (names_in bs) → IsPacked (take i bs)
packed-take bs i k h e = record { start = start-take bs i h.start; path = subst IsPath (sym e) (path-take (names_in bs) k h.path) }

pub packed_text-take : (bs : List ℕ) (i k : ℕ) → BeginsName bs → names_in (take i bs) ≡ take k (names_in bs) → take i bs ≡ packed_text (take k (names_in bs))
packed_text-take bs i k h e = sym (packed_text-names_in (take i bs) (start-take bs i h)) ∙ ap packed_text e

pub packed-push : (bs : List ℕ) (n : Name) → IsPacked bs → length (names_in bs) < 64 → IsName n → IsPacked (bs ++ 0 ∷ n)
packed-push bs n h low k = record { start = start-append bs (0 ∷ n) h.start refl; path = subst IsPath (sym (names_in-push bs n k)) (path-push (names_in bs) n h.path low k) }

-- ---- prefixes

packed_text-append : (p q : Path) → packed_text (p ++ q) ≡ packed_text p ++ packed_text q
packed_text-append [] q = refl
packed_text-append (n ∷ p) q = ap (λ z. 0 ∷ (n ++ z)) (packed_text-append p q) ∙ ap (λ z. 0 ∷ z) (sym (append_assoc n (packed_text p) (packed_text q)))

pub same_name-is : (n m : Name) → same_name n m ≡ true → n ≡ m
unfolding same_name
same_name-is n m h = (bytes_decides n m).0 (texts_ties n m ∙ h)

pub same_name-itself : (n : Name) → same_name n n ≡ true
unfolding same_name
same_name-itself n = sym (texts_ties n n) ∙ (bytes_decides n n).1 refl

pub prefix-append : (p q : Path) → is_prefix p (p ++ q) ≡ true
prefix-append [] q = refl
prefix-append (n ∷ p) q = λ i. same_name-itself n i && prefix-append p q i

pub prefix_rest : (p q : Path) → is_prefix p q ≡ true → (r : Path) × (q ≡ p ++ r)
prefix_rest [] q h = (q, refl)
prefix_rest (n ∷ p) [] h = absurd (false≢true h)
prefix_rest (n ∷ p) (m ∷ q) h =
    let both = and_parts (same_name n m) (is_prefix p q) h in
    let rest = prefix_rest p q both.1 in
    let e : n ≡ m = same_name-is n m both.0 in
    (rest.0, λ i. sym e i ∷ rest.1 i)

-- a text that begins with the text of a path
pub prefix_bytes : (xs ys : List ℕ) → BeginsName xs → BeginsName ys → is_prefix (names_in xs) (names_in ys) ≡ true → (r : Path) × (ys ≡ xs ++ packed_text r)
prefix_bytes xs ys h k e =
    let rest = prefix_rest (names_in xs) (names_in ys) e in
    (rest.0, sym (packed_text-names_in ys k) ∙ ap packed_text rest.1 ∙ packed_text-append (names_in xs) rest.0 ∙ ap (λ z. z ++ packed_text rest.0) (packed_text-names_in xs h))

pub prefix_by_start : (xs ys zs : List ℕ) (d : Bool) → BeginsName xs → BeginsName ys → ys ≡ xs ++ zs → (d ≡ true → BeginsName zs) → (BeginsName zs → d ≡ true) → d ≡ is_prefix (names_in xs) (names_in ys)
prefix_by_start xs ys zs true h k e f g = sym (ap (λ z. is_prefix (names_in xs) (names_in z)) e ∙ ap (is_prefix (names_in xs)) (names_in-append xs zs (f refl)) ∙ prefix-append (names_in xs) (names_in zs))
prefix_by_start xs ys zs false h k e f g = by (is_prefix (names_in xs) (names_in ys)) refl
  where
    by : (b : Bool) → is_prefix (names_in xs) (names_in ys) ≡ b → false ≡ b
    by true p =
        let rest = prefix_bytes xs ys h k p in
        let same : zs ≡ packed_text rest.0 = append_cancel_left xs zs (packed_text rest.0) (sym e ∙ rest.1) in
        (g (subst BeginsName (sym same) (start-packed_text rest.0)))
    by false p = refl

pub no_prefix : (xs ys : List ℕ) (d : Bool) → BeginsName xs → BeginsName ys → d ≡ false → ((rest : List ℕ) → ys ≡ xs ++ rest → d ≡ true) → d ≡ is_prefix (names_in xs) (names_in ys)
no_prefix xs ys d h k e f = by (is_prefix (names_in xs) (names_in ys)) refl
  where
    by : (b : Bool) → is_prefix (names_in xs) (names_in ys) ≡ b → d ≡ b
    by true p = let rest = prefix_bytes xs ys h k p in f (packed_text rest.0) rest.1
    by false p = e

-- ---- one name after another

short : (t : Bool) (b : ℕ) (n : Name) (k : ℕ) → length n ≤ k → length (cond t [] (b ∷ n)) ≤ k + 1
short true b n k h = omega arith
short false b n k h = omega arith

pub length-first_name : (bs : List ℕ) → length (first_name bs) ≤ length bs
length-first_name [] = omega arith
length-first_name (b ∷ bs) = rw (← add-one) (short (b == 0) b (first_name bs) (length bs) (length-first_name bs))

-- what stands behind the first name
behind : (b : ℕ) (t : Bool) → (b == 0) ≡ t → (bs : List ℕ) → names_in (drop (length (first_name bs)) bs) ≡ names_in bs → names_in (drop (length (cond t [] (b ∷ first_name bs))) (b ∷ bs)) ≡ names_in (b ∷ bs)
behind b true e bs h = refl
behind b false e bs h = rw e h

pub names_behind : (bs : List ℕ) → names_in (drop (length (first_name bs)) bs) ≡ names_in bs
names_behind [] = refl
names_behind (b ∷ bs) = behind b (b == 0) refl bs (names_behind bs)

begins : (b : ℕ) (t : Bool) → (b == 0) ≡ t → (bs : List ℕ) → BeginsName (drop (length (first_name bs)) bs) → BeginsName (drop (length (cond t [] (b ∷ first_name bs))) (b ∷ bs))
begins b true e bs h = eqb-true b 0 e
begins b false e bs h = h

pub start_behind : (bs : List ℕ) → BeginsName (drop (length (first_name bs)) bs)
start_behind [] = tt
start_behind (b ∷ bs) = begins b (b == 0) refl bs (start_behind bs)

-- a text with a name to come: that name, and the text of the others
pub next_name : (b : ℕ) (bs : List ℕ) → IsPacked (b ∷ bs) → (names_in (b ∷ bs) ≡ first_name bs ∷ names_in (drop (length (first_name bs)) bs)) × IsPacked (drop (length (first_name bs)) bs)
next_name b bs h =
    let first : names_in (b ∷ bs) ≡ first_name bs ∷ names_in bs = rw h.start refl in
    let path : IsPath (first_name bs ∷ names_in bs) = subst IsPath first h.path in
    let others : IsPath (names_in bs) = record { names = path.names.1; depth = omega (arith, path.depth) } in
    (first ∙ ap (λ p. first_name bs ∷ p) (sym (names_behind bs)), record { start = start_behind bs; path = subst IsPath (sym (names_behind bs)) others })
