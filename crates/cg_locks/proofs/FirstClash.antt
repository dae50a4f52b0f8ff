-- The first mark of one footprint that clashes with another.
use Rattle.std.proofs.Common.{◌≡◌, ℕ, ◌||◌, ◌<◌, nat_eq, Bool, true, false, cond, List, [], ◌∷◌, ◌++◌, map, take, Option, Some, None, is_some, option_map, refl, sym, ap, subst, ◌∙◌, arith}
use Rattle.std.proofs.lemmas.List.Folds.{find-append, list_any-append}
use Rattle.std.specs.Cmp.Lexicographic.{pointwise}
use Rattle.std.specs.List.{find, list_any}
use Rattle.std.specs.Option.{option_or}
use Rattle.cg_name.proofs.Packing.{names_in-packed_text, path-take, start-packed_text}
use Rattle.cg_name.proofs.PackedOrder.{packed_ties}
use Rattle.cg_name.specs.Packed.{packed_text}
use Rattle.cg_name.specs.Path.{Path, same_path, IsPath}
use Rattle.cg_model.specs.Footprint.{Mark, Count, clash, clashes}
use Rattle.cg_locks.specs.Clashing.{clashes_any, first_clashing}
use Rattle.cg_locks.specs.Counts.{counts_at, prefixes, AreDescending}
use Rattle.cg_locks.specs.Meaning.{counts_of, mark_of}
use Rattle.cg_locks.specs.declared.footprint.Counted.{Counted}
use Rattle.cg_locks.specs.declared.mark.Mark as rust
use Rattle.cg_locks.specs.declared.mark.Mark.TheVariants as marks
use Rattle.cg_locks.proofs.Counting.{prefixes_from, still_descending}
use Rattle.cg_locks.proofs.Marks.{compared}

-- ---- paths, by the texts of their first names

pub same_prefix : (p q : Path) (m n : ℕ) → IsPath p → IsPath q → pointwise nat_eq (packed_text (take m p)) (packed_text (take n q)) ≡ same_path (take m p) (take n q)
same_prefix p q m n v w =
    packed_ties (packed_text (take m p)) (packed_text (take n q)) (start-packed_text (take m p)) (start-packed_text (take n q))
    ∙ (λ i. pointwise (pointwise nat_eq) (names_in-packed_text (take m p) (path-take p m v) i) (names_in-packed_text (take n q) (path-take q n w) i))
    ∙ compared (take m p) (take n q)

-- ---- marks of the code

any-map : {A B : Type 0} (f : A → B) (test : B → Bool) (xs : List A) → list_any (λ x. test (f x)) xs ≡ list_any test (map f xs)
any-map f test [] = refl
any-map f test (x ∷ xs) = ap (λ b. test (f x) || b) (any-map f test xs)

found_step : {A B : Type 0} (f : A → B) (b : Bool) (x : A) (o : Option A) (r : Option B) → option_map f o ≡ r → option_map f (cond b (Some x) o) ≡ cond b (Some (f x)) r
found_step f true x o r e = refl
found_step f false x o r e = e

find-map : {A B : Type 0} (f : A → B) (here : A → Bool) (test : B → Bool) → ((x : A) → here x ≡ test (f x)) → (xs : List A) → option_map f (find here xs) ≡ find test (map f xs)
find-map f here test same [] = refl
find-map f here test same (x ∷ xs) =
    ap (λ b. option_map f (cond b (Some x) (find here xs))) (same x) ∙ found_step f (test (f x)) x (find here xs) (find test (map f xs)) (find-map f here test same xs)

-- ---- the two kinds of parts never clash with each other

no_count : (m : rust.Mark) (q : Path) → clash (mark_of m) (Count q) ≡ false
no_count (marks.Changed p) q = refl
no_count (marks.Read p) q = refl
no_count (marks.Stays p) q = refl
no_count (marks.Process k) q = refl

no_plain : (p : Path) (m : rust.Mark) → clash (Count p) (mark_of m) ≡ false
no_plain p (marks.Changed q) = refl
no_plain p (marks.Read q) = refl
no_plain p (marks.Stays q) = refl
no_plain p (marks.Process k) = refl

or_false : (a b : Bool) → a ≡ false → b ≡ false → (a || b) ≡ false
or_false a b e f = (λ i. e i || f i)

or_none : (a b : Bool) → b ≡ false → (a || b) ≡ a
or_none true b e = refl
or_none false b e = e

pub no_counts : (m : rust.Mark) (qs : List Path) → clashes_any (counts_at qs) (mark_of m) ≡ false
no_counts m [] = refl
no_counts m (q ∷ qs) =
    list_any-append (clash (mark_of m)) (counts_at qs) (Count q ∷ [])
    ∙ or_false (list_any (clash (mark_of m)) (counts_at qs)) (list_any (clash (mark_of m)) (Count q ∷ [])) (no_counts m qs) (or_false (clash (mark_of m) (Count q)) false (no_count m q) refl)

no_plains : (p : Path) (ms : List rust.Mark) → clashes_any (map mark_of ms) (Count p) ≡ false
no_plains p [] = refl
no_plains p (m ∷ ms) = or_false (clash (Count p) (mark_of m)) (clashes_any (map mark_of ms) (Count p)) (no_plain p m) (no_plains p ms)

-- ---- all marks, part by part

some_step : {A : Type 0} (b : Bool) (x : A) (o : Option A) (c : Bool) → is_some o ≡ c → is_some (cond b (Some x) o) ≡ (b || c)
some_step true x o c e = refl
some_step false x o c e = e

some_of : {A : Type 0} (test : A → Bool) (xs : List A) → is_some (find test xs) ≡ list_any test xs
some_of test [] = refl
some_of test (x ∷ xs) = some_step (test x) x (find test xs) (list_any test xs) (some_of test xs)

there : {A : Type 0} (f : A → Mark) (o : Option A) → is_some o ≡ is_some (option_map f o)
there f None = refl
there f (Some x) = refl

pub some_clashes : {A : Type 0} (f : A → Mark) (r : Option A) (fs gs : List Mark) → option_map f r ≡ first_clashing fs gs → is_some r ≡ clashes fs gs
some_clashes f r fs gs e = there f r ∙ ap is_some e ∙ some_of (clashes_any gs) fs

-- a mark of the code clashes with one of the others, if it does, among the marks of the code
plain_here : (os : List rust.Mark) (qs : List Path) (m : rust.Mark) → list_any (λ o. clash (mark_of m) (mark_of o)) os ≡ clashes_any (map mark_of os ++ counts_at qs) (mark_of m)
plain_here os qs m =
    any-map mark_of (clash (mark_of m)) os
    ∙ sym (list_any-append (clash (mark_of m)) (map mark_of os) (counts_at qs) ∙ or_none (clashes_any (map mark_of os) (mark_of m)) (clashes_any (counts_at qs) (mark_of m)) (no_counts m qs))

-- and one on a number of descendants among those
count_here : (os : List rust.Mark) (qs : List Path) (p : Path) → clashes_any (map mark_of os ++ counts_at qs) (Count p) ≡ clashes_any (counts_at qs) (Count p)
count_here os qs p =
    list_any-append (clash (Count p)) (map mark_of os) (counts_at qs) ∙ ap (λ b. b || clashes_any (counts_at qs) (Count p)) (no_plains p os)

counts_here : (os : List rust.Mark) (qs ps : List Path) → first_clashing (counts_at ps) (map mark_of os ++ counts_at qs) ≡ first_clashing (counts_at ps) (counts_at qs)
counts_here os qs [] = refl
counts_here os qs (p ∷ ps) =
    find-append (clashes_any (map mark_of os ++ counts_at qs)) (counts_at ps) (Count p ∷ [])
    ∙ (λ i. option_or (counts_here os qs ps i) (cond (count_here os qs p i) (Some (Count p)) None))
    ∙ sym (find-append (clashes_any (counts_at qs)) (counts_at ps) (Count p ∷ []))

abbrev paths_of : Option Counted → List Path
paths_of None = []
paths_of (Some c) = prefixes c.path.now c.depths.now

at_paths : (o : Option Counted) → counts_of o ≡ counts_at (paths_of o)
at_paths None = refl
at_paths (Some c) = refl

first_of_parts : (ms os : List rust.Mark) (c d : Option Counted) (fs gs : List Mark) → map mark_of ms ++ counts_of c ≡ fs → map mark_of os ++ counts_of d ≡ gs
    → first_clashing fs gs ≡ option_or (option_map mark_of (find (λ m. list_any (λ o. clash (mark_of m) (mark_of o)) os) ms)) (first_clashing (counts_of c) (counts_of d))
first_of_parts ms os c d fs gs f g =
    (λ i. first_clashing (sym f i) (sym g i))
    ∙ (λ i. first_clashing (map mark_of ms ++ at_paths c i) (map mark_of os ++ at_paths d i))
    ∙ find-append (clashes_any (map mark_of os ++ counts_at (paths_of d))) (map mark_of ms) (counts_at (paths_of c))
    ∙ (λ i. option_or (sym (find-map mark_of (λ m. list_any (λ o. clash (mark_of m) (mark_of o)) os) (clashes_any (map mark_of os ++ counts_at (paths_of d))) (plain_here os (paths_of d)) ms) i) (counts_here os (paths_of d) (paths_of c) i))
    ∙ (λ i. option_or (option_map mark_of (find (λ m. list_any (λ o. clash (mark_of m) (mark_of o)) os) ms)) (first_clashing (sym (at_paths c) i) (sym (at_paths d) i)))

-- as the code finds it
pub first_is : (ms os : List rust.Mark) (c d : Option Counted) (fs gs : List Mark) → map mark_of ms ++ counts_of c ≡ fs → map mark_of os ++ counts_of d ≡ gs
    → (r : Option rust.Mark) (s : Option Mark) → r ≡ find (λ m. list_any (λ o. clash (mark_of m) (mark_of o)) os) ms → s ≡ first_clashing (counts_of c) (counts_of d)
    → option_or (option_map mark_of r) s ≡ first_clashing fs gs
first_is ms os c d fs gs f g r s plain counted = (λ i. option_or (option_map mark_of (plain i)) (counted i)) ∙ sym (first_of_parts ms os c d fs gs f g)

-- ---- the numbers of descendants, one after another

pub depth_step : (test : Mark → Bool) (p : Path) (d : ℕ) (ds all : List ℕ) → all ≡ d ∷ ds → AreDescending d ds
    → find test (counts_at (prefixes p all)) ≡ option_or (find test (counts_at (prefixes p ds))) (cond (test (Count (take d p))) (Some (Count (take d p))) None)
depth_step test p d ds all is h =
    ap (λ l. find test (counts_at (prefixes p l))) is
    ∙ find-append test (counts_at (prefixes (take d p) ds)) (Count (take d p) ∷ [])
    ∙ ap (λ qs. option_or (find test (counts_at qs)) (cond (test (Count (take d p))) (Some (Count (take d p))) None)) (prefixes_from p d ds h)

-- where one of the others clashes, the first of these does
pub stands_first : (p : Path) (d : ℕ) (ds all : List ℕ) (g : List Mark) (m : Mark) → all ≡ d ∷ ds → AreDescending d ds → Some m ≡ first_clashing (counts_at (prefixes p ds)) g → Some m ≡ first_clashing (counts_at (prefixes p all)) g
stands_first p d ds all g m is h e =
    sym (depth_step (clashes_any g) p d ds all is h ∙ ap (λ o. option_or o (cond (clashes_any g (Count (take d p))) (Some (Count (take d p))) None)) (sym e))

-- else that of the most names, if it does
pub comes_last : (p : Path) (d : ℕ) (ds all : List ℕ) (g : List Mark) (b : Bool) → all ≡ d ∷ ds → AreDescending d ds → None ≡ first_clashing (counts_at (prefixes p ds)) g → b ≡ clashes_any g (Count (take d p))
    → cond b (Some (Count (take d p))) None ≡ first_clashing (counts_at (prefixes p all)) g
comes_last p d ds all g b is h none e =
    sym (depth_step (clashes_any g) p d ds all is h ∙ (λ i. option_or (sym none i) (cond (sym e i) (Some (Count (take d p))) None)))

pub nothing_clashes : (fs : List Mark) → first_clashing fs [] ≡ None
nothing_clashes [] = refl
nothing_clashes (m ∷ fs) = nothing_clashes fs

-- a shorter list descends from the same path
pub descending_on : (n d : ℕ) (ds all : List ℕ) → all ≡ d ∷ ds → AreDescending n all → AreDescending d ds × AreDescending n ds
descending_on n d ds all is h =
    let parts : (d < n) × AreDescending d ds = subst (AreDescending n) is h in
    let low : d < n = parts.0 in
    (parts.1, still_descending d n ds (omega (arith, low)) parts.1)

pub counted_step : (q x : Path) (e : ℕ) (es all : List ℕ) → all ≡ e ∷ es → AreDescending e es
    → clashes_any (counts_at (prefixes q all)) (Count x) ≡ (clashes_any (counts_at (prefixes q es)) (Count x) || same_path x (take e q))
counted_step q x e es all is h =
    ap (λ l. clashes_any (counts_at (prefixes q l)) (Count x)) is
    ∙ list_any-append (clash (Count x)) (counts_at (prefixes (take e q) es)) (Count (take e q) ∷ [])
    ∙ ap (λ b. clashes_any (counts_at (prefixes (take e q) es)) (Count x) || b) (or_none (same_path x (take e q)) false refl)
    ∙ ap (λ qs. clashes_any (counts_at qs) (Count x) || same_path x (take e q)) (prefixes_from q e es h)
