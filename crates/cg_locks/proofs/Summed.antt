-- What is held at or below each path, and right below it, as the holders of one path change.
use Rattle.std.proofs.Common.{◌≡◌, ℕ, zero, suc, ◌+◌, ◌<◌, ◌≤◌, ◌&&◌, nat_lt, Bool, true, false, cond, not, T, List, [], ◌∷◌, length, Option, Some, None, Ordering, Less, Equal, Greater, refl, sym, ap, subst, ◌∙◌, arith}
use Rattle.std.proofs.lemmas.Bool.Decides.{nat_tests}
use Rattle.std.proofs.lemmas.List.Sums.{sum_by-cons}
use Rattle.std.specs.Cmp.{IsTotalOrder}
use Rattle.std.specs.FinMap.{IsAntisymmetric}
use Rattle.std.specs.FinMap.Entries.{find, put, where_key, below_all, is_sorted, is_sorted-put, by_order}
use Rattle.std.specs.List.{sum_by, AllByRecursion}
use Rattle.std.specs.Ordering.{eq_by_cmp, is_eq, is_lt}
use Rattle.cg_maps.specs.FiniteMap.{FiniteMap, entries, get, insert, retain, set_at, list-checked}
use Rattle.cg_maps.proofs.Maps as maps
use Rattle.cg_maps.proofs.Tests.{and_both, and_first, and_second, less}
use Rattle.cg_name.specs.Order.{path_cmp_total, path_cmp_exact}
use Rattle.cg_name.specs.Path.{Path, path_cmp, is_parent, is_prefix, same_path}
use Rattle.cg_model_laws.proofs.Paths.{same_path-is}
use Rattle.cg_locks.specs.Holders.{Counts, PathCounts, branches, held_at, held_below, held_by, held_if, one, IsSame}

-- ---- a sum over the entries of a map

equal : (r : Ordering) → is_eq r ≡ true → r ≡ Equal
equal Less p = absurd (subst T (sym p) tt)
equal Equal p = refl
equal Greater p = absurd (subst T (sym p) tt)

module _ {K X : Type 0} {R : K → K → Ordering} (o : IsTotalOrder R) (same : IsAntisymmetric R) where
  pub below_less : (x y : K) (es : List (K × X)) → R x y ≡ Less → T (below_all R y es) → T (below_all R x es)
  below_less x y [] p h = tt
  below_less x y (e ∷ es) p h = and_both _ _ (subst (λ r. T (is_lt r)) (sym (o.trans x y e.0 p (less _ (and_first _ _ h)))) tt) (below_less x y es p (and_second _ _ h))

  pub none_below : (k : K) (es : List (K × X)) → T (below_all R k es) → find R k es ≡ None
  none_below k [] h = refl
  none_below k (e ∷ es) h = ap (λ r. cond (is_eq r) (Some e.1) (find R k es)) (less _ (and_first _ _ h)) ∙ none_below k es (and_second _ _ h)

  module _ (f : K × X → ℕ) where
    -- what the key adds to the sum
    abbrev pub of_found : K → Option X → ℕ
    of_found k None = 0
    of_found k (Some x) = f (k, x)

    put_adds : (k : K) (v : X) (es : List (K × X)) → T (is_sorted R es) → sum_by f (put R k v es) + of_found k (find R k es) ≡ sum_by f es + f (k, v)
    put_adds k v [] h = let all : sum_by f ((k, v) ∷ []) ≡ f (k, v) + sum_by f [] = sum_by-cons f (k, v) [] in omega (arith, all)
    put_adds k v (e ∷ es) h =
        elim (R k e.0) as (λ r. R k e.0 ≡ r → sum_by f (by_order r ((k, v) ∷ e ∷ es) ((e.0, v) ∷ es) (e ∷ put R k v es)) + of_found k (cond (is_eq r) (Some e.1) (find R k es)) ≡ sum_by f (e ∷ es) + f (k, v)) [
          | Less ↦ λ p.
              let all : sum_by f ((k, v) ∷ e ∷ es) ≡ f (k, v) + sum_by f (e ∷ es) = sum_by-cons f (k, v) (e ∷ es) in
              let none : of_found k (find R k es) ≡ 0 = ap (of_found k) (none_below k es (below_less k e.0 es p (and_first _ _ h))) in
              omega (arith, all, none)
          | Equal ↦ λ p.
              let new : sum_by f ((e.0, v) ∷ es) ≡ f (e.0, v) + sum_by f es = sum_by-cons f (e.0, v) es in
              let old : sum_by f (e ∷ es) ≡ f e + sum_by f es = sum_by-cons f e es in
              let gone : f (k, e.1) ≡ f e = ap (λ x. f (x, e.1)) (same k e.0 p) in
              let come : f (k, v) ≡ f (e.0, v) = ap (λ x. f (x, v)) (same k e.0 p) in
              omega (arith, new, old, gone, come)
          | Greater ↦ λ p.
              let new : sum_by f (e ∷ put R k v es) ≡ f e + sum_by f (put R k v es) = sum_by-cons f e (put R k v es) in
              let old : sum_by f (e ∷ es) ≡ f e + sum_by f es = sum_by-cons f e es in
              let rest : sum_by f (put R k v es) + of_found k (find R k es) ≡ sum_by f es + f (k, v) = put_adds k v es (and_second _ _ h) in
              omega (arith, new, old, rest)
        ] refl

    abbrev without : K → List (K × X) → List (K × X)
    without k es = where_key R (λ x. not (eq_by_cmp R k x)) es

    taken_out : (k : K) (es : List (K × X)) → T (is_sorted R es) → sum_by f (without k es) + of_found k (find R k es) ≡ sum_by f es
    taken_out k [] h = refl
    taken_out k (e ∷ es) h =
        let old : sum_by f (e ∷ es) ≡ f e + sum_by f es = sum_by-cons f e es in
        let rest : sum_by f (without k es) + of_found k (find R k es) ≡ sum_by f es = taken_out k es (and_second _ _ h) in
        elim (eq_by_cmp R k e.0) as (λ b. eq_by_cmp R k e.0 ≡ b → sum_by f (cond (not b) (e ∷ without k es) (without k es)) + of_found k (cond b (Some e.1) (find R k es)) ≡ sum_by f (e ∷ es)) [
          | true ↦ λ p.
              let key : k ≡ e.0 = same k e.0 (equal _ p) in
              let gone : f (k, e.1) ≡ f e = ap (λ x. f (x, e.1)) key in
              let none : of_found k (find R k es) ≡ 0 = ap (of_found k) (none_below k es (subst (λ x. T (below_all R x es)) (sym key) (and_first _ _ h))) in
              omega (arith, old, rest, gone, none)
          | false ↦ λ p.
              let new : sum_by f (e ∷ without k es) ≡ f e + sum_by f (without k es) = sum_by-cons f e (without k es) in
              omega (arith, old, rest, new)
        ] refl

    -- what a key held goes, and what it is set to comes
    pub sum-set_at : (m : FiniteMap R X) (k : K) (w : Option X) → sum_by f (entries (set_at m k w)) + of_found k (get m k) ≡ sum_by f (entries m) + of_found k w
    unfolding set_at insert retain get entries
    sum-set_at m k None = let all : sum_by f (without k m.list) + of_found k (find R k m.list) ≡ sum_by f m.list = taken_out k m.list m.sorted in omega (arith, all)
    sum-set_at m k (Some v) = ap (λ es. sum_by f es + of_found k (find R k m.list)) (list-checked _ _ refl m (is_sorted-put R o k v m.list m.sorted)) ∙ put_adds k v m.list m.sorted

    -- where a sum isn't 0, an entry's term is not
    some_term : (P : K × X → Type 0) (es : List (K × X)) → AllByRecursion P es → 0 < sum_by f es → (e : K × X) × P e × (0 < f e)
    some_term P [] all low = absurd (omega (arith, low))
    some_term P (e ∷ es) all low =
        let sum : sum_by f (e ∷ es) ≡ f e + sum_by f es = sum_by-cons f e es in
        elim (f e) as (λ n. f e ≡ n → (e : K × X) × P e × (0 < f e)) [
          | zero ↦ λ none. some_term P es all.1 (omega (arith, low, sum, none))
          | suc n ↦ λ is. (e, all.0, omega (arith, is))
        ] refl

    pub some_entry : (m : FiniteMap R X) → 0 < sum_by f (entries m) → (e : K × X) × (get m e.0 ≡ Some e.1) × (0 < f e)
    some_entry m low = some_term (λ e. get m e.0 ≡ Some e.1) (entries m) (maps.each_entry o m) low

-- ---- the holders of a path changed

-- what the holders at p add at q
abbrev term : Path → ℕ → Path × Counts → ℕ
term q u e = cond (is_prefix q e.0) (held_by e.1 u) 0

pub neither : (b : Bool) → ◌≡◌ {A = ℕ} 0 (cond b 0 0)
neither true = refl
neither false = refl

term_if : (q p : Path) (u : ℕ) (o : Option Counts) → of_found path_cmp_total path_cmp_exact (term q u) p o ≡ cond (is_prefix q p) (held_if o u) 0
term_if q p u None = neither (is_prefix q p)
term_if q p u (Some C) = refl

pub at_set : (T : PathCounts) (p : Path) (o : Option Counts) (q : Path) (u : ℕ) → held_at (set_at T p o) q u ≡ cond (same_path q p) (held_if o u) (held_at T q u)
unfolding same_path
at_set T p o q u =
    ap (λ r. held_if r u) (maps.get-set_at path_cmp_total path_cmp_exact T p o q)
    ∙ elim (eq_by_cmp path_cmp q p) as (λ b. held_if (cond b o (get T q)) u ≡ cond b (held_if o u) (held_at T q u)) [ true ↦ refl | false ↦ refl ]

pub below_set : (T : PathCounts) (p : Path) (o : Option Counts) (q : Path) (u : ℕ)
    → held_below (set_at T p o) q u + cond (is_prefix q p) (held_at T p u) 0 ≡ held_below T q u + cond (is_prefix q p) (held_if o u) 0
unfolding held_below
below_set T p o q u =
    let all : held_below (set_at T p o) q u + of_found path_cmp_total path_cmp_exact (term q u) p (get T p) ≡ held_below T q u + of_found path_cmp_total path_cmp_exact (term q u) p o =
    sum-set_at path_cmp_total path_cmp_exact (term q u) T p o in
    let before = term_if q p u (get T p) in
    let after = term_if q p u o in
    omega (arith, all, before, after)

-- what the holders at p add to the branches at q
abbrev branch : Path → ℕ → Path × Counts → ℕ
branch q u e = cond (is_parent q e.0) (one (nat_lt 0 (held_by e.1 u))) 0

branch_if : (q p : Path) (u : ℕ) (o : Option Counts) → of_found path_cmp_total path_cmp_exact (branch q u) p o ≡ cond (is_parent q p) (one (nat_lt 0 (held_if o u))) 0
branch_if q p u None = neither (is_parent q p)
branch_if q p u (Some C) = refl

pub branches_set : (T : PathCounts) (p : Path) (o : Option Counts) (q : Path) (u : ℕ)
    → branches (set_at T p o) q u + cond (is_parent q p) (one (nat_lt 0 (held_at T p u))) 0 ≡ branches T q u + cond (is_parent q p) (one (nat_lt 0 (held_if o u))) 0
unfolding branches
branches_set T p o q u =
    let all : branches (set_at T p o) q u + of_found path_cmp_total path_cmp_exact (branch q u) p (get T p) ≡ branches T q u + of_found path_cmp_total path_cmp_exact (branch q u) p o =
    sum-set_at path_cmp_total path_cmp_exact (branch q u) T p o in
    let before = branch_if q p u (get T p) in
    let after = branch_if q p u o in
    omega (arith, all, before, after)

-- ---- one holding more or less at one path

pub within : (b c : Bool) → ◌≡◌ {A = ℕ} (cond b (one c) 0) (one (b && c))
within true c = refl
within false c = refl

module _ (T T' : PathCounts) (p : Path) (o : Option Counts) (set : T' ≡ set_at T p o) (x y u : ℕ) (change : held_if o u + x ≡ held_at T p u + y) where
  pub changed_at : (q : Path) → held_at T' q u + cond (same_path q p) x 0 ≡ held_at T q u + cond (same_path q p) y 0
  changed_at q =
      ap (λ M. held_at M q u + cond (same_path q p) x 0) set
      ∙ ap (λ n. n + cond (same_path q p) x 0) (at_set T p o q u)
      ∙ elim (same_path q p) as (λ b. same_path q p ≡ b → cond b (held_if o u) (held_at T q u) + cond b x 0 ≡ held_at T q u + cond b y 0) [
        | true ↦ λ is. change ∙ ap (λ r. held_at T r u + y) (sym (same_path-is q p is))
        | false ↦ λ is. refl
      ] refl

module _ (T T' : PathCounts) (p : Path) (o : Option Counts) (set : T' ≡ set_at T p o) where
  pub changed_branches : (q : Path) (u : ℕ) → branches T' q u + cond (is_parent q p) (one (nat_lt 0 (held_at T p u))) 0 ≡ branches T q u + cond (is_parent q p) (one (nat_lt 0 (held_if o u))) 0
  changed_branches q u = ap (λ M. branches M q u + cond (is_parent q p) (one (nat_lt 0 (held_at T p u))) 0) set ∙ branches_set T p o q u

  pub as_before : ((u : ℕ) → held_if o u ≡ held_at T p u) → IsSame T T'
  as_before same =
      let change : (u : ℕ) → held_if o u + 0 ≡ held_at T p u + 0 = λ u. ap (λ n. n + 0) (same u) in
      record {
        at = λ q u. let z = changed_at T T' p o set 0 0 u (change u) q in let a = neither (same_path q p) in omega (arith, z, a);
        branched = λ q u. let z = changed_branches q u in let a = ap (λ n. cond (is_parent q p) (one (nat_lt 0 n)) 0) (same u) in omega (arith, z, a);
      }

-- what is at a path is among what is at or below each path with which it begins
pub at_counts : (T : PathCounts) (q p : Path) (u : ℕ) → is_prefix q p ≡ true → held_at T p u ≤ held_below T q u
at_counts T q p u e =
    let all : held_below (set_at T p None) q u + held_at T p u ≡ held_below T q u + 0 =
    ap (λ b. held_below (set_at T p None) q u + cond b (held_at T p u) 0) (sym e) ∙ below_set T p None q u ∙ ap (λ b. held_below T q u + cond b 0 0) e in
    omega (arith, all)

-- and where something is held at or below a path, it is at a path that begins with it
found_term : (q : Path) (u : ℕ) (e : Path × Counts) → 0 < term q u e → (is_prefix q e.0 ≡ true) × (0 < held_by e.1 u)
found_term q u e low = elim (is_prefix q e.0) as (λ b. is_prefix q e.0 ≡ b → 0 < cond b (held_by e.1 u) 0 → (is_prefix q e.0 ≡ true) × (0 < held_by e.1 u)) [
  | true ↦ λ is z. (is, z)
  | false ↦ λ is z. absurd (omega (arith, z))
] refl low

pub found_below : (T : PathCounts) (q : Path) (u : ℕ) → 0 < held_below T q u → (p : Path) × (is_prefix q p ≡ true) × (0 < held_at T p u)
unfolding held_below
found_below T q u low =
    let w = some_entry path_cmp_total path_cmp_exact (term q u) T low in
    let both = found_term q u w.0 w.2 in
    (w.0.0, both.0, subst (λ r. 0 < held_if r u) (sym w.1) both.1)

-- ---- what is right below a path

-- where something is held right below, it is a branch
pub branch_counts : (T : PathCounts) (q p : Path) (u : ℕ) → is_parent q p ≡ true → 0 < held_at T p u → 0 < branches T q u
branch_counts T q p u child low =
    let some : nat_lt 0 (held_at T p u) ≡ true = grind (arith, nat_tests, low) in
    let all = branches_set T p None q u in
    let here : cond (is_parent q p) (one (nat_lt 0 (held_at T p u))) 0 ≡ 1 = (λ i. cond (child i) (one (some i)) 0) in
    let none : cond (is_parent q p) (one (nat_lt 0 (held_if None u))) 0 ≡ 0 = sym (neither (is_parent q p)) in
    omega (arith, all, here, none)

-- and where there is a branch, something is held right below
found_branch_term : (q : Path) (u : ℕ) (e : Path × Counts) → 0 < branch q u e → (is_parent q e.0 ≡ true) × (0 < held_by e.1 u)
found_branch_term q u e low = elim (is_parent q e.0) as (λ b. is_parent q e.0 ≡ b → 0 < cond b (one (nat_lt 0 (held_by e.1 u))) 0 → (is_parent q e.0 ≡ true) × (0 < held_by e.1 u)) [
  | true ↦ λ is z. (is, some (held_by e.1 u) z)
  | false ↦ λ is z. absurd (omega (arith, z))
] refl low
  where
    some : (n : ℕ) → 0 < one (nat_lt 0 n) → 0 < n
    some zero z = absurd (omega (arith, z))
    some (suc n) z = omega arith

pub found_branch : (T : PathCounts) (q : Path) (u : ℕ) → 0 < branches T q u → (p : Path) × (is_parent q p ≡ true) × (0 < held_at T p u)
unfolding branches
found_branch T q u low =
    let w = some_entry path_cmp_total path_cmp_exact (branch q u) T low in
    let both = found_branch_term q u w.0 w.2 in
    (w.0.0, both.0, subst (λ r. 0 < held_if r u) (sym w.1) both.1)

-- what is held at each path tells the branches: as long as there is one, it goes from both
same_number : (q : Path) (u n : ℕ) (T T' : PathCounts) → ((p : Path) → held_at T' p u ≡ held_at T p u) → branches T q u ≡ n → branches T' q u ≡ n
same_number q u zero T T' same none = by (branches T' q u) refl
  where
    by : (m : ℕ) → branches T' q u ≡ m → m ≡ 0
    by zero e = refl
    by (suc m) e =
        let w = found_branch T' q u (omega (arith, e)) in
        let there = w.2 in
        let is = same w.0 in
        let low = branch_counts T q w.0 u w.1 (omega (arith, there, is)) in
        absurd (omega (arith, low, none))
same_number q u (suc n) T T' same some =
    let w = found_branch T q u (omega (arith, some)) in
    let p = w.0 in
    let there : 0 < held_at T p u = w.2 in
    let there' : 0 < held_at T' p u = (let is = same p in omega (arith, there, is)) in
    let less : branches (set_at T p None) q u ≡ n = (let a = one_less T p w.1 there in omega (arith, a, some)) in
    let less' = same_number q u n (set_at T p None) (set_at T' p None) (λ r. at_set T' p None r u ∙ ap (cond (same_path r p) 0) (same r) ∙ sym (at_set T p None r u)) less in
    let b = one_less T' p w.1 there' in
    omega (arith, less', b)
  where
    one_less : (C : PathCounts) (p : Path) → is_parent q p ≡ true → 0 < held_at C p u → branches (set_at C p None) q u + 1 ≡ branches C q u
    one_less C p child low =
        let first : nat_lt 0 (held_at C p u) ≡ true = grind (arith, nat_tests, low) in
        let all = branches_set C p None q u in
        let here : cond (is_parent q p) (one (nat_lt 0 (held_at C p u))) 0 ≡ 1 = (λ i. cond (child i) (one (first i)) 0) in
        let none : cond (is_parent q p) (one (nat_lt 0 (held_if None u))) 0 ≡ 0 = sym (neither (is_parent q p)) in
        omega (arith, all, here, none)

pub same_branches : (T T' : PathCounts) (q : Path) (u : ℕ) → ((p : Path) → held_at T' p u ≡ held_at T p u) → branches T' q u ≡ branches T q u
same_branches T T' q u same = same_number q u (branches T q u) T T' same refl

-- no path at which something is held is longer than all of them
unfoldable pub longest : PathCounts → ℕ
longest T = sum_by (λ e. length e.0) (entries T)

pub not_longer : (T : PathCounts) (p : Path) (u : ℕ) → 0 < held_at T p u → length p ≤ longest T
unfolding longest
not_longer T p u low = elim (get T p) as (λ o. get T p ≡ o → length p ≤ longest T) [
  | None ↦ λ none. let zero_here : held_at T p u ≡ 0 = ap (λ o. held_if o u) none in absurd (omega (arith, low, zero_here))
  | Some C ↦ λ there.
      let all : longest (set_at T p None) + of_found path_cmp_total path_cmp_exact (λ e. length e.0) p (get T p) ≡ longest T + 0 = sum-set_at path_cmp_total path_cmp_exact (λ e. length e.0) T p None in
      let own : of_found path_cmp_total path_cmp_exact (λ e. length e.0) p (get T p) ≡ length p = ap (of_found path_cmp_total path_cmp_exact (λ e. length e.0) p) there in
      omega (arith, all, own)
] refl
