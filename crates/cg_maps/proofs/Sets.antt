-- Finite sets by their members.
use Rattle.std.proofs.Common.{◌≡◌, ◌↔◌, ℕ, zero, suc, Bool, true, false, cond, not, ◌&&◌, ◌||◌, ◌==◌, T, nat_lt, map, List, [], ◌∷◌, refl, sym, ap, subst, ◌∙◌, true≢false, Option, Some, None, option_map, Less, nat_cmp, arith}
use Rattle.std.proofs.lemmas.Bool.Decides.{nat_tests}
use Rattle.std.specs.List.Sorted.{IsStrictlySortedBy}
use Rattle.std.specs.Option.{is_some}
use Rattle.std.specs.Ordering.{eq_by_cmp}
use Rattle.std.specs.Cmp.{nat_cmp_total}
use Rattle.std.specs.List.{AllByRecursion, list_any}
use Rattle.std.specs.FinMap.{nat_cmp-IsAntisymmetric}
use Rattle.std.specs.FinMap.Entries.{is_some-find, below_all, is_sorted}
use Rattle.cg_maps.specs.FiniteMap.{FiniteMap, set_at, retain, insert, checked, empty, get, keys, is_nonempty, domain}
use Rattle.cg_maps.specs.FiniteSet.{FiniteSet, has, members, is_empty_set, no_members, with_member, in_common, set_of, such_that_below}
use Rattle.cg_maps.proofs.Maps.{same_map, get-set_at, get-retain, get-empty, get-domain, none_in_keys}
use Rattle.cg_maps.proofs.Tests.{and_first, and_second, less}
use Rattle.cg_maps.proofs.TreeMaps.{is_sorted-from}

-- two options of nothing are equal where both are there or neither is
both_or_neither : (o p : Option (Unit {0})) → is_some o ≡ is_some p → o ≡ p
both_or_neither None None e = refl
both_or_neither None (Some x) e = absurd (true≢false (sym e))
both_or_neither (Some x) None e = absurd (true≢false e)
both_or_neither (Some x) (Some y) e = refl

-- sets with the same members are equal
pub same_set : (s t : FiniteSet) → ((n : ℕ) → has s n ≡ has t n) → s ≡ t
same_set s t is = same_map nat_cmp_total nat_cmp-IsAntisymmetric s t (λ n. both_or_neither _ _ (is n))

pub has-no_members : (n : ℕ) → has no_members n ≡ false
has-no_members n = ap is_some (get-empty nat_cmp n)

pub tied_is_equal : (a b : ℕ) → eq_by_cmp nat_cmp a b ≡ (a == b)
tied_is_equal a b = grind (arith, nat_tests)

pub has-with_member : (s : FiniteSet) (n k : ℕ) → has (with_member s n) k ≡ ((k == n) || has s k)
unfolding with_member
has-with_member s n k = ap is_some (get-set_at nat_cmp_total nat_cmp-IsAntisymmetric s n (Some tt) k ∙ ap (λ b. cond b (Some tt) (get s k)) (tied_is_equal k n)) ∙ cases (k == n)
  where
    cases : (b : Bool) → is_some (cond b (Some tt) (get s k)) ≡ (b || has s k)
    cases true = refl
    cases false = refl

pub has-in_common : (s t : FiniteSet) (n : ℕ) → has (in_common s t) n ≡ (has s n && has t n)
unfolding in_common
has-in_common s t n = ap is_some (get-retain nat_cmp_total nat_cmp-IsAntisymmetric s (has t) n) ∙ cases (has t n) (get s n)
  where
    cases : (b : Bool) (o : Option (Unit {0})) → is_some (cond b o None) ≡ (is_some o && b)
    cases true None = refl
    cases true (Some x) = refl
    cases false None = refl
    cases false (Some x) = refl

thing_or_nothing : {X : Type 0} (o : Option X) → is_some {T = Unit {0}} (option_map (λ _. tt) o) ≡ is_some o
thing_or_nothing None = refl
thing_or_nothing (Some x) = refl

pub has-domain : {X : Type 0} (m : FiniteMap nat_cmp X) (n : ℕ) → has (domain m) n ≡ is_some (get m n)
has-domain m n = ap is_some (get-domain m n) ∙ thing_or_nothing (get m n)

-- a number is in the set of a list where the list has it
pub has-set_of : (ns : List ℕ) (n : ℕ) → has (set_of ns) n ≡ list_any (λ m. n == m) ns
has-set_of [] n = has-no_members n
has-set_of (m ∷ ns) n = has-with_member (set_of ns) m n ∙ ap (λ b. (n == m) || b) (has-set_of ns n)

-- a number is in the set where it is among the members
pub has-members : (s : FiniteSet) (n : ℕ) → has s n ≡ list_any (λ m. n == m) (members s)
unfolding members keys get
has-members s n = is_some-find nat_cmp n s.list ∙ same_any (map (λ e. e.0) s.list)
  where
    same_any : (ns : List ℕ) → list_any (eq_by_cmp nat_cmp n) ns ≡ list_any (λ m. n == m) ns
    same_any [] = refl
    same_any (m ∷ ns) = λ i. tied_is_equal n m i || same_any ns i

-- a set is the set of its members
pub set_of-members : (s : FiniteSet) → set_of (members s) ≡ s
set_of-members s = same_set _ _ (λ n. has-set_of (members s) n ∙ sym (has-members s n))

-- an empty set has no member
pub none_in_empty : (s : FiniteSet) → is_empty_set s ≡ true → (n : ℕ) → has s n ≡ false
unfolding members
none_in_empty s e n = ap is_some (none_in_keys s n (no_item (keys s) e))
  where
    no_item : (ns : List ℕ) → not (is_nonempty ns) ≡ true → is_nonempty ns ≡ false
    no_item [] e = refl
    no_item (n ∷ ns) e = absurd (true≢false (sym e))

-- a set with no member is empty
pub empty_has_none : (s : FiniteSet) → (is_empty_set s ≡ true) ↔ ((n : ℕ) → has s n ≡ false)
unfolding members keys empty
empty_has_none s = (none_in_empty s, λ none. ap is_empty_set (same_set s no_members (λ n. none n ∙ sym (has-no_members n))))

pub empty_set-is : (s : FiniteSet) → is_empty_set s ≡ true → s ≡ no_members
empty_set-is s e = same_set s no_members (λ n. none_in_empty s e n ∙ sym (has-no_members n))

below_next : (k n : ℕ) → nat_lt k (suc n) ≡ ((k == n) || nat_lt k n)
below_next k n = grind (arith, nat_tests)

equal_is : (k n : ℕ) → (k == n) ≡ true → k ≡ n
equal_is k n e = grind (arith, nat_tests)

none_below : (k : ℕ) → nat_lt k 0 ≡ false
none_below k = grind (arith, nat_tests)

-- the test at the bound, joined to those below it
joined : (here below pn pk : Bool) → (here ≡ true → pk ≡ pn) → cond pn (here || (below && pk)) (below && pk) ≡ ((here || below) && pk)
joined true below true pk h = sym (h refl)
joined true true false pk h = refl
joined true false false pk h = sym (h refl)
joined false below true pk h = refl
joined false below false pk h = refl

-- a number is in the set of those below a bound that pass a test
pub has-such_that_below : (n : ℕ) (p : ℕ → Bool) (k : ℕ) → has (such_that_below n p) k ≡ (nat_lt k n && p k)
unfolding such_that_below
has-such_that_below zero p k = has-no_members k ∙ ap (λ b. b && p k) (sym (none_below k))
has-such_that_below (suc n) p k =
    has-cond (p n) (with_member (such_that_below n p) n) (such_that_below n p)
    ∙ (λ i. cond (p n) (has-with_member (such_that_below n p) n k i) (has (such_that_below n p) k))
    ∙ (λ i. cond (p n) ((k == n) || has-such_that_below n p k i) (has-such_that_below n p k i))
    ∙ joined (k == n) (nat_lt k n) (p n) (p k) (λ e. ap p (equal_is k n e))
    ∙ ap (λ b. b && p k) (sym (below_next k n))
  where
    has-cond : (b : Bool) (s t : FiniteSet) → has (cond b s t) k ≡ cond b (has s k) (has t k)
    has-cond true s t = refl
    has-cond false s t = refl

-- the members ascend
pub members_ascend : (s : FiniteSet) → IsStrictlySortedBy nat_cmp (members s)
unfolding members keys IsStrictlySortedBy
members_ascend s = ascending s.list s.sorted
  where
    above : (k : ℕ) (es : List (ℕ × Unit {0})) → T (below_all nat_cmp k es) → AllByRecursion (λ n. nat_cmp k n ≡ Less) (map (λ e. e.0) es)
    above k [] h = tt
    above k (e ∷ es) h = (less _ (and_first _ _ h), above k es (and_second _ _ h))

    ascending : (es : List (ℕ × Unit {0})) → T (is_sorted nat_cmp es) → IsStrictlySortedBy nat_cmp (map (λ e. e.0) es)
    ascending [] h = tt
    ascending (e ∷ es) h = (above e.0 es (and_first _ _ h), ascending es (and_second _ _ h))

pub members-no_members : members no_members ≡ []
unfolding members keys empty
members-no_members = refl

-- no member is listed where a set is empty
pub none_listed : (s : FiniteSet) → is_empty_set s ≡ true → members s ≡ []
none_listed s e = ap members (empty_set-is s e) ∙ members-no_members

-- where ascending numbers are listed, the members of their set are that list
pub members-set_of : (ns : List ℕ) → IsStrictlySortedBy nat_cmp ns → members (set_of ns) ≡ ns
unfolding members keys
members-set_of ns h =
    let es : List (ℕ × Unit {0}) = map (λ n. (n, tt)) ns in
    let s : FiniteSet = record { list = es; sorted = is_sorted-from nat_cmp es (subst (IsStrictlySortedBy nat_cmp) (sym (listed ns)) h) } in
    ap members (same_set (set_of ns) s (λ n. has-set_of ns n ∙ sym (has-members s n ∙ ap (list_any (λ m. n == m)) (listed ns)))) ∙ listed ns
  where
    listed : (ns : List ℕ) → map (λ (e : ℕ × Unit {0}). e.0) (map (λ n. (n, tt)) ns) ≡ ns
    listed [] = refl
    listed (n ∷ ns) = ap (λ ms. n ∷ ms) (listed ns)

-- sets compute
pub set_computes : members (such_that_below 6 (λ n. (n == 2) || (n == 4))) ≡ 2 ∷ 4 ∷ []
unfolding members keys such_that_below with_member set_at retain insert checked empty
set_computes = refl
