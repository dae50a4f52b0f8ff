-- What is counted at a path: it isn't 0 exactly where some process is there or below, and no more than these processes.
use Rattle.std.proofs.Common.{◌≡◌, ◌≢◌, ◌+◌, ◌<◌, ◌≤◌, ◌&&◌, ◌++◌, ℕ, zero, suc, nat_lt, Bool, true, false, cond, Option, Some, None, is_some, inl, inr, refl, sym, ap, subst, ◌∙◌, append_assoc, arith, true≢false}
use Rattle.std.specs.Ordering.{nat_cmp}
use Rattle.std.specs.Cmp.{nat_cmp_total}
use Rattle.std.specs.FinMap.{nat_cmp-IsAntisymmetric}
use Rattle.std.proofs.lemmas.Bool.{and_parts, and_from, false≢true}
use Rattle.std.proofs.Math.Bool.{and-false, and-true}
use Rattle.std.proofs.lemmas.Bool.Decides.{nat_tests}
use Rattle.cg_maps.specs.FiniteMap.{FiniteMap, get, len, retain, set_at}
use Rattle.cg_maps.proofs.Maps.{cases, get_here, set_same, set_set}
use Rattle.cg_model.specs.Derived.{is_in, is_in_subtree}
use Rattle.cg_name.specs.Order.{path_cmp_total, path_cmp_exact}
use Rattle.cg_name.specs.Path.{Path, path_cmp, is_above, is_parent, is_prefix, same_path}
use Rattle.cg_name.proofs.Packing.{prefix-append, prefix_rest}
use Rattle.cg_tree.specs.Contents.{counted_at, own_count, populated, populated_children, process_count}
use Rattle.cg_tree.proofs.Climbing.{not_above_itself, some_of}
use Rattle.cg_tree.proofs.Counts.{few_pass, found_key, found_passing, len-without, one, passing-set, passing_apart, some_passing}
use Rattle.cg_tree.proofs.Numbering.{path_itself, same_path_is}
use Rattle.cg_tree.proofs.Steps.{begins_by_above, begins_itself, next, next_begins, next_child, only_next}

-- ---- tests

abbrev pub once : Bool → ℕ
once b = cond b 1 0

some_counted : (n : ℕ) → 0 < n → nat_lt 0 n ≡ true
some_counted n low = grind (arith, nat_tests, low)

none_counted : (n : ℕ) → n ≡ 0 → nat_lt 0 n ≡ false
none_counted n is = ap (nat_lt 0) is

counted_some : (n : ℕ) → nat_lt 0 n ≡ true → 0 < n
counted_some n e = grind (arith, nat_tests, e)

-- ---- a process is there or below

abbrev OneAt : FiniteMap nat_cmp Path → Path → Type 0
OneAt places p = (pid : ℕ) × (q : Path) × (get places pid ≡ Some q) × (is_prefix p q ≡ true)

found_at : (places : FiniteMap nat_cmp Path) (p : Path) → 0 < process_count places p → OneAt places p
found_at places p low =
    let w = found_passing nat_cmp_total nat_cmp-IsAntisymmetric places (λ pid. is_in_subtree p (get places pid)) low in
    (w.0, w.1, w.2, ap (is_in_subtree p) (sym w.2) ∙ w.3)

counts_it : (places : FiniteMap nat_cmp Path) (p : Path) → OneAt places p → 0 < process_count places p
counts_it places p w = some_passing nat_cmp_total nat_cmp-IsAntisymmetric places (λ pid. is_in_subtree p (get places pid)) w.0 w.1 w.2 (ap (is_in_subtree p) w.2 ∙ w.3)

-- and so above
pub counts_above : (places : FiniteMap nat_cmp Path) (q p : Path) → is_prefix q p ≡ true → 0 < process_count places p → 0 < process_count places q
counts_above places q p begins low =
    let w = found_at places p low in
    let up = prefix_rest q p begins in
    let down = prefix_rest p w.1 w.3 in
    let is : w.1 ≡ q ++ (up.0 ++ down.0) = down.1 ∙ ap (λ r. r ++ down.0) up.1 ∙ append_assoc q up.0 down.0 in
    counts_it places q (w.0, w.1, w.2, subst (λ r. is_prefix q r ≡ true) (sym is) (prefix-append q (up.0 ++ down.0)))

-- ---- where the map has each path at or below which a process is

abbrev pub HaveCounts : FiniteMap path_cmp ℕ → FiniteMap nat_cmp Path → Type 0
HaveCounts held places = (q : Path) → 0 < process_count places q → is_some (get held q) ≡ true

-- what is counted isn't 0
pub is_told : (held : FiniteMap path_cmp ℕ) (places : FiniteMap nat_cmp Path) → HaveCounts held places → (p : Path) → 0 < process_count places p → 0 < counted_at held places p
is_told held places there p low = by (found_at places p low)
  where
    by : OneAt places p → 0 < counted_at held places p
    by w = elim (cases path_cmp_total path_cmp_exact p w.1) [
      | inl own ↦
          let it : is_in p (get places w.0) ≡ true = ap (is_in p) (w.2 ∙ ap Some (sym own)) ∙ path_itself p p refl in
          let some : 0 < own_count places p = some_passing nat_cmp_total nat_cmp-IsAntisymmetric places (λ pid. is_in p (get places pid)) w.0 w.1 w.2 it in
          omega (arith, some)
      | inr ne ↦
          let above : is_above p w.1 ≡ true = sym (begins_by_above p w.1 ne) ∙ w.3 in
          let c = next p w.1 in
          let low_there = counts_it places c (w.0, w.1, w.2, next_begins p w.1) in
          let h = some_of (get held c) (there c low_there) in
          let some : 0 < populated_children held places p =
          some_passing path_cmp_total path_cmp_exact held (λ q. is_parent p q && populated places q) c h.0 h.1 (and_from _ _ (next_child p w.1 above) (some_counted (process_count places c) low_there)) in
          omega (arith, some)
    ]

-- ---- with one process more

module _ (less : FiniteMap nat_cmp Path) (pid : ℕ) (p : Path) (absent : get less pid ≡ None) where
  abbrev more : FiniteMap nat_cmp Path
  more = set_at less pid (Some p)

  -- it is counted where its path passes
  passes_more : (test : Option Path → Bool) → len (retain more (λ k. test (get more k))) ≡ len (retain less (λ k. test (get less k))) + once (test (Some p))
  passes_more test =
      let all = passing-set nat_cmp_total nat_cmp-IsAntisymmetric less pid (Some p) (λ _ w. test w) in
      let none : once (test (get less pid) && is_some (get less pid)) ≡ 0 = ap (λ w. once (test w && is_some w)) absent ∙ ap once (and-false (test None)) in
      let some : once (test (Some p) && true) ≡ once (test (Some p)) = ap once (and-true (test (Some p))) in
      omega (arith, all, none, some)

  pub one_more : (q : Path) → process_count more q ≡ process_count less q + once (is_prefix q p)
  one_more q = passes_more (is_in_subtree q)

  own_more : (q : Path) → own_count more q ≡ own_count less q + once (same_path q p)
  own_more q = passes_more (is_in q)

  pub never_less : (q : Path) → process_count less q ≤ process_count more q
  never_less q = let all = one_more q in omega (arith, all)

  module _ (held : FiniteMap path_cmp ℕ) where
    -- the next path on the way down to it alone may turn populated
    module _ (q : Path) where
      abbrev before : Path → Bool
      before x = is_parent q x && populated less x

      abbrev after : Path → Bool
      after x = is_parent q x && populated more x

      same_apart : (x : Path) → x ≢ next q p → before x ≡ after x
      same_apart x ne = by (is_parent q x) (is_prefix x p) refl refl
        where
          by : (b c : Bool) → is_parent q x ≡ b → is_prefix x p ≡ c → (b && populated less x) ≡ b && populated more x
          by false c e f = refl
          by true true e f = absurd (ne (only_next q x p e f).0)
          by true false e f =
              let all = one_more x in
              let none : once (is_prefix x p) ≡ 0 = ap once f in
              let is : process_count less x ≡ process_count more x = omega (arith, all, none) in
              ap (nat_lt 0) is

      children_more : populated_children held more q + cond (before (next q p)) (one (get held (next q p))) 0 ≡ populated_children held less q + cond (after (next q p)) (one (get held (next q p))) 0
      children_more = passing_apart path_cmp_total path_cmp_exact held before after (next q p) same_apart

      -- none of them right below is on the way
      not_on_way : is_above q p ≡ false → (b : Bool) → (is_parent q (next q p) && b) ≡ false
      not_on_way off b = by (is_parent q (next q p)) refl
        where
          by : (a : Bool) → is_parent q (next q p) ≡ a → a && b ≡ false
          by false e = refl
          by true e = absurd (false≢true (sym off ∙ (only_next q (next q p) p e (next_begins q p)).1))

      no_child_more : is_above q p ≡ false → populated_children held more q ≡ populated_children held less q
      no_child_more off =
          let all = children_more in
          let a : cond (before (next q p)) (one (get held (next q p))) 0 ≡ 0 = ap (λ b. cond b (one (get held (next q p))) 0) (not_on_way off (populated less (next q p))) in
          let b : cond (after (next q p)) (one (get held (next q p))) 0 ≡ 0 = ap (λ b. cond b (one (get held (next q p))) 0) (not_on_way off (populated more (next q p))) in
          omega (arith, all, a, b)

      at_most_more : counted_at held more q ≤ counted_at held less q + once (is_prefix q p)
      at_most_more = elim (cases path_cmp_total path_cmp_exact q p) [
        | inl own ↦
            let off : is_above q p ≡ false = ap (is_above q) (sym own) ∙ not_above_itself q in
            let begins : once (is_prefix q p) ≡ 1 = ap once (ap (is_prefix q) (sym own) ∙ begins_itself q) in
            let same = no_child_more off in
            let own_one = own_more q in
            let few = at_most_one (same_path q p) in
            omega (arith, begins, same, own_one, few)
        | inr ne ↦
            let own_one = own_more q in
            let none : once (same_path q p) ≡ 0 = ap once (not_same ne) in
            let is : once (is_prefix q p) ≡ once (is_above q p) = ap once (begins_by_above q p ne) in
            let few = few_children (is_above q p) refl in
            omega (arith, own_one, none, is, few)
      ]
        where
          at_most_one : (b : Bool) → once b ≤ 1
          at_most_one true = omega arith
          at_most_one false = omega arith

          at_most_one_there : (b : Bool) (w : Option ℕ) → cond b (one w) 0 ≤ 1
          at_most_one_there true (Some n) = omega arith
          at_most_one_there true None = omega arith
          at_most_one_there false w = omega arith

          not_same : q ≢ p → same_path q p ≡ false
          not_same ne = by (same_path q p) refl
            where
              by : (b : Bool) → same_path q p ≡ b → b ≡ false
              by true e = absurd (ne (same_path_is q p e))
              by false e = refl

          few_children : (b : Bool) → is_above q p ≡ b → populated_children held more q ≤ populated_children held less q + once b
          few_children false e = let same = no_child_more e in omega (arith, same)
          few_children true e =
              let all = children_more in
              let few = at_most_one_there (after (next q p)) (get held (next q p)) in
              omega (arith, all, few)

    -- how what is counted changes at each path
    pub one_more_there : counted_at held more p ≡ counted_at held less p + 1
    one_more_there =
        let same = no_child_more p (not_above_itself p) in
        let own = own_more p in
        let it : once (same_path p p) ≡ 1 = ap once (path_itself p p refl) in
        omega (arith, same, own, it)

    module _ (q : Path) where
      apart : q ≢ p → own_count more q ≡ own_count less q
      apart ne = let all = own_more q in let none : once (same_path q p) ≡ 0 = by (same_path q p) refl in omega (arith, all, none)
        where
          by : (b : Bool) → same_path q p ≡ b → once b ≡ 0
          by true e = absurd (ne (same_path_is q p e))
          by false e = refl

      pub same_elsewhere : is_prefix q p ≡ false → counted_at held more q ≡ counted_at held less q
      same_elsewhere off =
          let ne : q ≢ p = λ is. true≢false (sym (ap (is_prefix q) (sym is) ∙ begins_itself q) ∙ off) in
          let own = apart ne in
          let same = no_child_more q (sym (begins_by_above q p ne) ∙ off) in
          omega (arith, own, same)

      module _ (above : is_above q p ≡ true) where
        not_it : q ≢ p
        not_it is = true≢false (sym above ∙ ap (is_above q) (sym is) ∙ not_above_itself q)

        on_way : (P : FiniteMap nat_cmp Path) (b : Bool) → populated P (next q p) ≡ b → cond (is_parent q (next q p) && populated P (next q p)) (one (get held (next q p))) 0 ≡ cond b (one (get held (next q p))) 0
        on_way P b e = λ i. cond (next_child q p above i && e i) (one (get held (next q p))) 0

        populated_next : populated more (next q p) ≡ true
        populated_next =
            let all = one_more (next q p) in
            let here : once (is_prefix (next q p) p) ≡ 1 = ap once (next_begins q p) in
            some_counted (process_count more (next q p)) (omega (arith, all, here))

        pub same_above : 0 < process_count less (next q p) → counted_at held more q ≡ counted_at held less q
        same_above low =
            let own = apart not_it in
            let all = children_more q in
            let a = on_way less true (some_counted (process_count less (next q p)) low) in
            let b = on_way more true populated_next in
            omega (arith, own, all, a, b)

        pub one_more_above : process_count less (next q p) ≡ 0 → is_some (get held (next q p)) ≡ true → counted_at held more q ≡ counted_at held less q + 1
        one_more_above none there =
            let own = apart not_it in
            let all = children_more q in
            let a = on_way less false (none_counted (process_count less (next q p)) none) in
            let b = on_way more true populated_next in
            let it : one (get held (next q p)) ≡ 1 = ap once there in
            omega (arith, own, all, a, b, it)

-- ---- no more is counted than there are processes

module _ (held : FiniteMap path_cmp ℕ) (p : Path) where
  by_number : (n : ℕ) (places : FiniteMap nat_cmp Path) → len places ≡ n → counted_at held places p ≤ process_count places p
  by_number zero places none =
      let own : own_count places p ≤ len places = few_pass places (λ pid. is_in p (get places pid)) in
      let children = no_children (populated_children held places p) refl in
      omega (arith, own, children, none)
    where
      no_children : (m : ℕ) → populated_children held places p ≡ m → m ≡ 0
      no_children zero e = refl
      no_children (suc m) e =
          let w = found_passing path_cmp_total path_cmp_exact held (λ q. is_parent p q && populated places q) (omega (arith, e)) in
          let low = counted_some (process_count places w.0) (and_parts (is_parent p w.0) _ w.3).1 in
          let few : process_count places w.0 ≤ len places = few_pass places (λ pid. is_in_subtree w.0 (get places pid)) in
          absurd (omega (arith, low, few, none))
  by_number (suc n) places some =
      let w = found_key nat_cmp_total nat_cmp-IsAntisymmetric places (omega (arith, some)) in
      let less = set_at places w.0 None in
      let absent : get less w.0 ≡ None = get_here nat_cmp_total nat_cmp-IsAntisymmetric places w.0 None in
      let whole : set_at less w.0 (Some w.1) ≡ places =
      set_set nat_cmp_total nat_cmp-IsAntisymmetric places w.0 None (Some w.1) ∙ ap (set_at places w.0) (sym w.2) ∙ set_same nat_cmp_total nat_cmp-IsAntisymmetric places w.0 in
      let all = len-without nat_cmp_total nat_cmp-IsAntisymmetric places w.0 in
      let it : one (get places w.0) ≡ 1 = ap one w.2 in
      let rest = by_number n less (omega (arith, all, it, some)) in
      let step = at_most_more less w.0 w.1 absent held p in
      let count = one_more less w.0 w.1 absent p in
      subst (λ m. counted_at held m p ≤ process_count m p) whole (omega (arith, rest, step, count))

  pub few_counted : (places : FiniteMap nat_cmp Path) → counted_at held places p ≤ process_count places p
  few_counted places = by_number (len places) places refl

-- so it isn't 0 exactly there
told_or_not : (n k : ℕ) → n ≤ k → (0 < k → 0 < n) → nat_lt 0 n ≡ nat_lt 0 k
told_or_not zero zero few some = refl
told_or_not zero (suc k) few some = absurd (let low = some (omega arith) in omega (arith, low))
told_or_not (suc n) zero few some = absurd (omega (arith, few))
told_or_not (suc n) (suc k) few some = some_counted (suc n) (omega arith) ∙ sym (some_counted (suc k) (omega arith))

pub told_exactly : (held : FiniteMap path_cmp ℕ) (places : FiniteMap nat_cmp Path) → HaveCounts held places → (p : Path) → nat_lt 0 (counted_at held places p) ≡ populated places p
told_exactly held places there p = told_or_not (counted_at held places p) (process_count places p) (few_counted held p places) (is_told held places there p)

-- ---- a path comes or goes at which nobody is, nor below it

module _ (held : FiniteMap path_cmp ℕ) (places : FiniteMap nat_cmp Path) (p : Path) (nobody : process_count places p ≡ 0) where
  pub same_beside : (w : Option ℕ) (q : Path) → counted_at (set_at held p w) places q ≡ counted_at held places q
  same_beside w q =
      let all = passing-set path_cmp_total path_cmp_exact held p w (λ x _. is_parent q x && populated places x) in
      let before : once ((is_parent q p && populated places p) && is_some (get held p)) ≡ 0 = ap once (skipped (is_parent q p) (populated places p) (is_some (get held p)) (none_counted (process_count places p) nobody)) in
      let after : once ((is_parent q p && populated places p) && is_some w) ≡ 0 = ap once (skipped (is_parent q p) (populated places p) (is_some w) (none_counted (process_count places p) nobody)) in
      omega (arith, all, before, after)
    where
      skipped : (a b c : Bool) → b ≡ false → (a && b) && c ≡ false
      skipped true b c e = ap (λ x. x && c) e
      skipped false b c e = refl

  pub none_told : counted_at held places p ≡ 0
  none_told = let few = few_counted held p places in omega (arith, few, nobody)
