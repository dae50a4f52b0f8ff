-- How many holdings a table tells.
use Rattle.std.proofs.Common.{◌≡◌, ℕ, zero, suc, ◌+◌, ◌==◌, Bool, true, false, cond, Option, refl, sym, ap, ◌∙◌, arith}
use Rattle.std.proofs.lemmas.Bool.{false≢true, eqb-true, eq-eqb}
use Rattle.std.specs.List.{sum_by}
use Rattle.std.specs.Ordering.{eq_by_cmp}
use Rattle.cg_maps.specs.FiniteMap.{entries, get, set_at}
use Rattle.cg_maps.proofs.Maps as maps
use Rattle.cg_model.specs.Footprint.{Mark}
use Rattle.cg_locks.specs.Both.{pairs_of}
use Rattle.cg_locks.specs.Holdings.{Holdings, holdings, holding_cmp}
use Rattle.cg_locks.specs.Marks.{same_mark}
use Rattle.cg_locks.specs.Single.{once, IsHeldOnceMore}
use Rattle.cg_locks.specs.Table.{if_any, table_by}
use Rattle.cg_locks.proofs.Boths.{holder_listed}
use Rattle.cg_locks.proofs.Marks.{holding_cmp_total, holding_cmp_exact, same_mark-is, same_mark-itself}
use Rattle.cg_locks.proofs.Summed.{of_found, sum-set_at}
use Rattle.cg_locks.proofs.Tables.{all_listed}

-- the same holdings, without who holds a mark never
unfoldable pub neatly : Holdings → Holdings
neatly G = table_by (holdings G) (pairs_of (entries G))

neat_entry : (G : Holdings) (u : ℕ) (m : Mark) → get (neatly G) (u, m) ≡ if_any (holdings G u m)
unfolding neatly
neat_entry G u m = all_listed (holdings G) (u, m) (pairs_of (entries G)) (holder_listed G u m)

-- how often an entry tells that a mark is held
abbrev number : (ℕ × Mark) × ℕ → ℕ
number e = e.1

-- how many holdings there are of all marks
unfoldable pub total : Holdings → ℕ
total G = sum_by number (entries (neatly G))

-- how many are of one, where the table tells this of it
abbrev told : ℕ × Mark → Option ℕ → ℕ
told = of_found holding_cmp_total holding_cmp_exact number

told_any : (k : ℕ × Mark) (n : ℕ) → told k (if_any n) ≡ n
told_any k zero = refl
told_any k (suc n) = refl

module _ (G G' : Holdings) (t : ℕ) (n : Mark) (more : IsHeldOnceMore G t n G') where
  once_there : cond (t == t) (once n n) 0 ≡ 1
  once_there = (λ i. cond (eq-eqb t t refl i) (cond (same_mark-itself n i) 1 0) 0)

  none_elsewhere : (u : ℕ) (m : Mark) → (b c : Bool) → (u == t) ≡ b → same_mark m n ≡ c → eq_by_cmp holding_cmp (u, m) (t, n) ≡ false → ◌≡◌ {A = ℕ} (cond b (cond c 1 0) 0) 0
  none_elsewhere u m true true e d apart =
      absurd (false≢true (sym apart ∙ ap (λ k. eq_by_cmp holding_cmp k (t, n)) (λ i. (eqb-true u t e i, same_mark-is m n d i)) ∙ maps.here holding_cmp_total holding_cmp_exact (t, n)))
  none_elsewhere u m true false e d apart = refl
  none_elsewhere u m false c e d apart = refl

  as_set : (u : ℕ) (m : Mark) (b : Bool) → eq_by_cmp holding_cmp (u, m) (t, n) ≡ b → if_any (holdings G' u m) ≡ cond b (if_any (holdings G' t n)) (get (neatly G) (u, m))
  as_set u m true is = ap (λ k. if_any (holdings G' k.0 k.1)) (maps.is_same holding_cmp_total holding_cmp_exact (u, m) (t, n) is)
  as_set u m false is =
      let a = more u m in
      let b = none_elsewhere u m (u == t) (same_mark m n) refl refl is in
      let same : holdings G' u m ≡ holdings G u m = omega (arith, a, b) in
      ap if_any same ∙ sym (neat_entry G u m)

  set_once : neatly G' ≡ set_at (neatly G) (t, n) (if_any (holdings G' t n))
  set_once = maps.same_map holding_cmp_total holding_cmp_exact (neatly G') (set_at (neatly G) (t, n) (if_any (holdings G' t n))) (λ k.
      neat_entry G' k.0 k.1 ∙ as_set k.0 k.1 (eq_by_cmp holding_cmp k (t, n)) refl
      ∙ sym (maps.get-set_at holding_cmp_total holding_cmp_exact (neatly G) (t, n) (if_any (holdings G' t n)) k))

  -- one holding more is one more of all
  pub total_more : total G' ≡ total G + 1
  unfolding total
  total_more =
      let w : Option ℕ = if_any (holdings G' t n) in
      let all : sum_by number (entries (set_at (neatly G) (t, n) w)) + told (t, n) (get (neatly G) (t, n)) ≡ sum_by number (entries (neatly G)) + told (t, n) w =
      sum-set_at holding_cmp_total holding_cmp_exact number (neatly G) (t, n) w in
      let same : sum_by number (entries (neatly G')) ≡ sum_by number (entries (set_at (neatly G) (t, n) w)) = ap (λ M. sum_by number (entries M)) set_once in
      let before : told (t, n) (get (neatly G) (t, n)) ≡ holdings G t n = ap (told (t, n)) (neat_entry G t n) ∙ told_any (t, n) (holdings G t n) in
      let after : told (t, n) w ≡ holdings G' t n = told_any (t, n) (holdings G' t n) in
      let one = more t n in
      let there = once_there in
      omega (arith, all, same, before, after, one, there)
