-- A table that says the sum of two.
use Rattle.std.proofs.Common.{◌≡◌, ℕ, ◌+◌, ◌<◌, ◌≤◌, true, false, cond, ◌⊎◌, inl, inr, List, [], ◌∷◌, ◌++◌, Option, Some, None, option_map, unwrap_or, refl, sym, ap, subst, ◌∙◌, arith}
use Rattle.std.proofs.lemmas.Bool.{false≢true}
use Rattle.std.proofs.lemmas.Option.{none-some}
use Rattle.std.specs.FinMap.Entries.{find}
use Rattle.std.specs.List.{list_any}
use Rattle.std.specs.Ordering.{eq_by_cmp}
use Rattle.cg_maps.specs.FiniteMap.{entries, get}
use Rattle.cg_maps.proofs.Maps as maps
use Rattle.cg_name.specs.declared.refusal.TxnNumber.{TxnNumber}
use Rattle.cg_name.specs.Path.{Path}
use Rattle.cg_model.specs.Footprint.{Mark, X, S, N, Pid, Count, clash}
use Rattle.cg_locks.specs.Both.{both, both_count, pairs_of}
use Rattle.cg_locks.specs.Counts.{counts_at}
use Rattle.cg_locks.specs.declared.footprint.Counted.{Counted}
use Rattle.cg_locks.specs.declared.mark.Mark.TheVariants as marks
use Rattle.cg_locks.specs.Holders.{lesser_of, number_of, IsLeast}
use Rattle.cg_locks.specs.Holdings.{Holdings, holdings, holding_cmp, HoldsAll, IsInTheWay}
use Rattle.cg_locks.specs.Marks.{times}
use Rattle.cg_locks.specs.Meaning.{counts_of}
use Rattle.cg_locks.specs.Single.{HoldsClashing, IsHeldOnceMore, IsLeastInTheWay, IsNeat}
use Rattle.cg_locks.specs.Table.{if_any}
use Rattle.cg_locks.proofs.CountedMarks.{at_paths, never}
use Rattle.cg_locks.proofs.Counts.{least_as, least_of_both, one_of_two}
use Rattle.cg_locks.proofs.FirstClash.{no_counts}
use Rattle.cg_locks.proofs.Marks.{holding_cmp_total, holding_cmp_exact}
use Rattle.cg_locks.proofs.Tables.{all_listed, listed_first, listed_then, neat_any, or_none, IsListed}

-- ---- who holds by one of them is listed

pair_listed : (h : ℕ × Mark) (es : List ((ℕ × Mark) × ℕ)) (n : ℕ) → find holding_cmp h es ≡ Some n → IsListed h (pairs_of es)
pair_listed h [] n e = absurd (none-some n e)
pair_listed h (x ∷ es) n e = elim (eq_by_cmp holding_cmp h x.0) as (λ b. eq_by_cmp holding_cmp h x.0 ≡ b → cond b (Some x.1) (find holding_cmp h es) ≡ Some n → IsListed h (pairs_of (x ∷ es))) [
  | true ↦ λ is _. inl (maps.is_same holding_cmp_total holding_cmp_exact h x.0 is)
  | false ↦ λ is s. inr (pair_listed h es n s)
] refl e

pub holder_listed : (G : Holdings) (u : ℕ) (m : Mark) → 0 < holdings G u m → IsListed (u, m) (pairs_of (entries G))
unfolding holdings get entries
holder_listed G u m low = elim (find holding_cmp (u, m) G.list) as (λ r. find holding_cmp (u, m) G.list ≡ r → 0 < unwrap_or r 0 → IsListed (u, m) (pairs_of G.list)) [
  | None ↦ λ e z. absurd (omega (arith, z))
  | Some n ↦ λ e z. pair_listed (u, m) G.list n e
] refl low

module _ (G H : Holdings) where
  covered : (u : ℕ) (m : Mark) → 0 < both_count G H u m → IsListed (u, m) (pairs_of (entries G) ++ pairs_of (entries H))
  covered u m low = elim (one_of_two (holdings G u m) (holdings H u m) low) [
    | inl l ↦ listed_first (u, m) (pairs_of (entries G)) (pairs_of (entries H)) (holder_listed G u m l)
    | inr l ↦ listed_then (u, m) (pairs_of (entries G)) (pairs_of (entries H)) (holder_listed H u m l)
  ]

  entry_told : (u : ℕ) (m : Mark) → get (both G H) (u, m) ≡ if_any (both_count G H u m)
  unfolding both
  entry_told u m = all_listed (both_count G H) (u, m) (pairs_of (entries G) ++ pairs_of (entries H)) (covered u m)

  pub both_told : (u : ℕ) (m : Mark) → holdings (both G H) u m ≡ holdings G u m + holdings H u m
  unfolding holdings
  both_told u m = ap (λ r. unwrap_or r 0) (entry_told u m) ∙ or_none (both_count G H u m)

module _ (G H T : Holdings) (view : both G H ≡ T) where
  pub sum_of : (u : ℕ) (m : Mark) → holdings T u m ≡ holdings G u m + holdings H u m
  sum_of u m = ap (λ B. holdings B u m) (sym view) ∙ both_told G H u m

  pub both_neat : IsNeat T
  both_neat = subst IsNeat view (λ u m n e. neat_any (both_count G H u m) n (sym (entry_told G H u m) ∙ e))

  -- ---- who is in the way

  pub by_first : (u : ℕ) (m : Mark) → 0 < holdings G u m → 0 < holdings T u m
  by_first u m low = let sum = sum_of u m in omega (arith, sum, low)

  pub by_second : (u : ℕ) (m : Mark) → 0 < holdings H u m → 0 < holdings T u m
  by_second u m low = let sum = sum_of u m in omega (arith, sum, low)

  pub by_one : (u : ℕ) (m : Mark) → 0 < holdings T u m → (0 < holdings G u m) ⊎ (0 < holdings H u m)
  by_one u m low = one_of_two (holdings G u m) (holdings H u m) (subst (λ n. 0 < n) (sum_of u m) low)

  pub least_by_both : (t : ℕ) (n : Mark) (r s : Option ℕ) (o : Option TxnNumber) → option_map number_of o ≡ lesser_of r s
      → IsLeastInTheWay G t n r → IsLeastInTheWay H t n s → IsLeastInTheWay T t n (option_map number_of o)
  least_by_both t n r s o lesser a b = subst (IsLeastInTheWay T t n) (sym lesser) (
      least_of_both (HoldsClashing G t n) (HoldsClashing H t n) (HoldsClashing T t n)
      (λ u w. elim (by_one u w.mark w.held) [
        | inl l ↦ inl (record { other = w.other; mark = w.mark; held = l; clashing = w.clashing })
        | inr l ↦ inr (record { other = w.other; mark = w.mark; held = l; clashing = w.clashing })
      ])
      (λ u w. record { other = w.other; mark = w.mark; held = by_first u w.mark w.held; clashing = w.clashing })
      (λ u w. record { other = w.other; mark = w.mark; held = by_second u w.mark w.held; clashing = w.clashing })
      r s a b)

  -- ---- marks that are held together

  pub held_by_both : (t : ℕ) (f : List Mark) → HoldsAll H t f → HoldsAll T t f
  held_by_both t f all m =
      let sum = sum_of t m in
      let low : times m f ≤ holdings H t m = all m in
      omega (arith, sum, low)

  -- ---- marks on numbers of descendants, of which the first table has none

  module _ (none : (u : ℕ) (p : Path) → holdings G u (Count p) ≡ 0) where
    by_second_alone : (u : ℕ) (p : Path) → holdings T u (Count p) ≡ holdings H u (Count p)
    by_second_alone u p = let sum = sum_of u (Count p) in let zero = none u p in omega (arith, sum, zero)

    never_or_alone : (u : ℕ) (ps : List Path) (m : Mark) → (times m (counts_at ps) ≡ 0) ⊎ (holdings T u m ≡ holdings H u m)
    never_or_alone u ps (X p) = inl (never (X p) (λ q. refl) ps)
    never_or_alone u ps (S p) = inl (never (S p) (λ q. refl) ps)
    never_or_alone u ps (N p) = inl (never (N p) (λ q. refl) ps)
    never_or_alone u ps (Pid k) = inl (never (Pid k) (λ q. refl) ps)
    never_or_alone u ps (Count p) = inr (by_second_alone u p)

    pub held_by_second : (t : ℕ) (c : Option Counted) → HoldsAll T t (counts_of c) → HoldsAll H t (counts_of c)
    held_by_second t c all m =
        let low : times m (counts_of c) ≤ holdings T t m = all m in
        elim (at_paths (λ f. (times m f ≡ 0) ⊎ (holdings T t m ≡ holdings H t m)) (λ ps. never_or_alone t ps m) c) [
          | inl never ↦ omega (arith, low, never)
          | inr alone ↦ omega (arith, low, alone)
        ]

    clashing_alone : (u : ℕ) (m : Mark) (ps : List Path) → list_any (clash m) (counts_at ps) ≡ true → holdings T u m ≡ holdings H u m
    clashing_alone u (X p) ps e = absurd (false≢true (sym (no_counts (marks.Changed p) ps) ∙ e))
    clashing_alone u (S p) ps e = absurd (false≢true (sym (no_counts (marks.Read p) ps) ∙ e))
    clashing_alone u (N p) ps e = absurd (false≢true (sym (no_counts (marks.Stays p) ps) ∙ e))
    clashing_alone u (Pid k) ps e = absurd (false≢true (sym (no_counts (marks.Process k) ps) ∙ e))
    clashing_alone u (Count p) ps e = by_second_alone u p

    pub least_by_second : (t : ℕ) (c : Option Counted) (r : Option ℕ) → IsLeast (IsInTheWay H t (counts_of c)) r → IsLeast (IsInTheWay T t (counts_of c)) r
    least_by_second t c r h =
        least_as (IsInTheWay H t (counts_of c)) (IsInTheWay T t (counts_of c)) r
        (λ u w. record { other = w.other; mark = w.mark; held = by_second u w.mark w.held; clashing = w.clashing })
        (λ u w. record {
          other = w.other;
          mark = w.mark;
          held = subst (λ n. 0 < n) (at_paths (λ f. list_any (clash w.mark) f ≡ true → holdings T u w.mark ≡ holdings H u w.mark) (clashing_alone u w.mark) c w.clashing) w.held;
          clashing = w.clashing;
        })
        h

-- ---- changed

-- holdings that come to one table come to both
module _ (G H G' H' T T' : Holdings) (view : both G H ≡ T) (view' : both G' H' ≡ T') (more : ℕ → Mark → ℕ) where
  more_by_both : (u : ℕ) (m : Mark) → holdings G' u m + holdings H' u m ≡ (holdings G u m + holdings H u m) + more u m → holdings T' u m ≡ holdings T u m + more u m
  more_by_both u m come = let before = sum_of G H T view u m in let after = sum_of G' H' T' view' u m in omega (arith, come, before, after)

  pub more_by_first : ((u : ℕ) (m : Mark) → holdings G' u m ≡ holdings G u m + more u m) → H' ≡ H → (u : ℕ) (m : Mark) → holdings T' u m ≡ holdings T u m + more u m
  more_by_first come same u m = more_by_both u m (let a = come u m in let b = ap (λ C. holdings C u m) same in omega (arith, a, b))

  pub more_by_second : G' ≡ G → ((u : ℕ) (m : Mark) → holdings H' u m ≡ holdings H u m + more u m) → (u : ℕ) (m : Mark) → holdings T' u m ≡ holdings T u m + more u m
  more_by_second same come u m = more_by_both u m (let a = come u m in let b = ap (λ C. holdings C u m) same in omega (arith, a, b))

-- one that leaves the first table for the second changes nothing
pub once_moved : (G H G' H' : Holdings) (t : ℕ) (n : Mark) → IsHeldOnceMore G' t n G → IsHeldOnceMore H t n H' → (u : ℕ) (m : Mark) → holdings G' u m + holdings H' u m ≡ holdings G u m + holdings H u m
once_moved G H G' H' t n gone come u m = let a = gone u m in let b = come u m in omega (arith, a, b)
