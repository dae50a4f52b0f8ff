-- What a table tells is what its maps say.
use Rattle.std.proofs.Common.{◌≡◌, ℕ, zero, suc, ◌+◌, ◌<◌, ◌==◌, ◌&&◌, Bool, true, false, cond, ◌⊎◌, inl, inr, List, [], ◌∷◌, ◌++◌, Option, Some, None, unwrap_or, refl, sym, ap, subst, ◌∙◌, arith}
use Rattle.std.proofs.lemmas.Bool.{false≢true}
use Rattle.std.proofs.lemmas.Option.{none-some, same_Some}
use Rattle.std.specs.Cmp.{IsTotalOrder, nat_cmp_total}
use Rattle.std.specs.declared.cmp.Ordering.{Ordering}
use Rattle.std.specs.FinMap.{IsAntisymmetric, nat_cmp-IsAntisymmetric}
use Rattle.std.specs.FinMap.Entries.{find}
use Rattle.std.specs.Ordering.{eq_by_cmp, nat_cmp}
use Rattle.cg_maps.specs.FiniteMap.{FiniteMap, entries, get}
use Rattle.cg_maps.proofs.Maps as maps
use Rattle.cg_name.specs.Order.{path_cmp_total, path_cmp_exact}
use Rattle.cg_model.specs.Footprint.{Mark, X, S, N, Pid, Count}
use Rattle.cg_locks.specs.Holders.{Counts, held_by, held_if, one}
use Rattle.cg_locks.specs.Holdings.{Holdings, holdings, holding_cmp}
use Rattle.cg_locks.specs.Marks.{same_mark}
use Rattle.cg_locks.specs.Single.{IsHeldOnceMore, IsNeat}
use Rattle.cg_locks.specs.Table.{ByKind, count_of, if_any, of_kind, table_by, table_of, with_mark}
use Rattle.cg_locks.proofs.Marks.{holding_cmp_total, holding_cmp_exact}

-- the transaction and the mark are listed
abbrev pub IsListed : ℕ × Mark → List (ℕ × Mark) → Type 0
IsListed h [] = ⊥
IsListed h (k ∷ ks) = (h ≡ k) ⊎ IsListed h ks

pub listed_first : (h : ℕ × Mark) (ks ls : List (ℕ × Mark)) → IsListed h ks → IsListed h (ks ++ ls)
listed_first h [] ls w = absurd w
listed_first h (k ∷ ks) ls w = elim w [ inl e ↦ inl e | inr v ↦ inr (listed_first h ks ls v) ]

pub listed_then : (h : ℕ × Mark) (ks ls : List (ℕ × Mark)) → IsListed h ls → IsListed h (ks ++ ls)
listed_then h [] ls w = w
listed_then h (k ∷ ks) ls w = inr (listed_then h ks ls w)

-- ---- a table of listed transactions and marks

module _ (f : ℕ → Mark → ℕ) where
  next : (h k : ℕ × Mark) (ks : List (ℕ × Mark)) → get (table_by f (k ∷ ks)) h ≡ cond (eq_by_cmp holding_cmp h k) (if_any (f k.0 k.1)) (get (table_by f ks) h)
  next h k ks = maps.get-set_at holding_cmp_total holding_cmp_exact (table_by f ks) k (if_any (f k.0 k.1)) h

  never : (h : ℕ × Mark) (ks : List (ℕ × Mark)) → f h.0 h.1 ≡ 0 → get (table_by f ks) h ≡ None
  never h [] e = maps.get-empty holding_cmp h
  never h (k ∷ ks) e = next h k ks ∙ elim (eq_by_cmp holding_cmp h k) as (λ b. eq_by_cmp holding_cmp h k ≡ b → cond b (if_any (f k.0 k.1)) (get (table_by f ks) h) ≡ None) [
    | true ↦ λ is. ap (λ x. if_any (f x.0 x.1)) (sym (maps.is_same holding_cmp_total holding_cmp_exact h k is)) ∙ ap if_any e
    | false ↦ λ is. never h ks e
  ] refl

  listed : (h : ℕ × Mark) (ks : List (ℕ × Mark)) → IsListed h ks → get (table_by f ks) h ≡ if_any (f h.0 h.1)
  listed h [] w = absurd w
  listed h (k ∷ ks) w = next h k ks ∙ elim (eq_by_cmp holding_cmp h k) as (λ b. eq_by_cmp holding_cmp h k ≡ b → cond b (if_any (f k.0 k.1)) (get (table_by f ks) h) ≡ if_any (f h.0 h.1)) [
    | true ↦ λ is. ap (λ x. if_any (f x.0 x.1)) (sym (maps.is_same holding_cmp_total holding_cmp_exact h k is))
    | false ↦ λ is. elim w [
      | inl e ↦ absurd (false≢true (sym is ∙ ap (eq_by_cmp holding_cmp h) (sym e) ∙ maps.here holding_cmp_total holding_cmp_exact h))
      | inr v ↦ listed h ks v
    ]
  ] refl

  pub all_listed : (h : ℕ × Mark) (ks : List (ℕ × Mark)) → (0 < f h.0 h.1 → IsListed h ks) → get (table_by f ks) h ≡ if_any (f h.0 h.1)
  all_listed h ks w = elim (f h.0 h.1) as (λ n. f h.0 h.1 ≡ n → get (table_by f ks) h ≡ if_any n) [
    | zero ↦ λ e. never h ks e
    | suc n ↦ λ e. listed h ks (w (omega (arith, e))) ∙ ap if_any e
  ] refl

-- ---- who holds is listed

mark_listed : (m : Mark) (es : List (ℕ × ℕ)) (u n : ℕ) → find nat_cmp u es ≡ Some n → IsListed (u, m) (with_mark m es)
mark_listed m [] u n e = absurd (none-some n e)
mark_listed m (x ∷ es) u n e = elim (eq_by_cmp nat_cmp u x.0) as (λ b. eq_by_cmp nat_cmp u x.0 ≡ b → cond b (Some x.1) (find nat_cmp u es) ≡ Some n → IsListed (u, m) (with_mark m (x ∷ es))) [
  | true ↦ λ is _. inl (λ i. (maps.is_same nat_cmp_total nat_cmp-IsAntisymmetric u x.0 is i, m))
  | false ↦ λ is s. inr (mark_listed m es u n s)
] refl e

holder_listed : (m : Mark) (C : Counts) (u : ℕ) → 0 < held_by C u → IsListed (u, m) (with_mark m (entries C))
unfolding get entries
holder_listed m C u low = elim (find nat_cmp u C.list) as (λ r. find nat_cmp u C.list ≡ r → 0 < unwrap_or r 0 → IsListed (u, m) (with_mark m C.list)) [
  | None ↦ λ e z. absurd (omega (arith, z))
  | Some n ↦ λ e z. mark_listed m C.list u n e
] refl low

module _ {A : Type 0} {R : A → A → Ordering} (o : IsTotalOrder R) (same : IsAntisymmetric R) (F : A → Mark) (a : A) (u : ℕ) where
  kind_listed : (es : List (A × Counts)) (C : Counts) → find R a es ≡ Some C → 0 < held_by C u → IsListed (u, F a) (of_kind F es)
  kind_listed [] C e low = absurd (none-some C e)
  kind_listed (x ∷ es) C e low = elim (eq_by_cmp R a x.0) as (λ b. eq_by_cmp R a x.0 ≡ b → cond b (Some x.1) (find R a es) ≡ Some C → IsListed (u, F a) (of_kind F (x ∷ es))) [
    | true ↦ λ is s. listed_first (u, F a) (with_mark (F x.0) (entries x.1)) (of_kind F es)
        (subst (λ y. IsListed (u, F y) (with_mark (F x.0) (entries x.1))) (sym (maps.is_same o same a x.0 is))
        (holder_listed (F x.0) x.1 u (subst (λ D. 0 < held_by D u) (sym (same_Some x.1 C s)) low)))
    | false ↦ λ is s. listed_then (u, F a) (with_mark (F x.0) (entries x.1)) (of_kind F es) (kind_listed es C s low)
  ] refl e

  pub kind_covers : (M : FiniteMap R Counts) → 0 < held_if (get M a) u → IsListed (u, F a) (of_kind F (entries M))
  unfolding get entries
  kind_covers M low = elim (find R a M.list) as (λ r. find R a M.list ≡ r → 0 < held_if r u → IsListed (u, F a) (of_kind F M.list)) [
    | None ↦ λ e z. absurd (omega (arith, z))
    | Some C ↦ λ e z. kind_listed M.list C e z
  ] refl low

module _ (K : ByKind) where
  abbrev ofX : List (ℕ × Mark)
  ofX = of_kind X (entries K.changed)

  abbrev ofS : List (ℕ × Mark)
  ofS = of_kind S (entries K.read)

  abbrev ofN : List (ℕ × Mark)
  ofN = of_kind N (entries K.stays)

  abbrev ofPid : List (ℕ × Mark)
  ofPid = of_kind Pid (entries K.processes)

  abbrev ofCount : List (ℕ × Mark)
  ofCount = of_kind Count (entries K.descendants)

  covered : (u : ℕ) (m : Mark) → 0 < count_of K u m → IsListed (u, m) (ofX ++ (ofS ++ (ofN ++ (ofPid ++ ofCount))))
  covered u (X p) low = listed_first (u, X p) ofX (ofS ++ (ofN ++ (ofPid ++ ofCount))) (kind_covers path_cmp_total path_cmp_exact X p u K.changed low)
  covered u (S p) low = listed_then (u, S p) ofX (ofS ++ (ofN ++ (ofPid ++ ofCount))) (listed_first (u, S p) ofS (ofN ++ (ofPid ++ ofCount)) (kind_covers path_cmp_total path_cmp_exact S p u K.read low))
  covered u (N p) low =
      listed_then (u, N p) ofX (ofS ++ (ofN ++ (ofPid ++ ofCount))) (listed_then (u, N p) ofS (ofN ++ (ofPid ++ ofCount))
      (listed_first (u, N p) ofN (ofPid ++ ofCount) (kind_covers path_cmp_total path_cmp_exact N p u K.stays low)))
  covered u (Pid k) low =
      listed_then (u, Pid k) ofX (ofS ++ (ofN ++ (ofPid ++ ofCount))) (listed_then (u, Pid k) ofS (ofN ++ (ofPid ++ ofCount)) (listed_then (u, Pid k) ofN (ofPid ++ ofCount)
      (listed_first (u, Pid k) ofPid ofCount (kind_covers nat_cmp_total nat_cmp-IsAntisymmetric Pid k u K.processes low))))
  covered u (Count p) low =
      listed_then (u, Count p) ofX (ofS ++ (ofN ++ (ofPid ++ ofCount))) (listed_then (u, Count p) ofS (ofN ++ (ofPid ++ ofCount)) (listed_then (u, Count p) ofN (ofPid ++ ofCount)
      (listed_then (u, Count p) ofPid ofCount (kind_covers path_cmp_total path_cmp_exact Count p u K.descendants low))))

  pub entry_told : (u : ℕ) (m : Mark) → get (table_of K) (u, m) ≡ if_any (count_of K u m)
  unfolding table_of
  entry_told u m = all_listed (count_of K) (u, m) (ofX ++ (ofS ++ (ofN ++ (ofPid ++ ofCount)))) (covered u m)

pub or_none : (n : ℕ) → unwrap_or (if_any n) 0 ≡ n
or_none zero = refl
or_none (suc n) = refl

pub told : (K : ByKind) (u : ℕ) (m : Mark) → holdings (table_of K) u m ≡ count_of K u m
unfolding holdings
told K u m = ap (λ r. unwrap_or r 0) (entry_told K u m) ∙ or_none (count_of K u m)

pub told_of : (K : ByKind) (H : Holdings) → table_of K ≡ H → (u : ℕ) (m : Mark) → holdings H u m ≡ count_of K u m
told_of K H e u m = ap (λ G. holdings G u m) (sym e) ∙ told K u m

pub same_table : (K L : ByKind) → ((u : ℕ) (m : Mark) → count_of K u m ≡ count_of L u m) → table_of K ≡ table_of L
same_table K L same = maps.same_map holding_cmp_total holding_cmp_exact (table_of K) (table_of L) (λ h.
    entry_told K h.0 h.1 ∙ ap if_any (same h.0 h.1) ∙ sym (entry_told L h.0 h.1))

swapped : (a b : Bool) → ◌≡◌ {A = ℕ} (one (a && b)) (cond b (cond a 1 0) 0)
swapped true true = refl
swapped true false = refl
swapped false true = refl
swapped false false = refl

-- one holding more by the maps is one by the tables
pub more_told : (K L : ByKind) (G H : Holdings) (t : ℕ) (n : Mark) → table_of K ≡ G → table_of L ≡ H → ((u : ℕ) (m : Mark) → count_of L u m ≡ count_of K u m + one (same_mark m n && (u == t))) → IsHeldOnceMore G t n H
more_told K L G H t n g h more u m =
    told_of L H h u m ∙ more u m
    ∙ (λ i. sym (told_of K G g u m) i + swapped (same_mark m n) (u == t) i)

-- ---- tables that tell the same

pub neat_any : (k n : ℕ) → if_any k ≡ Some n → 0 < n
neat_any zero n e = absurd (none-some n e)
neat_any (suc k) n e = let is : suc k ≡ n = same_Some (suc k) n e in omega (arith, is)

pub neat : (K : ByKind) (H : Holdings) → table_of K ≡ H → IsNeat H
neat K H view = subst IsNeat view (λ u m n e. neat_any (count_of K u m) n (sym (entry_told K u m) ∙ e))

same_entry : (a b : Option ℕ) → ((n : ℕ) → a ≡ Some n → 0 < n) → ((n : ℕ) → b ≡ Some n → 0 < n) → unwrap_or a 0 ≡ unwrap_or b 0 → a ≡ b
same_entry None None h k e = refl
same_entry None (Some n) h k e = let low : 0 < n = k n refl in absurd (omega (arith, e, low))
same_entry (Some n) None h k e = let low : 0 < n = h n refl in absurd (omega (arith, e, low))
same_entry (Some n) (Some k) h l e = ap Some e

pub same_neat : (G H : Holdings) → IsNeat G → IsNeat H → ((u : ℕ) (m : Mark) → holdings G u m ≡ holdings H u m) → G ≡ H
unfolding holdings
same_neat G H g h same = maps.same_map holding_cmp_total holding_cmp_exact G H (λ k. same_entry (get G k) (get H k) (g k.0 k.1) (h k.0 k.1) (same k.0 k.1))
