-- Who is in the way of a mark, by the maps and by the table.
use Rattle.std.proofs.Common.{◌≡◌, ℕ, zero, suc, ◌+◌, ◌<◌, ◌≤◌, ◌||◌, Bool, true, false, ◌⊎◌, inl, inr, List, [], ◌∷◌, ◌++◌, Option, Some, None, option_map, get_or, length, map, take, refl, sym, ap, subst, ◌∙◌, arith}
use Rattle.std.proofs.lemmas.Bool.{false≢true, eqb-true, eq-eqb}
use Rattle.std.proofs.lemmas.List.{take_more, take_all}
use Rattle.std.proofs.lemmas.Option.{none-some}
use Rattle.std.specs.List.{list_any}
use Rattle.std.specs.Option.{IfSome}
use Rattle.cg_maps.specs.FiniteMap.{get}
use Rattle.cg_name.specs.declared.refusal.TxnNumber.{TxnNumber}
use Rattle.cg_name.specs.Path.{Path, is_prefix}
use Rattle.cg_model.specs.Footprint as model
use Rattle.cg_model.specs.Footprint.{X, S, N, Pid, Count, clash}
use Rattle.cg_model_laws.proofs.Paths.{same_path-is, same_path-itself}
use Rattle.cg_locks.specs.declared.mark.Mark.{Mark}
use Rattle.cg_locks.specs.Holders.{PathCounts, held_above, held_at, held_below, held_if, held_until, lesser_of, number_of, IsLeast, IsLeastOther, IsOtherHolder}
use Rattle.cg_locks.specs.Holdings.{Holdings, IsInTheWay}
use Rattle.cg_locks.specs.Meaning.{mark_of}
use Rattle.cg_locks.specs.Single.{HoldsClashing, IsLeastInTheWay}
use Rattle.cg_locks.specs.Table.{ByKind, count_of, in_way_of, table_of}
use Rattle.cg_locks.proofs.Above.{first_names, is_first_names, short_first}
use Rattle.cg_locks.proofs.Counts.{least_as, least_of_both, one_of_two}
use Rattle.cg_locks.proofs.Summed.{at_counts, found_below}
use Rattle.cg_locks.proofs.Tables.{told_of}

-- ---- at the paths with which a path begins

until_counts : (T : PathCounts) (p : Path) (d n u : ℕ) → d < n → held_at T (take d p) u ≤ held_until T p n u
until_counts T p d zero u low = absurd (omega (arith, low))
until_counts T p d (suc n) u low = elim (at_or_below d n low) [
  | inl e ↦ (let same : held_at T (take d p) u ≡ held_at T (take n p) u = ap (λ k. held_at T (take k p) u) e in omega (arith, same))
  | inr l ↦ (let rest : held_at T (take d p) u ≤ held_until T p n u = until_counts T p d n u l in omega (arith, rest))
]
  where
    at_or_below : (d n : ℕ) → d < suc n → (d ≡ n) ⊎ (d < n)
    at_or_below d zero low = inl (omega (arith, low))
    at_or_below zero (suc n) low = inr (omega arith)
    at_or_below (suc d) (suc n) low = elim (at_or_below d n (omega (arith, low))) [ inl e ↦ inl (ap suc e) | inr l ↦ inr (omega (arith, l)) ]

above_counts : (T : PathCounts) (q p : Path) (u : ℕ) → is_prefix q p ≡ true → held_at T q u ≤ held_above T p u
above_counts T q p u begins =
    let short : length q ≤ length p = short_first q p begins in
    subst (λ r. held_at T r u ≤ held_above T p u) (is_first_names q p begins) (until_counts T p (length q) (suc (length p)) u (omega (arith, short)))

abbrev Begins : PathCounts → Path → ℕ → Type 0
Begins T p u = (q : Path) × (is_prefix q p ≡ true) × (0 < held_at T q u)

found_until : (T : PathCounts) (p : Path) (n u : ℕ) → 0 < held_until T p n u → Begins T p u
found_until T p zero u low = absurd (omega (arith, low))
found_until T p (suc n) u low = elim (one_of_two (held_until T p n u) (held_at T (take n p) u) low) [
  | inl l ↦ found_until T p n u l
  | inr l ↦ (take n p, first_names p n, l)
]

pub found_above : (T : PathCounts) (p : Path) (u : ℕ) → 0 < held_above T p u → Begins T p u
found_above T p u low = found_until T p (suc (length p)) u low

-- ---- one mark

pub or_first : (a b : Bool) → a ≡ true → a || b ≡ true
or_first true b e = refl
or_first false b e = absurd (false≢true e)

pub or_second : (a b : Bool) → b ≡ true → a || b ≡ true
or_second true b e = refl
or_second false b e = e

pub either : (a b : Bool) → a || b ≡ true → (a ≡ true) ⊎ (b ≡ true)
either true b e = inl refl
either false b e = inr e

module _ (K : ByKind) (u : ℕ) where
  abbrev Clashing : model.Mark → Type 0
  Clashing n = (m : model.Mark) × (0 < count_of K u m) × (clash m n ≡ true)

  -- along a path: at the paths of which one begins with the other
  along_counts : (T : PathCounts) (q p : Path) → 0 < held_at T q u → (is_prefix q p || is_prefix p q) ≡ true → 0 < held_above T p u + held_below T p u
  along_counts T q p low e = elim (either (is_prefix q p) (is_prefix p q) e) [
    | inl y ↦ (let c = above_counts T q p u y in omega (arith, c, low))
    | inr y ↦ (let c = at_counts T p q u y in omega (arith, c, low))
  ]

  found_along : (T : PathCounts) (p : Path) → 0 < held_above T p u + held_below T p u → (q : Path) × ((is_prefix q p || is_prefix p q) ≡ true) × (0 < held_at T q u)
  found_along T p low = elim (one_of_two (held_above T p u) (held_below T p u) low) [
    | inl l ↦ (let w = found_above T p u l in (w.0, or_first (is_prefix w.0 p) (is_prefix p w.0) w.1, w.2))
    | inr l ↦ (let w = found_below T p u l in (w.0, or_second (is_prefix w.0 p) (is_prefix p w.0) w.1, w.2))
  ]

  pub in_way : (n m : model.Mark) → 0 < count_of K u m → clash m n ≡ true → 0 < in_way_of K n u
  in_way (X p) (X q) low e = let c : 0 < held_above K.changed p u + held_below K.changed p u = along_counts K.changed q p low e in omega (arith, c)
  in_way (X p) (S q) low e = let c : 0 < held_above K.read p u + held_below K.read p u = along_counts K.read q p low e in omega (arith, c)
  in_way (X p) (N q) low e = let c : held_at K.stays q u ≤ held_below K.stays p u = at_counts K.stays p q u e in omega (arith, c, low)
  in_way (X p) (Pid k) low e = absurd (false≢true e)
  in_way (X p) (Count q) low e = absurd (false≢true e)
  in_way (S p) (X q) low e = let c : 0 < held_above K.changed p u + held_below K.changed p u = along_counts K.changed q p low e in omega (arith, c)
  in_way (S p) (S q) low e = absurd (false≢true e)
  in_way (S p) (N q) low e = let c : held_at K.stays q u ≤ held_below K.stays p u = at_counts K.stays p q u e in omega (arith, c, low)
  in_way (S p) (Pid k) low e = absurd (false≢true e)
  in_way (S p) (Count q) low e = absurd (false≢true e)
  in_way (N p) (X q) low e = let c : held_at K.changed q u ≤ held_above K.changed p u = above_counts K.changed q p u e in omega (arith, c, low)
  in_way (N p) (S q) low e = let c : held_at K.read q u ≤ held_above K.read p u = above_counts K.read q p u e in omega (arith, c, low)
  in_way (N p) (N q) low e = absurd (false≢true e)
  in_way (N p) (Pid k) low e = absurd (false≢true e)
  in_way (N p) (Count q) low e = absurd (false≢true e)
  in_way (Pid k) (X q) low e = absurd (false≢true e)
  in_way (Pid k) (S q) low e = absurd (false≢true e)
  in_way (Pid k) (N q) low e = absurd (false≢true e)
  in_way (Pid k) (Pid l) low e = subst (λ x. 0 < held_if (get K.processes x) u) (eqb-true l k e) low
  in_way (Pid k) (Count q) low e = absurd (false≢true e)
  in_way (Count p) (X q) low e = absurd (false≢true e)
  in_way (Count p) (S q) low e = absurd (false≢true e)
  in_way (Count p) (N q) low e = absurd (false≢true e)
  in_way (Count p) (Pid k) low e = absurd (false≢true e)
  in_way (Count p) (Count q) low e = subst (λ x. 0 < held_at K.descendants x u) (same_path-is q p e) low

  pub found_in_way : (n : model.Mark) → 0 < in_way_of K n u → Clashing n
  found_in_way (X p) low = elim (one_of_two ((held_above K.changed p u + held_below K.changed p u) + (held_above K.read p u + held_below K.read p u)) (held_below K.stays p u) low) [
    | inl l ↦ (elim (one_of_two (held_above K.changed p u + held_below K.changed p u) (held_above K.read p u + held_below K.read p u) l) [
      | inl z ↦ (let w = found_along K.changed p z in (X w.0, w.2, w.1))
      | inr z ↦ (let w = found_along K.read p z in (S w.0, w.2, w.1))
    ])
    | inr l ↦ (let w = found_below K.stays p u l in (N w.0, w.2, w.1))
  ]
  found_in_way (S p) low = elim (one_of_two (held_above K.changed p u + held_below K.changed p u) (held_below K.stays p u) low) [
    | inl z ↦ (let w = found_along K.changed p z in (X w.0, w.2, w.1))
    | inr l ↦ (let w = found_below K.stays p u l in (N w.0, w.2, w.1))
  ]
  found_in_way (N p) low = elim (one_of_two (held_above K.changed p u) (held_above K.read p u) low) [
    | inl z ↦ (let w = found_above K.changed p u z in (X w.0, w.2, w.1))
    | inr z ↦ (let w = found_above K.read p u z in (S w.0, w.2, w.1))
  ]
  found_in_way (Pid k) low = (Pid k, low, eq-eqb k k refl)
  found_in_way (Count p) low = (Count p, low, same_path-itself p)

-- the least by the maps is the least by the table
pub least_way_of : (K : ByKind) (H : Holdings) → table_of K ≡ H → (t : ℕ) (n : model.Mark) (r : Option ℕ) → IsLeastOther t (in_way_of K n) r → IsLeastInTheWay H t n r
least_way_of K H view t n r h =
    least_as (IsOtherHolder t (in_way_of K n)) (HoldsClashing H t n) r
    (λ u w. let c = found_in_way K u n w.1 in record { other = w.0; mark = c.0; held = subst (λ k. 0 < k) (sym (told_of K H view u c.0)) c.1; clashing = c.2 })
    (λ u w. (w.other, in_way K u n w.mark (subst (λ k. 0 < k) (told_of K H view u w.mark) w.held) w.clashing))
    h

pub least_way : (K : ByKind) (H : Holdings) → table_of K ≡ H → (t : ℕ) (x : Mark) (n : model.Mark) (r : Option ℕ) → mark_of x ≡ n → IsLeastOther t (in_way_of K n) r → IsLeastInTheWay H t (mark_of x) r
least_way K H view t x n r means h = subst (λ m. IsLeastInTheWay H t m r) (sym means) (least_way_of K H view t n r h)

-- ---- mark by mark

any_pushed : (p : model.Mark → Bool) (xs : List Mark) (x : Mark) → list_any p (map mark_of (xs ++ x ∷ [])) ≡ list_any p (map mark_of xs) || p (mark_of x)
any_pushed p [] x = elim (p (mark_of x)) as (λ b. b || false ≡ b) [ true ↦ refl | false ↦ refl ]
any_pushed p (y ∷ ys) x = elim (p (mark_of y)) as (λ b. b || list_any p (map mark_of (ys ++ x ∷ [])) ≡ (b || list_any p (map mark_of ys)) || p (mark_of x)) [ true ↦ refl | false ↦ any_pushed p ys x ]

module _ (H : Holdings) (t : ℕ) where
  abbrev pub IsLeastSoFar : List Mark → ℕ → Option ℕ → Type 0
  IsLeastSoFar xs i r = IsLeast (IsInTheWay H t (map mark_of (take i xs))) r

  pub none_so_far : (xs : List Mark) → IsLeastSoFar xs 0 None
  none_so_far xs = record {
    some = λ u e. absurd (none-some u e);
    least = λ u e. absurd (none-some u e);
    none = λ e v w. false≢true w.clashing;
  }

  pub next_so_far : (xs : List Mark) (i : ℕ) (x : Mark) (r s : Option ℕ) → i < length xs → x ≡ get_or xs i x → IsLeastSoFar xs i r → IsLeastInTheWay H t (mark_of x) s → IsLeastSoFar xs (i + 1) (lesser_of r s)
  next_so_far xs i x r s low at before now =
      let more : take (i + 1) xs ≡ take i xs ++ x ∷ [] = take_more xs i x low ∙ ap (λ y. take i xs ++ y ∷ []) (sym at) in
      subst (λ ys. IsLeast (IsInTheWay H t (map mark_of ys)) (lesser_of r s)) (sym more) (
      least_of_both (IsInTheWay H t (map mark_of (take i xs))) (HoldsClashing H t (mark_of x)) (IsInTheWay H t (map mark_of (take i xs ++ x ∷ [])))
      (λ u w. elim (either (list_any (clash w.mark) (map mark_of (take i xs))) (clash w.mark (mark_of x)) (sym (any_pushed (clash w.mark) (take i xs) x) ∙ w.clashing)) [
        | inl y ↦ inl (record { other = w.other; mark = w.mark; held = w.held; clashing = y })
        | inr y ↦ inr (record { other = w.other; mark = w.mark; held = w.held; clashing = y })
      ])
      (λ u w. record { other = w.other; mark = w.mark; held = w.held; clashing = any_pushed (clash w.mark) (take i xs) x ∙ or_first (list_any (clash w.mark) (map mark_of (take i xs))) (clash w.mark (mark_of x)) w.clashing })
      (λ u w. record { other = w.other; mark = w.mark; held = w.held; clashing = any_pushed (clash w.mark) (take i xs) x ∙ or_second (list_any (clash w.mark) (map mark_of (take i xs))) (clash w.mark (mark_of x)) w.clashing })
      r s before now)

  pub all_so_far : (xs : List Mark) (f : List model.Mark) (i : ℕ) (r : Option ℕ) → map mark_of xs ≡ f → length xs ≤ i → IsLeastSoFar xs i r → IsLeast (IsInTheWay H t f) r
  all_so_far xs f i r is end h = subst (λ g. IsLeast (IsInTheWay H t g) r) (ap (map mark_of) (take_all i xs end) ∙ is) h

  -- of a footprint of one mark
  pub least_of_one : (f : List model.Mark) (x : Mark) (r : Option ℕ) → f ≡ mark_of x ∷ [] → IsLeastInTheWay H t (mark_of x) r → IsLeast (IsInTheWay H t f) r
  least_of_one f x r is h = subst (λ g. IsLeast (IsInTheWay H t g) r) (sym is) (next_so_far (x ∷ []) 0 x None r (omega arith) refl (none_so_far (x ∷ [])) h)

pub some_found : (P : ℕ → Type 0) (r : Option TxnNumber) → IsLeast P (option_map number_of r) → IfSome r (λ u. P u.0)
some_found P None h = tt
some_found P (Some u) h = h.some u.0 refl

pub least_is_found : (P : ℕ → Type 0) (r : Option TxnNumber) → IsLeast P (option_map number_of r) → IfSome r (λ u. (v : ℕ) → P v → u.0 ≤ v)
least_is_found P None h = tt
least_is_found P (Some u) h = h.least u.0 refl

pub none_is_found : (P : ℕ → Type 0) (r : Option TxnNumber) → IsLeast P (option_map number_of r) → r ≡ None → (v : ℕ) → ¬ (P v)
none_is_found P r h e = h.none (ap (option_map number_of) e)
