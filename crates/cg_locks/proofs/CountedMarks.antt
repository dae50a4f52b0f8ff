-- The marks of a footprint on numbers of descendants, beside its others.
use Rattle.std.proofs.Common.{◌≡◌, ℕ, ◌+◌, ◌<◌, ◌≤◌, ◌==◌, ◌||◌, Bool, true, false, cond, ◌⊎◌, inl, inr, List, [], ◌∷◌, ◌++◌, Option, Some, None, option_map, map, refl, sym, ap, subst, ◌∙◌, arith}
use Rattle.std.proofs.lemmas.Bool.{false≢true}
use Rattle.std.proofs.lemmas.List.Sums.{sum_by-append, sum_by-cons, sum_by_push}
use Rattle.std.specs.List.{list_any}
use Rattle.cg_name.specs.declared.refusal.TxnNumber.{TxnNumber}
use Rattle.cg_name.specs.Path.{Path, same_path}
use Rattle.cg_model.specs.Footprint.{Mark, X, S, N, Pid, Count, clash}
use Rattle.cg_model_laws.proofs.Paths.{same_path-itself}
use Rattle.cg_locks.specs.Counts.{counts_at, prefixes}
use Rattle.cg_locks.specs.declared.footprint.Counted.{Counted}
use Rattle.cg_locks.specs.declared.held.Kind.TheVariants as kinds
use Rattle.cg_locks.specs.declared.mark.Mark as rust
use Rattle.cg_locks.specs.declared.mark.Mark.TheVariants as marks
use Rattle.cg_locks.specs.Held.{Marked, AreCountedMore}
use Rattle.cg_locks.specs.Holders.{Counts, PathCounts, held_at, held_on, lesser_of, number_of, times_on, IsLeast, IsLeastOther, IsOtherHolder}
use Rattle.cg_locks.specs.Holdings.{Holdings, holdings, HoldsAll, IsInTheWay}
use Rattle.cg_locks.specs.Marks.{same_mark, times}
use Rattle.cg_locks.specs.Meaning.{counts_of, mark_of}
use Rattle.cg_locks.specs.Table.{by_kind, ByKind, count_of, table_of}
use Rattle.cg_locks.proofs.CountedNodes.{times-cons}
use Rattle.cg_locks.proofs.Counts.{least_as, least_of_both, one_of_two}
use Rattle.cg_locks.proofs.Enough.{IsMoreBy}
use Rattle.cg_locks.proofs.Tables.{told_of}
use Rattle.cg_locks.proofs.Ways.{either, in_way, or_first, or_second}

-- ---- how often a mark stands there

pushed : (m : Mark) (q : Path) (qs : List Path) → times m (counts_at (q ∷ qs)) ≡ times m (counts_at qs) + cond (same_mark m (Count q)) 1 0
pushed m q qs = sum_by_push (λ n. cond (same_mark m n) 1 0) (counts_at qs) (Count q)

pub times_counted : (r : Path) (ps : List Path) → times (Count r) (counts_at ps) ≡ times_on r ps
times_counted r [] = refl
times_counted r (q ∷ qs) =
    let a : times (Count r) (counts_at (q ∷ qs)) ≡ times (Count r) (counts_at qs) + cond (same_path r q) 1 0 = pushed (Count r) q qs in
    let b = times_counted r qs in
    let c = times-cons r q qs in
    omega (arith, a, b, c)

-- a mark of another kind
abbrev pub IsOther : Mark → Type 0
IsOther m = (q : Path) → same_mark m (Count q) ≡ false

pub never : (m : Mark) → IsOther m → (ps : List Path) → times m (counts_at ps) ≡ 0
never m other [] = none m
  where
    none : (n : Mark) → times n [] ≡ 0
    none n = refl
never m other (q ∷ qs) = pushed m q qs ∙ (λ i. never m other qs i + cond (other q i) 1 0)

no_count : (r : Path) (ms : List rust.Mark) → times (Count r) (map mark_of ms) ≡ 0
no_count r [] = refl
no_count r (x ∷ ms) = sum_by-cons (λ n. cond (same_mark (Count r) n) 1 0) (mark_of x) (map mark_of ms) ∙ (λ i. cond (apart x i) 1 0 + no_count r ms i)
  where
    apart : (y : rust.Mark) → same_mark (Count r) (mark_of y) ≡ false
    apart (marks.Changed p) = refl
    apart (marks.Read p) = refl
    apart (marks.Stays p) = refl
    apart (marks.Process k) = refl

-- a mark stands among the ones or among the others
one_alone : (ms : List rust.Mark) (ps : List Path) (m : Mark) → (times m (map mark_of ms) ≡ 0) ⊎ (times m (counts_at ps) ≡ 0)
one_alone ms ps (X p) = inr (never (X p) (λ q. refl) ps)
one_alone ms ps (S p) = inr (never (S p) (λ q. refl) ps)
one_alone ms ps (N p) = inr (never (N p) (λ q. refl) ps)
one_alone ms ps (Pid k) = inr (never (Pid k) (λ q. refl) ps)
one_alone ms ps (Count p) = inl (no_count p ms)

-- the marks are those at some paths
pub at_paths : (P : List Mark → Type 0) → ((ps : List Path) → P (counts_at ps)) → (c : Option Counted) → P (counts_of c)
at_paths P all None = all []
at_paths P all (Some c) = all (prefixes c.path.now c.depths.now)

times_both : (m : Mark) (f g : List Mark) → times m (f ++ g) ≡ times m f + times m g
times_both m f g = sum_by-append (λ n. cond (same_mark m n) 1 0) f g

-- ---- held together

pub both_held : (H : Holdings) (t : ℕ) (ms : List rust.Mark) (c : Option Counted) (f : List Mark) → map mark_of ms ++ counts_of c ≡ f → HoldsAll H t (map mark_of ms) → HoldsAll H t (counts_of c) → HoldsAll H t f
both_held H t ms c f is ones counts m =
    let a : times m (map mark_of ms ++ counts_of c) ≡ times m (map mark_of ms) + times m (counts_of c) = times_both m (map mark_of ms) (counts_of c) in
    let all : times m f ≡ times m (map mark_of ms ++ counts_of c) = ap (times m) (sym is) in
    let x : times m (map mark_of ms) ≤ holdings H t m = ones m in
    let y : times m (counts_of c) ≤ holdings H t m = counts m in
    elim (at_paths (λ g. (times m (map mark_of ms) ≡ 0) ⊎ (times m g ≡ 0)) (λ ps. one_alone ms ps m) c) [
      | inl none ↦ omega (arith, a, all, x, y, none)
      | inr none ↦ omega (arith, a, all, x, y, none)
    ]

pub ones_held : (H : Holdings) (t : ℕ) (g h f : List Mark) → g ++ h ≡ f → HoldsAll H t f → HoldsAll H t g
ones_held H t g h f is all m =
    let a = times_both m g h in
    let b : times m f ≡ times m (g ++ h) = ap (times m) (sym is) in
    let x : times m f ≤ holdings H t m = all m in
    omega (arith, a, b, x)

pub counts_held : (H : Holdings) (t : ℕ) (g h f : List Mark) → g ++ h ≡ f → HoldsAll H t f → HoldsAll H t h
counts_held H t g h f is all m =
    let a = times_both m g h in
    let b : times m f ≡ times m (g ++ h) = ap (times m) (sym is) in
    let x : times m f ≤ holdings H t m = all m in
    omega (arith, a, b, x)

split_more : (b : Bool) (x y : ℕ) → cond b (x + y) 0 ≡ cond b x 0 + cond b y 0
split_more true x y = refl
split_more false x y = refl

pub both_more : (H M H' : Holdings) (t : ℕ) (g h f : List Mark) → g ++ h ≡ f → IsMoreBy H t g M → IsMoreBy M t h H' → IsMoreBy H t f H'
both_more H M H' t g h f is first then u m =
    let a = first u m in
    let b = then u m in
    let c : cond (u == t) (times m f) 0 ≡ cond (u == t) (times m g) 0 + cond (u == t) (times m h) 0 =
    ap (λ n. cond (u == t) n 0) (ap (times m) (sym is) ∙ times_both m g h) ∙ split_more (u == t) (times m g) (times m h) in
    omega (arith, a, b, c)

-- ---- by the maps and by the table

module _ (M M' : Marked) (es : List (ℕ × Counts)) (ps : List Path) (t : ℕ) (more : AreCountedMore M ps t M') where
  none_more : (u : ℕ) (m : Mark) → IsOther m → cond (u == t) (times m (counts_at ps)) 0 ≡ 0
  none_more u m other = ap (λ n. cond (u == t) n 0) (never m other ps) ∙ elim (u == t) as (λ b. ◌≡◌ {A = ℕ} (cond b 0 0) 0) [ true ↦ refl | false ↦ refl ]

  counted_more : (u : ℕ) (m : Mark) → count_of (by_kind M' es) u m ≡ count_of (by_kind M es) u m + cond (u == t) (times m (counts_at ps)) 0
  counted_more u (X q) = let a : held_at M'.changed q u ≡ held_at M.changed q u + 0 = more kinds.Changed q u in let z = none_more u (X q) (λ r. refl) in omega (arith, a, z)
  counted_more u (S q) = let a : held_at M'.read q u ≡ held_at M.read q u + 0 = more kinds.Read q u in let z = none_more u (S q) (λ r. refl) in omega (arith, a, z)
  counted_more u (N q) = let a : held_at M'.stays q u ≡ held_at M.stays q u + 0 = more kinds.Stays q u in let z = none_more u (N q) (λ r. refl) in omega (arith, a, z)
  counted_more u (Pid k) = let z = none_more u (Pid k) (λ r. refl) in omega (arith, z)
  counted_more u (Count q) = more kinds.Descendants q u ∙ ap (λ n. held_at M.descendants q u + cond (u == t) n 0) (sym (times_counted q ps))

  pub more_by : (G H : Holdings) → table_of (by_kind M es) ≡ G → table_of (by_kind M' es) ≡ H → IsMoreBy G t (counts_at ps) H
  more_by G H g h u m = told_of (by_kind M' es) H h u m ∙ counted_more u m ∙ ap (λ n. n + cond (u == t) (times m (counts_at ps)) 0) (sym (told_of (by_kind M es) G g u m))

-- the same of marks that may be missing
pub more_by_these : (M M' : Marked) (es : List (ℕ × Counts)) (o : Option Counted) (c : Counted) → o ≡ Some c → (t : ℕ) → AreCountedMore M (prefixes c.path.now c.depths.now) t M'
    → (G H : Holdings) → table_of (by_kind M es) ≡ G → table_of (by_kind M' es) ≡ H → IsMoreBy G t (counts_of o) H
more_by_these M M' es o c is t more G H g h =
    subst (λ x. IsMoreBy G t (counts_of x) H) (sym is) (more_by M M' es (prefixes c.path.now c.depths.now) t more G H g h)

module _ (K : ByKind) (H : Holdings) (view : table_of K ≡ H) (t : ℕ) (ps : List Path) where
  pub held_of_all : HoldsAll H t (counts_at ps) → (q : Path) → times_on q ps ≤ held_at K.descendants q t
  held_of_all all q =
      let a : times (Count q) (counts_at ps) ≤ holdings H t (Count q) = all (Count q) in
      let b = times_counted q ps in
      let c : holdings H t (Count q) ≡ held_at K.descendants q t = told_of K H view t (Count q) in
      omega (arith, a, b, c)

  pub all_of_held : ((q : Path) → times_on q ps ≤ held_at K.descendants q t) → HoldsAll H t (counts_at ps)
  all_of_held held (X p) = let z = never (X p) (λ q. refl) ps in omega (arith, z)
  all_of_held held (S p) = let z = never (S p) (λ q. refl) ps in omega (arith, z)
  all_of_held held (N p) = let z = never (N p) (λ q. refl) ps in omega (arith, z)
  all_of_held held (Pid k) = let z = never (Pid k) (λ q. refl) ps in omega (arith, z)
  all_of_held held (Count p) =
      let a : times_on p ps ≤ held_at K.descendants p t = held p in
      let b = times_counted p ps in
      let c : holdings H t (Count p) ≡ held_at K.descendants p t = told_of K H view t (Count p) in
      omega (arith, a, b, c)

-- ---- who is in the way

any_both : (p : Mark → Bool) (f g : List Mark) → list_any p (f ++ g) ≡ list_any p f || list_any p g
any_both p [] g = refl
any_both p (x ∷ f) g = elim (p x) as (λ b. b || list_any p (f ++ g) ≡ (b || list_any p f) || list_any p g) [ true ↦ refl | false ↦ any_both p f g ]

any_last : (p : Mark → Bool) (f : List Mark) (x : Mark) → list_any p (f ++ x ∷ []) ≡ list_any p f || p x
any_last p f x = any_both p f (x ∷ []) ∙ ap (λ b. list_any p f || b) (elim (p x) as (λ b. b || false ≡ b) [ true ↦ refl | false ↦ refl ])

pub least_of_two : (H : Holdings) (t : ℕ) (g h f : List Mark) → g ++ h ≡ f → (r s : Option ℕ) (o : Option TxnNumber) → option_map number_of o ≡ lesser_of r s
    → IsLeast (IsInTheWay H t g) r → IsLeast (IsInTheWay H t h) s → IsLeast (IsInTheWay H t f) (option_map number_of o)
least_of_two H t g h f is r s o lesser a b = subst (λ l. IsLeast (IsInTheWay H t l) (option_map number_of o)) is (subst (IsLeast (IsInTheWay H t (g ++ h))) (sym lesser) (
    least_of_both (IsInTheWay H t g) (IsInTheWay H t h) (IsInTheWay H t (g ++ h))
    (λ u w. elim (either (list_any (clash w.mark) g) (list_any (clash w.mark) h) (sym (any_both (clash w.mark) g h) ∙ w.clashing)) [
      | inl y ↦ inl (record { other = w.other; mark = w.mark; held = w.held; clashing = y })
      | inr y ↦ inr (record { other = w.other; mark = w.mark; held = w.held; clashing = y })
    ])
    (λ u w. record { other = w.other; mark = w.mark; held = w.held; clashing = any_both (clash w.mark) g h ∙ or_first (list_any (clash w.mark) g) (list_any (clash w.mark) h) w.clashing })
    (λ u w. record { other = w.other; mark = w.mark; held = w.held; clashing = any_both (clash w.mark) g h ∙ or_second (list_any (clash w.mark) g) (list_any (clash w.mark) h) w.clashing })
    r s a b))

found_on : (C : PathCounts) (ps : List Path) (u : ℕ) → 0 < held_on C ps u → (q : Path) × (0 < held_at C q u) × (list_any (clash (Count q)) (counts_at ps) ≡ true)
found_on C [] u low = absurd (omega (arith, low))
found_on C (q ∷ qs) u low = elim (one_of_two (held_at C q u) (held_on C qs u) low) [
  | inl l ↦ (q, l, any_last (clash (Count q)) (counts_at qs) (Count q) ∙ or_second (list_any (clash (Count q)) (counts_at qs)) (same_path q q) (same_path-itself q))
  | inr l ↦ (let w = found_on C qs u l in (w.0, w.1, any_last (clash (Count w.0)) (counts_at qs) (Count q) ∙ or_first (list_any (clash (Count w.0)) (counts_at qs)) (same_path w.0 q) w.2))
]

module _ (K : ByKind) (u : ℕ) where
  clash_on : (m : Mark) (ps : List Path) → 0 < count_of K u m → list_any (clash m) (counts_at ps) ≡ true → 0 < held_on K.descendants ps u
  clash_on m [] low e = absurd (false≢true e)
  clash_on m (q ∷ qs) low e = elim (either (list_any (clash m) (counts_at qs)) (clash m (Count q)) (sym (any_last (clash m) (counts_at qs) (Count q)) ∙ e)) [
    | inl y ↦ (let r : 0 < held_on K.descendants qs u = clash_on m qs low y in omega (arith, r))
    | inr y ↦ (let r : 0 < held_at K.descendants q u = in_way K u (Count q) m low y in omega (arith, r))
  ]

pub least_on : (K : ByKind) (H : Holdings) → table_of K ≡ H → (t : ℕ) (ps : List Path) (r : Option ℕ) → IsLeastOther t (held_on K.descendants ps) r → IsLeast (IsInTheWay H t (counts_at ps)) r
least_on K H view t ps r h =
    least_as (IsOtherHolder t (held_on K.descendants ps)) (IsInTheWay H t (counts_at ps)) r
    (λ u w. let c = found_on K.descendants ps u w.1 in record { other = w.0; mark = Count c.0; held = subst (λ k. 0 < k) (sym (told_of K H view u (Count c.0))) c.1; clashing = c.2 })
    (λ u w. (w.other, clash_on K u w.mark ps (subst (λ k. 0 < k) (told_of K H view u w.mark) w.held) w.clashing))
    h
