-- The marks of one transaction: what stands where in their list, and what they say as a table.
use Rattle.std.proofs.Common.{◌≡◌, ◌≢◌, ℕ, zero, suc, ◌+◌, ◌-◌, ◌<◌, ◌≤◌, ◌==◌, not, Bool, true, false, cond, ◌⊎◌, inl, inr, List, [], ◌∷◌, ◌++◌, Option, Some, None, get_or, length, set, slice_get, take, unwrap_or, refl, sym, ap, subst, ◌∙◌, arith}
use Rattle.std.proofs.lemmas.Bool.{false≢true, eqb-true, eq-eqb, cases_eq}
use Rattle.std.proofs.lemmas.List.{take_more}
use Rattle.std.proofs.lemmas.Option.{none-some, same_Some, slice_get_past, slice_get_read, slice_get_within}
use Rattle.cg_maps.specs.FiniteMap.{get}
use Rattle.cg_maps.proofs.Maps as maps
use Rattle.cg_model.specs.Footprint.{Mark, Count, clash}
use Rattle.cg_name.specs.Path.{Path}
use Rattle.cg_path_tree.proofs.ListChanges.{pushed_cases}
use Rattle.cg_locks.specs.declared.mark.Mark as rust
use Rattle.cg_locks.specs.declared.mark.Mark.TheVariants as marks
use Rattle.cg_locks.specs.declared.sole_marks.SoleMark.{SoleMark}
use Rattle.cg_locks.specs.Holdings.{Holdings, holdings}
use Rattle.cg_locks.specs.Marks.{same_mark}
use Rattle.cg_locks.specs.Meaning.{mark_of}
use Rattle.cg_locks.specs.Single.{once, HoldsClashing, IsHeldOnceMore, IsLeastInTheWay, IsNeat}
use Rattle.cg_locks.specs.Sole.{slot_of, sole_count, sole_table, sole_times, with_holder, AreFound, IsFree, IsOnceMore, StandsAt}
use Rattle.cg_locks.specs.Table.{if_any}
use Rattle.cg_locks.proofs.Marks.{holding_cmp_total, holding_cmp_exact, same_mark-is, same_mark-itself}
use Rattle.cg_locks.proofs.Tables.{all_listed, neat_any, or_none, IsListed}

false_unless : (b : Bool) → (b ≡ true → ⊥) → b ≡ false
false_unless b never_true = elim b as (λ c. (c ≡ true → ⊥) → c ≡ false) [ true ↦ λ n. absurd (n refl) | false ↦ λ _. refl ] never_true

-- ---- what is written at one place of a list

module _ {A : Type 0} where
  pub set_cases : (xs : List A) (i : ℕ) (f : A) (j : ℕ) (x : A) → slice_get (set xs i f) j ≡ Some x → ((j ≡ i) × (f ≡ x)) ⊎ (slice_get xs j ≡ Some x)
  set_cases [] i f j x at = inr at
  set_cases (y ∷ ys) zero f zero x at = inl (refl, same_Some f x at)
  set_cases (y ∷ ys) zero f (suc j) x at = inr at
  set_cases (y ∷ ys) (suc i) f zero x at = inr at
  set_cases (y ∷ ys) (suc i) f (suc j) x at = elim (set_cases ys i f j x at) [ inl a ↦ inl (ap suc a.0, a.1) | inr b ↦ inr b ]

  pub set_there : (xs : List A) (i : ℕ) (f : A) → i < length xs → slice_get (set xs i f) i ≡ Some f
  set_there [] i f low = absurd (omega (arith, low))
  set_there (y ∷ ys) zero f low = refl
  set_there (y ∷ ys) (suc i) f low = set_there ys i f (omega (arith, low))

  pub set_elsewhere : (xs : List A) (i : ℕ) (f : A) (j : ℕ) → j ≢ i → slice_get (set xs i f) j ≡ slice_get xs j
  set_elsewhere [] i f j apart = refl
  set_elsewhere (y ∷ ys) zero f zero apart = absurd (apart refl)
  set_elsewhere (y ∷ ys) zero f (suc j) apart = refl
  set_elsewhere (y ∷ ys) (suc i) f zero apart = refl
  set_elsewhere (y ∷ ys) (suc i) f (suc j) apart = set_elsewhere ys i f j (λ e. apart (ap suc e))

-- ---- how often a mark is held

module _ (n : Mark) where
  -- what one of the list adds
  abbrev part : SoleMark → ℕ
  part e = cond (same_mark n (mark_of e.mark)) e.times 0

  pub times_pushed : (es : List SoleMark) (e : SoleMark) → sole_times n (es ++ e ∷ []) ≡ sole_times n es + part e
  times_pushed [] e = omega arith
  times_pushed (x ∷ xs) e = let rest = times_pushed xs e in omega (arith, rest)

  pub times_set : (es : List SoleMark) (i : ℕ) (e f : SoleMark) → slice_get es i ≡ Some e → sole_times n (set es i f) + part e ≡ sole_times n es + part f
  times_set [] i e f at = absurd (none-some e at)
  times_set (x ∷ xs) zero e f at = let same : part x ≡ part e = ap part (same_Some x e at) in omega (arith, same)
  times_set (x ∷ xs) (suc i) e f at = let rest = times_set xs i e f at in omega (arith, rest)

  pub never : (es : List SoleMark) → ((j : ℕ) (e : SoleMark) → slice_get es j ≡ Some e → same_mark n (mark_of e.mark) ≡ false) → sole_times n es ≡ 0
  never [] other = refl
  never (x ∷ xs) other =
      let first : part x ≡ 0 = ap (λ b. cond b x.times 0) (other 0 x refl) in
      let rest : sole_times n xs ≡ 0 = never xs (λ j e at. other (suc j) e at) in
      omega (arith, first, rest)

  pub only : (es : List SoleMark) (i : ℕ) (e : SoleMark) → slice_get es i ≡ Some e → same_mark n (mark_of e.mark) ≡ true → ((j : ℕ) (x : SoleMark) → slice_get es j ≡ Some x → same_mark n (mark_of x.mark) ≡ true → j ≡ i) → sole_times n es ≡ e.times
  only [] i e at is alone = absurd (none-some e at)
  only (x ∷ xs) zero e at is alone =
      let first : part x ≡ e.times = ap part (same_Some x e at) ∙ ap (λ b. cond b e.times 0) is in
      let rest : sole_times n xs ≡ 0 = never xs (λ j y there. false_unless (same_mark n (mark_of y.mark)) (λ same. (let far : suc j ≡ 0 = alone (suc j) y there same in omega (arith, far)))) in
      omega (arith, first, rest)
  only (x ∷ xs) (suc i) e at is alone =
      let other : same_mark n (mark_of x.mark) ≡ false = false_unless (same_mark n (mark_of x.mark)) (λ same. (let far : 0 ≡ suc i = alone 0 x refl same in omega (arith, far))) in
      let first : part x ≡ 0 = ap (λ b. cond b x.times 0) other in
      let rest : sole_times n xs ≡ e.times = only xs i e at is (λ j y there same. (let near : suc j ≡ suc i = alone (suc j) y there same in omega (arith, near))) in
      omega (arith, first, rest)

-- one that is held is so in the list
pub held_there : (es : List SoleMark) (i : ℕ) (e : SoleMark) → slice_get es i ≡ Some e → 0 < e.times → 0 < sole_times (mark_of e.mark) es
held_there [] i e at low = absurd (none-some e at)
held_there (x ∷ xs) zero e at low =
    let own : part (mark_of e.mark) x ≡ e.times = ap (part (mark_of e.mark)) (same_Some x e at) ∙ ap (λ b. cond b e.times 0) (same_mark-itself (mark_of e.mark)) in
    omega (arith, own, low)
held_there (x ∷ xs) (suc i) e at low = let rest = held_there xs i e at low in omega (arith, rest)

-- and the other way round
pub record IsHeldAt (es : List SoleMark) (m : Mark) (i : ℕ) : Type 0 where
  pub there : SoleMark
  pub found : slice_get es i ≡ Some there
  pub same : same_mark m (mark_of there.mark) ≡ true
  pub held : 0 < there.times

pub held_somewhere : (m : Mark) (es : List SoleMark) → 0 < sole_times m es → (i : ℕ) × IsHeldAt es m i
held_somewhere m [] low = absurd (omega (arith, low))
held_somewhere m (e ∷ es) low = elim (same_mark m (mark_of e.mark)) as (λ b. same_mark m (mark_of e.mark) ≡ b → 0 < cond b e.times 0 + sole_times m es → (i : ℕ) × IsHeldAt (e ∷ es) m i) [
  | true ↦ λ is l. elim (some_times e.times) as (λ _. (i : ℕ) × IsHeldAt (e ∷ es) m i) [
    | inl none ↦ later (held_somewhere m es (omega (arith, none, l)))
    | inr some ↦ (0, record { there = e; found = refl; same = is; held = some })
  ]
  | false ↦ λ _ l. later (held_somewhere m es (omega (arith, l)))
] refl low
  where
    some_times : (n : ℕ) → (n ≡ 0) ⊎ (0 < n)
    some_times zero = inl refl
    some_times (suc n) = inr (omega arith)

    later : (i : ℕ) × IsHeldAt es m i → (i : ℕ) × IsHeldAt (e ∷ es) m i
    later h = (suc h.0, record { there = h.1.there; found = h.1.found; same = h.1.same; held = h.1.held })

-- ---- one holding more or less of a mark that stands there

-- of another count at the same mark
of_count : (n m : Mark) (e f : SoleMark) → same_mark m (mark_of e.mark) ≡ true → f.mark ≡ e.mark → f.times ≡ e.times + 1 → part n f ≡ part n e + once n m
of_count n m e f same mark times =
    ap (λ y. cond (same_mark n (mark_of y)) f.times 0) mark
    ∙ ap (λ t. cond (same_mark n (mark_of e.mark)) t 0) times
    ∙ one_part (same_mark n (mark_of e.mark))
    ∙ ap (λ y. part n e + cond (same_mark n y) 1 0) (sym (same_mark-is m (mark_of e.mark) same))
  where
    one_part : (b : Bool) → cond b (e.times + 1) 0 ≡ cond b e.times 0 + cond b 1 0
    one_part true = refl
    one_part false = refl

pub one_more : (es : List SoleMark) (i : ℕ) (e f : SoleMark) (m : Mark) → slice_get es i ≡ Some e → same_mark m (mark_of e.mark) ≡ true → f.mark ≡ e.mark → f.times ≡ e.times + 1 → IsOnceMore es m (set es i f)
one_more es i e f m at same mark times n =
    let moved = times_set n es i e f at in
    let one = of_count n m e f same mark times in
    omega (arith, moved, one)

pub one_less : (es : List SoleMark) (i : ℕ) (e f : SoleMark) (m : Mark) → slice_get es i ≡ Some e → same_mark m (mark_of e.mark) ≡ true → f.mark ≡ e.mark → e.times ≡ f.times + 1 → IsOnceMore (set es i f) m es
one_less es i e f m at same mark times n =
    let moved = times_set n es i e f at in
    let is : same_mark m (mark_of f.mark) ≡ true = ap (λ y. same_mark m (mark_of y)) mark ∙ same in
    let one = of_count n m f e is (sym mark) times in
    omega (arith, moved, one)

-- and of a new mark
pub new_one : (es : List SoleMark) (e : SoleMark) (m : Mark) → mark_of e.mark ≡ m → e.times ≡ 1 → IsOnceMore es m (es ++ e ∷ [])
new_one es e m mark times n =
    times_pushed n es e ∙ ap (λ k. sole_times n es + k) (ap (λ t. cond (same_mark n (mark_of e.mark)) t 0) times ∙ ap (λ y. once n y) mark)

module _ (es : List SoleMark) (i : ℕ) (m : Mark) (stands_at : StandsAt es i m) (e : SoleMark) (at : slice_get es i ≡ Some e) where
  there_is : stands_at.there ≡ e
  there_is = same_Some stands_at.there e (sym stands_at.found ∙ at)

  pub same_there : same_mark m (mark_of e.mark) ≡ true
  same_there = ap (λ (y : SoleMark). same_mark m (mark_of y.mark)) (sym there_is) ∙ stands_at.same

  pub times_there : e.times ≡ sole_times m es
  times_there = ap (λ (y : SoleMark). y.times) (sym there_is) ∙ stands_at.times

-- ---- each mark is where its slot tells

module _ (es : List SoleMark) (slots : List ℕ) (found : AreFound es slots) where
  module _ (m : Mark) where
    told_by_slot : (j : ℕ) (e : SoleMark) → slice_get es j ≡ Some e → same_mark m (mark_of e.mark) ≡ true → slice_get slots (slot_of m) ≡ Some j
    told_by_slot j e at same = ap (slice_get slots) (ap slot_of (same_mark-is m (mark_of e.mark) same) ∙ sym (found j e at).0) ∙ (found j e at).1

    pub stands : (i : ℕ) (e : SoleMark) → slice_get es i ≡ Some e → same_mark m (mark_of e.mark) ≡ true → StandsAt es i m
    stands i e at is = record {
      there = e;
      found = at;
      same = is;
      times = sym (only m es i e at is (λ j x there same. same_Some j i (sym (told_by_slot j x there same) ∙ told_by_slot i e at is)));
    }

    -- nothing else is there, or another mark
    pub nowhere : (r : Option ℕ) → slice_get slots (slot_of m) ≡ r → ((i : ℕ) (e : SoleMark) → r ≡ Some i → slice_get es i ≡ Some e → same_mark m (mark_of e.mark) ≡ false) → sole_times m es ≡ 0
    nowhere r slot other = never m es (λ j e at. false_unless (same_mark m (mark_of e.mark)) (λ same. false≢true (sym (other j e (sym slot ∙ told_by_slot j e at same) at) ∙ same)))

    pub no_slot : length slots ≤ slot_of m → sole_times m es ≡ 0
    no_slot past = nowhere None (slice_get_past slots (slot_of m) past) (λ i e is. absurd (none-some i is))

    pub past_marks : (i : ℕ) → slice_get slots (slot_of m) ≡ Some i → length es ≤ i → sole_times m es ≡ 0
    past_marks i slot past = nowhere (Some i) slot (λ j e is at. absurd (none-some e (sym (slice_get_past es i past) ∙ ap (slice_get es) (same_Some i j is) ∙ at)))

    pub another_there : (i : ℕ) (x : SoleMark) → slice_get slots (slot_of m) ≡ Some i → slice_get es i ≡ Some x → same_mark m (mark_of x.mark) ≡ false → sole_times m es ≡ 0
    another_there i x slot at is = nowhere (Some i) slot (λ j e same there.
        ap (λ (y : SoleMark). same_mark m (mark_of y.mark)) (same_Some e x (sym there ∙ ap (slice_get es) (sym (same_Some i j same)) ∙ at)) ∙ is)

  -- a slot that is no mark's
  pub free_past : (s i : ℕ) → s < length slots → slice_get slots s ≡ Some i → length es ≤ i → IsFree es slots s
  free_past s i low slot past = record {
    within = low;
    none = λ j e at same.
        let j_is : i ≡ j = same_Some i j (sym slot ∙ ap (slice_get slots) (sym same) ∙ (found j e at).1) in
        none-some e (sym (slice_get_past es i past) ∙ ap (slice_get es) j_is ∙ at);
  }

  pub free_other : (s i : ℕ) (x : SoleMark) → s < length slots → slice_get slots s ≡ Some i → slice_get es i ≡ Some x → x.slot == s ≡ false → IsFree es slots s
  free_other s i x low slot there other = record {
    within = low;
    none = λ j e at same.
        let j_is : i ≡ j = same_Some i j (sym slot ∙ ap (slice_get slots) (sym same) ∙ (found j e at).1) in
        let x_is : x ≡ e = same_Some x e (sym there ∙ ap (slice_get es) j_is ∙ at) in
        false≢true (sym other ∙ eq-eqb x.slot s (ap (λ (y : SoleMark). y.slot) x_is ∙ same));
  }

  -- another holding of a mark that stands there
  pub found_set : (i : ℕ) (e f : SoleMark) → slice_get es i ≡ Some e → f.mark ≡ e.mark → f.slot ≡ e.slot → AreFound (set es i f) slots
  found_set i e f at mark slot j x there = elim (set_cases es i f j x there) [
    | inl a ↦ (
      ap (λ (y : SoleMark). y.slot) (sym a.1) ∙ slot ∙ (found i e at).0 ∙ ap (λ y. slot_of (mark_of y)) (sym mark ∙ ap (λ (y : SoleMark). y.mark) a.1),
      ap (slice_get slots) (ap (λ (y : SoleMark). y.slot) (sym a.1) ∙ slot) ∙ (found i e at).1 ∙ ap Some (sym a.0),
    )
    | inr b ↦ found j x b
  ]

  -- a mark more, with a slot of its own
  pub found_pushed : (e : SoleMark) (s : ℕ) → IsFree es slots s → e.slot ≡ s → s ≡ slot_of (mark_of e.mark) → AreFound (es ++ e ∷ []) (set slots s (length es))
  found_pushed e s free is own j x there = elim (pushed_cases es e j x there) [
    | inl a ↦ ((found j x a).0, set_elsewhere slots s (length es) x.slot (free.none j x a) ∙ (found j x a).1)
    | inr b ↦ (
      ap (λ (y : SoleMark). y.slot) (sym b.1) ∙ is ∙ own ∙ ap (λ (y : SoleMark). slot_of (mark_of y.mark)) b.1,
      ap (slice_get (set slots s (length es))) (ap (λ (y : SoleMark). y.slot) (sym b.1) ∙ is) ∙ set_there slots s (length es) free.within ∙ ap Some (sym b.0),
    )
  ]

-- the last are taken off
taken_at : (es : List SoleMark) (n j : ℕ) (x : SoleMark) → slice_get (take n es) j ≡ Some x → slice_get es j ≡ Some x
taken_at [] n j x at = absurd (none-some x (sym (ap (λ (l : List SoleMark). slice_get l j) (take_nothing n)) ∙ at))
  where
    take_nothing : (n : ℕ) → ◌≡◌ {A = List SoleMark} (take n []) []
    take_nothing zero = refl
    take_nothing (suc n) = refl
taken_at (y ∷ ys) zero j x at = absurd (none-some x at)
taken_at (y ∷ ys) (suc n) zero x at = at
taken_at (y ∷ ys) (suc n) (suc j) x at = taken_at ys n j x at

pub found_taken : (es : List SoleMark) (n : ℕ) (slots : List ℕ) → AreFound es slots → AreFound (take n es) slots
found_taken es n slots found j x at = found j x (taken_at es n j x at)

-- one that isn't held
pub times_last : (m : Mark) (es : List SoleMark) (n : ℕ) (x : SoleMark) → n < length es → x ≡ get_or es n x → x.times ≡ 0 → sole_times m (take (n + 1) es) ≡ sole_times m (take n es)
times_last m es n x low at none =
    ap (sole_times m) (take_more es n x low ∙ ap (λ y. take n es ++ y ∷ []) (sym at))
    ∙ times_pushed m (take n es) x
    ∙ (let nothing : part m x ≡ 0 = cond_nothing (same_mark m (mark_of x.mark)) in omega (arith, nothing))
  where
    cond_nothing : (b : Bool) → cond b x.times 0 ≡ 0
    cond_nothing true = none
    cond_nothing false = refl

-- ---- what they say as a table

sole_listed : (h : ℕ) (es : List SoleMark) (m : Mark) → 0 < sole_times m es → IsListed (h, m) (with_holder h es)
sole_listed h [] m low = absurd (omega (arith, low))
sole_listed h (e ∷ es) m low = elim (same_mark m (mark_of e.mark)) as (λ b. same_mark m (mark_of e.mark) ≡ b → 0 < cond b e.times 0 + sole_times m es → IsListed (h, m) (with_holder h (e ∷ es))) [
  | true ↦ λ is _. inl (λ i. (h, same_mark-is m (mark_of e.mark) is i))
  | false ↦ λ _ rest. inr (sole_listed h es m (omega (arith, rest)))
] refl low

count_listed : (h : ℕ) (es : List SoleMark) (u : ℕ) (m : Mark) → 0 < sole_count h es u m → IsListed (u, m) (with_holder h es)
count_listed h es u m low = elim (u == h) as (λ b. u == h ≡ b → 0 < cond b (sole_times m es) 0 → IsListed (u, m) (with_holder h es)) [
  | true ↦ λ is l. subst (λ v. IsListed (v, m) (with_holder h es)) (sym (eqb-true u h is)) (sole_listed h es m l)
  | false ↦ λ _ l. absurd (omega (arith, l))
] refl low

entry_of : (h : ℕ) (es : List SoleMark) (u : ℕ) (m : Mark) → get (sole_table h es) (u, m) ≡ if_any (sole_count h es u m)
unfolding sole_table
entry_of h es u m = all_listed (sole_count h es) (u, m) (with_holder h es) (count_listed h es u m)

pub sole_told : (h : ℕ) (es : List SoleMark) (u : ℕ) (m : Mark) → holdings (sole_table h es) u m ≡ sole_count h es u m
unfolding holdings
sole_told h es u m = ap (λ r. unwrap_or r 0) (entry_of h es u m) ∙ or_none (sole_count h es u m)

pub told_sole : (h : ℕ) (es : List SoleMark) (H : Holdings) → sole_table h es ≡ H → (u : ℕ) (m : Mark) → holdings H u m ≡ sole_count h es u m
told_sole h es H view u m = ap (λ G. holdings G u m) (sym view) ∙ sole_told h es u m

pub same_sole : (h k : ℕ) (es fs : List SoleMark) → ((u : ℕ) (m : Mark) → sole_count h es u m ≡ sole_count k fs u m) → sole_table h es ≡ sole_table k fs
same_sole h k es fs same = maps.same_map holding_cmp_total holding_cmp_exact (sole_table h es) (sole_table k fs) (λ x.
    entry_of h es x.0 x.1 ∙ ap if_any (same x.0 x.1) ∙ sym (entry_of k fs x.0 x.1))

pub sole_neat : (h : ℕ) (es : List SoleMark) (H : Holdings) → sole_table h es ≡ H → IsNeat H
sole_neat h es H view = subst IsNeat view (λ u m n e. neat_any (sole_count h es u m) n (sym (entry_of h es u m) ∙ e))

same_both : (b : Bool) (n : ℕ) → cond b n n ≡ n
same_both true n = refl
same_both false n = refl

pub nothing_told : (h u : ℕ) (m : Mark) → holdings (sole_table h []) u m ≡ 0
nothing_told h u m = sole_told h [] u m ∙ same_both (u == h) 0

-- where there are no marks nobody holds any
pub none_there : (h : ℕ) (es : List SoleMark) (b : Bool) (u : ℕ) (m : Mark) → not b ≡ false → b ≡ (length es == 0) → sole_count h es u m ≡ 0
none_there h [] b u m some is = same_both (u == h) 0
none_there h (e ∷ es) b u m some is = (let zero_is : length (e ∷ es) ≡ 0 = eqb-true (length (e ∷ es)) 0 (sym is ∙ not_false b some) in absurd (omega (arith, zero_is)))
  where
    not_false : (b : Bool) → not b ≡ false → b ≡ true
    not_false true e = refl
    not_false false e = absurd (false≢true (sym e))

-- marks on numbers of descendants never stand here
no_counts : (p : Path) (es : List SoleMark) → sole_times (Count p) es ≡ 0
no_counts p [] = refl
no_counts p (e ∷ es) =
    let first : part (Count p) e ≡ 0 = ap (λ b. cond b e.times 0) (another e.mark) in
    let rest = no_counts p es in
    omega (arith, first, rest)
  where
    another : (x : rust.Mark) → same_mark (Count p) (mark_of x) ≡ false
    another (marks.Changed q) = refl
    another (marks.Read q) = refl
    another (marks.Stays q) = refl
    another (marks.Process k) = refl

pub no_count_told : (h : ℕ) (es : List SoleMark) (H : Holdings) → sole_table h es ≡ H → (u : ℕ) (p : Path) → holdings H u (Count p) ≡ 0
no_count_told h es H view u p = told_sole h es H view u (Count p) ∙ ap (λ n. cond (u == h) n 0) (no_counts p es) ∙ same_both (u == h) 0

pub no_items : (xs : List ℕ) (n : ℕ) (b : Bool) → n ≡ length xs → b ≡ (n == 0) → b ≡ true → xs ≡ []
no_items [] n b len test is = refl
no_items (x ∷ xs) n b len test is = (let zero_is : n ≡ 0 = eqb-true n 0 (sym test ∙ is) in absurd (omega (arith, len, zero_is)))

-- the last of some
pub last_there : (es : List SoleMark) (x : SoleMark) → 0 < length es → x ≡ get_or es (length es - 1) x → (i : ℕ) × (slice_get es i ≡ Some x)
last_there es x some is = (length es - 1, slice_get_read es (length es) (length es - 1) x refl (omega (arith, some)) is)

-- the holder's own marks
pub own_count : (h t : ℕ) (es : List SoleMark) (m : Mark) → h ≡ t → sole_count h es t m ≡ sole_times m es
own_count h t es m is = ap (λ b. cond b (sole_times m es) 0) (eq-eqb t h (sym is))

pub no_slots : (es : List SoleMark) (slots new : List ℕ) → slots ≡ [] → AreFound es slots → AreFound es new
no_slots es slots new none found j e at = absurd (none-some j (ap (λ (l : List ℕ). slice_get l e.slot) (sym none) ∙ (found j e at).1))

-- and nobody else's
pub no_count : (h u : ℕ) (es : List SoleMark) (m : Mark) → u ≢ h → sole_count h es u m ≡ 0
no_count h u es m apart = ap (λ b. cond b (sole_times m es) 0) (false_unless (u == h) (λ is. apart (eqb-true u h is)))

-- those who hold nothing may be another's
pub taken_over : (h t : ℕ) (es : List SoleMark) → ((u : ℕ) (m : Mark) → u ≢ t → sole_count h es u m ≡ 0) → (u : ℕ) (m : Mark) → sole_count t es u m ≡ sole_count h es u m
taken_over h t es none u m = elim (cases_eq h t) [
  | inl same ↦ ap (λ k. sole_count k es u m) (sym same)
  | inr apart ↦
      let nothing : sole_times m es ≡ 0 = sym (own_count h h es m refl) ∙ none h m apart in
      let zero_of : (b : Bool) → cond b (sole_times m es) 0 ≡ 0 = λ b. elim b as (λ c. cond c (sole_times m es) 0 ≡ 0) [ true ↦ nothing | false ↦ refl ] in
      zero_of (u == t) ∙ sym (zero_of (u == h))
]

-- a mark more in the list is one more in the table
pub more_sole : (h t : ℕ) (es fs : List SoleMark) (m : Mark) (G H : Holdings) → h ≡ t → sole_table h es ≡ G → sole_table h fs ≡ H → IsOnceMore es m fs → IsHeldOnceMore G t m H
more_sole h t es fs m G H is g k more u n =
    told_sole h fs H k u n
    ∙ elim (u == h) as (λ b. cond b (sole_times n fs) 0 ≡ cond b (sole_times n es) 0 + cond b (once n m) 0) [ true ↦ more n | false ↦ refl ]
    ∙ (λ i. sym (told_sole h es G g u n) i + cond (u == is i) (once n m) 0)

-- the same, where they were another's who holds nothing
module _ (h t : ℕ) (es : List SoleMark) (H : Holdings) (view : sole_table h es ≡ H) (none : (u : ℕ) (m : Mark) → u ≢ t → holdings H u m ≡ 0) where
  pub same_table_of : sole_table t es ≡ H
  same_table_of = same_sole t h es es (taken_over h t es (λ u m apart. sym (told_sole h es H view u m) ∙ none u m apart)) ∙ view

-- ---- one is in the way

-- none of so many is held and clashes
abbrev pub NoneClashes : List SoleMark → Mark → ℕ → Type 0
NoneClashes es n k = (j : ℕ) (e : SoleMark) → j < k → slice_get es j ≡ Some e → 0 < e.times → clash (mark_of e.mark) n ≡ false

pub next_free : (es : List SoleMark) (n : Mark) (k : ℕ) (x : SoleMark) → slice_get es k ≡ Some x → NoneClashes es n k → (0 < x.times → clash (mark_of x.mark) n ≡ false) → NoneClashes es n (k + 1)
next_free es n k x at before here j e low there held = elim (cases_eq j k) [
  | inl same ↦
      let x_is : x ≡ e = same_Some x e (sym at ∙ ap (slice_get es) (sym same) ∙ there) in
      ap (λ (y : SoleMark). clash (mark_of y.mark) n) (sym x_is) ∙ here (subst (λ (y : SoleMark). 0 < y.times) (sym x_is) held)
  | inr apart ↦ before j e (omega (arith, low, apart)) there held
]

pub all_free : (es : List SoleMark) (n : Mark) (k : ℕ) → length es ≤ k → NoneClashes es n k → (m : Mark) → 0 < sole_times m es → clash m n ≡ false
all_free es n k end free m low =
    let h = held_somewhere m es low in
    let within : h.0 < length es = slice_get_within es h.0 h.1.there h.1.found in
    ap (λ y. clash y n) (same_mark-is m (mark_of h.1.there.mark) h.1.same) ∙ free h.0 h.1.there (omega (arith, within, end)) h.1.found h.1.held

module _ (h t : ℕ) (es : List SoleMark) (H : Holdings) (view : sole_table h es ≡ H) (n : Mark) where
  -- who holds any is the holder
  holder_is : (u : ℕ) (m : Mark) → 0 < holdings H u m → u ≡ h
  holder_is u m held = elim (cases_eq u h) [
    | inl same ↦ same
    | inr apart ↦ (let none : holdings H u m ≡ 0 = told_sole h es H view u m ∙ no_count h u es m apart in absurd (omega (arith, none, held)))
  ]

  held_times : (u : ℕ) (m : Mark) → 0 < holdings H u m → 0 < sole_times m es
  held_times u m held = subst (λ k. 0 < k) (told_sole h es H view u m ∙ own_count h u es m (sym (holder_is u m held))) held

  pub none_in_way : ((u : ℕ) (m : Mark) → u ≢ t → holdings H u m ≡ 0) → IsLeastInTheWay H t n None
  none_in_way none = record {
    some = λ u e. absurd (none-some u e);
    least = λ u e. absurd (none-some u e);
    none = λ _ v w. (let zero_held : holdings H v w.mark ≡ 0 = none v w.mark w.other in omega (arith, zero_held, w.held));
  }

  pub none_clashing : ((m : Mark) → 0 < sole_times m es → clash m n ≡ false) → IsLeastInTheWay H t n None
  none_clashing free = record {
    some = λ u e. absurd (none-some u e);
    least = λ u e. absurd (none-some u e);
    none = λ _ v w. false≢true (sym (free w.mark (held_times v w.mark w.held)) ∙ w.clashing);
  }

  pub one_in_way : h ≢ t → (m : Mark) → 0 < sole_times m es → clash m n ≡ true → IsLeastInTheWay H t n (Some h)
  one_in_way apart m low is = record {
    some = λ u e. subst (HoldsClashing H t n) (same_Some h u e) (record {
      other = apart;
      mark = m;
      held = subst (λ k. 0 < k) (sym (told_sole h es H view h m ∙ own_count h h es m refl)) low;
      clashing = is;
    });
    least = λ u e v w. (let a : h ≡ u = same_Some h u e in let b : v ≡ h = holder_is v w.mark w.held in omega (arith, a, b));
    none = λ e. absurd (none-some h (sym e));
  }
