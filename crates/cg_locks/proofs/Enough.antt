-- Each mark of a footprint is held as often as it stands there.
use Rattle.std.proofs.Common.{◌≡◌, ℕ, zero, suc, ◌+◌, ◌<◌, ◌≤◌, ◌==◌, nat_le, Bool, true, false, cond, List, [], ◌∷◌, ◌++◌, drop, get_or, length, map, take, refl, sym, subst, ap, ◌∙◌, arith}
use Rattle.std.proofs.lemmas.Bool.{eq-eqb}
use Rattle.std.proofs.lemmas.Bool.Decides.{nat_tests}
use Rattle.std.proofs.lemmas.List.{drop_all, drop_more, take_all, take_more}
use Rattle.std.proofs.lemmas.List.Sums.{sum_by-cons, sum_by_push}
use Rattle.std.specs.Bool.{Decides}
use Rattle.std.specs.List.{AllByRecursion}
use Rattle.cg_model.specs.Footprint as model
use Rattle.cg_locks.specs.declared.mark.Mark.{Mark}
use Rattle.cg_locks.specs.Holdings.{Holdings, holdings, HoldsAll, HoldsMark}
use Rattle.cg_locks.specs.Marks.{same_mark, times}
use Rattle.cg_locks.specs.Meaning.{mark_of}
use Rattle.cg_locks.specs.Single.{once, IsHeldOnceMore}
use Rattle.cg_locks.proofs.Marks.{same_mark-is, same_mark-itself}

-- what holds of each mark holds of what stands there
of_standing : (Q : model.Mark → Type 0) (xs : List Mark) (m : model.Mark) → 0 < times m (map mark_of xs) → AllByRecursion (λ x. Q (mark_of x)) xs → Q m
of_standing Q [] m low all = absurd (omega (arith, low))
of_standing Q (x ∷ xs) m low all =
    elim (same_mark m (mark_of x)) as (λ b. same_mark m (mark_of x) ≡ b → Q m) [
      | true ↦ λ e. subst Q (sym (same_mark-is m (mark_of x) e)) all.0
      | false ↦ λ e.
          let none : times m (mark_of x ∷ map mark_of xs) ≡ 0 + times m (map mark_of xs) =
          sum_by-cons (λ n. cond (same_mark m n) 1 0) (mark_of x) (map mark_of xs) ∙ ap (λ b. cond b 1 0 + times m (map mark_of xs)) e in
          of_standing Q xs m (omega (arith, none, low)) all.1
    ] refl

-- what the mark means is held as often as it stands there
abbrev pub Has : Holdings → ℕ → List model.Mark → Mark → Type 0
Has T t f x = HoldsMark T t f (mark_of x)

module _ (T : Holdings) (t : ℕ) (xs : List Mark) where
  all_marks : AllByRecursion (Has T t (map mark_of xs)) xs → HoldsAll T t (map mark_of xs)
  all_marks all m = elim (times m (map mark_of xs)) as (λ n. times m (map mark_of xs) ≡ n → HoldsMark T t (map mark_of xs) m) [
    | zero ↦ λ e. omega (arith, e)
    | suc n ↦ λ e. of_standing (HoldsMark T t (map mark_of xs)) xs m (omega (arith, e)) all
  ] refl

-- what holds of the marks that are left holds of all
abbrev pub RestIsEnough : Holdings → ℕ → List model.Mark → List Mark → ℕ → Type 0
RestIsEnough T t f xs i = AllByRecursion (Has T t f) (drop i xs) → AllByRecursion (Has T t f) xs

pub next_is_enough : (T : Holdings) (t : ℕ) (f : List model.Mark) (xs : List Mark) (i : ℕ) (x : Mark) → i < length xs → x ≡ get_or xs i x → Has T t f x → RestIsEnough T t f xs i → RestIsEnough T t f xs (i + 1)
next_is_enough T t f xs i x low at has rest left =
    rest (subst (AllByRecursion (Has T t f)) (sym (drop_more xs i x low)) (subst (Has T t f) at has, left))

pub all_enough : (T : Holdings) (t : ℕ) (f : List model.Mark) (xs : List Mark) (i : ℕ) → map mark_of xs ≡ f → length xs ≤ i → RestIsEnough T t f xs i → HoldsAll T t f
all_enough T t f xs i is end rest =
    let all : AllByRecursion (Has T t f) xs = rest (subst (AllByRecursion (Has T t f)) (sym (drop_all i xs end)) tt) in
    subst (HoldsAll T t) is (all_marks T t xs (subst (λ g. AllByRecursion (Has T t g) xs) (sym is) all))

-- one mark is compared
pub compared_at : (T : Holdings) (t : ℕ) (f : List model.Mark) (m : model.Mark) (x y : ℕ) → x ≡ times m f → y ≡ holdings T t m → Decides (nat_le x y) (HoldsMark T t f m)
compared_at T t f m x y standing holding = (
  λ h. let low : x ≤ y = grind (arith, nat_tests, h) in omega (arith, low, standing, holding),
  λ h. let low : x ≤ y = omega (arith, h, standing, holding) in grind (arith, nat_tests, low),
)

-- ---- marks taken one by one, and released again

-- t holds in H' what it holds in H and each mark as often as it stands in the footprint; others hold the same
abbrev pub IsMoreBy : Holdings → ℕ → List model.Mark → Holdings → Type 0
IsMoreBy H t f H' = (u : ℕ) (m : model.Mark) → holdings H' u m ≡ holdings H u m + cond (u == t) (times m f) 0

times_pushed : (m : model.Mark) (xs : List Mark) (x : Mark) → times m (map mark_of (xs ++ x ∷ [])) ≡ times m (map mark_of xs) + once m (mark_of x)
times_pushed m xs x = ap (times m) (map_pushed xs) ∙ sum_by_push (λ n. cond (same_mark m n) 1 0) (map mark_of xs) (mark_of x)
  where
    map_pushed : (ys : List Mark) → map mark_of (ys ++ x ∷ []) ≡ map mark_of ys ++ mark_of x ∷ []
    map_pushed [] = refl
    map_pushed (y ∷ ys) = ap (λ z. mark_of y ∷ z) (map_pushed ys)

pub none_yet : (H : Holdings) (t : ℕ) (xs : List Mark) → IsMoreBy H t (map mark_of (take 0 xs)) H
none_yet H t xs u m = elim (u == t) as (λ b. holdings H u m ≡ holdings H u m + cond b 0 0) [ true ↦ omega arith | false ↦ omega arith ]

both_taken : (b : Bool) (x y : ℕ) → cond b (x + y) 0 ≡ cond b x 0 + cond b y 0
both_taken true x y = refl
both_taken false x y = refl

more_times : (t u : ℕ) (m : model.Mark) (xs : List Mark) (i : ℕ) (x : Mark) → i < length xs → x ≡ get_or xs i x → cond (u == t) (times m (map mark_of (take (i + 1) xs))) 0 ≡ cond (u == t) (times m (map mark_of (take i xs))) 0 + cond (u == t) (once m (mark_of x)) 0
more_times t u m xs i x low at =
    let next : take (i + 1) xs ≡ take i xs ++ x ∷ [] = take_more xs i x low ∙ ap (λ y. take i xs ++ y ∷ []) (sym at) in
    ap (λ ys. cond (u == t) (times m (map mark_of ys)) 0) next ∙ ap (λ n. cond (u == t) n 0) (times_pushed m (take i xs) x) ∙ both_taken (u == t) (times m (map mark_of (take i xs))) (once m (mark_of x))

pub next_taken : (H M M' : Holdings) (t : ℕ) (xs : List Mark) (i : ℕ) (x : Mark) → i < length xs → x ≡ get_or xs i x → IsMoreBy H t (map mark_of (take i xs)) M → IsHeldOnceMore M t (mark_of x) M' → IsMoreBy H t (map mark_of (take (i + 1) xs)) M'
next_taken H M M' t xs i x low at before now u m =
    let a = before u m in let b = now u m in let c = more_times t u m xs i x low at in
    omega (arith, a, b, c)

pub next_released : (H M M' : Holdings) (t : ℕ) (xs : List Mark) (i : ℕ) (x : Mark) → i < length xs → x ≡ get_or xs i x → IsMoreBy M t (map mark_of (take i xs)) H → IsHeldOnceMore M' t (mark_of x) M → IsMoreBy M' t (map mark_of (take (i + 1) xs)) H
next_released H M M' t xs i x low at before now u m =
    let a = before u m in let b = now u m in let c = more_times t u m xs i x low at in
    omega (arith, a, b, c)

-- in the end all are
pub all_taken : (H M : Holdings) (t : ℕ) (xs : List Mark) (f : List model.Mark) (i : ℕ) → map mark_of xs ≡ f → length xs ≤ i → IsMoreBy H t (map mark_of (take i xs)) M → IsMoreBy H t f M
all_taken H M t xs f i is end h = subst (λ g. IsMoreBy H t g M) (ap (map mark_of) (take_all i xs end) ∙ is) h

own : (t : ℕ) (n : ℕ) → cond (t == t) n 0 ≡ n
own t n = ap (λ b. cond b n 0) (eq-eqb t t refl)

-- what was taken can be released
pub may_release : (H M : Holdings) (t : ℕ) (f : List model.Mark) → IsMoreBy H t f M → HoldsAll M t f
may_release H M t f h m = let a = h t m in let b = own t (times m f) in omega (arith, a, b)

-- the next mark is still held
pub next_is_held : (H M : Holdings) (t : ℕ) (xs : List Mark) (i : ℕ) (x : Mark) → i < length xs → x ≡ get_or xs i x → HoldsAll H t (map mark_of xs) → IsMoreBy M t (map mark_of (take i xs)) H → 0 < holdings M t (mark_of x)
next_is_held H M t xs i x low at all h =
    let a = h t (mark_of x) in
    let b = own t (times (mark_of x) (map mark_of (take i xs))) in
    let enough : times (mark_of x) (map mark_of xs) ≤ holdings H t (mark_of x) = all (mark_of x) in
    let next : take (i + 1) xs ≡ take i xs ++ x ∷ [] = take_more xs i x low ∙ ap (λ y. take i xs ++ y ∷ []) (sym at) in
    let more : times (mark_of x) (map mark_of (take (i + 1) xs)) ≡ times (mark_of x) (map mark_of (take i xs)) + 1 =
    ap (λ ys. times (mark_of x) (map mark_of ys)) next ∙ times_pushed (mark_of x) (take i xs) x ∙ ap (λ n. times (mark_of x) (map mark_of (take i xs)) + cond n 1 0) (same_mark-itself (mark_of x)) in
    let part : times (mark_of x) (map mark_of (take (i + 1) xs)) ≤ times (mark_of x) (map mark_of xs) = part_counts (mark_of x) (i + 1) xs in
    omega (arith, a, b, enough, more, part)
  where
    part_counts : (m : model.Mark) (n : ℕ) (ys : List Mark) → times m (map mark_of (take n ys)) ≤ times m (map mark_of ys)
    part_counts m zero ys = omega arith
    part_counts m (suc n) [] = omega arith
    part_counts m (suc n) (y ∷ ys) =
        let rest : times m (map mark_of (take n ys)) ≤ times m (map mark_of ys) = part_counts m n ys in
        let a : times m (mark_of y ∷ map mark_of (take n ys)) ≡ cond (same_mark m (mark_of y)) 1 0 + times m (map mark_of (take n ys)) = sum_by-cons (λ k. cond (same_mark m k) 1 0) (mark_of y) (map mark_of (take n ys)) in
        let b : times m (mark_of y ∷ map mark_of ys) ≡ cond (same_mark m (mark_of y)) 1 0 + times m (map mark_of ys) = sum_by-cons (λ k. cond (same_mark m k) 1 0) (mark_of y) (map mark_of ys) in
        omega (arith, rest, a, b)

-- marks taken and released leave what was held
pub undone : (H M M' : Holdings) (t : ℕ) (f : List model.Mark) → IsMoreBy H t f M → IsMoreBy M' t f M → (u : ℕ) (m : model.Mark) → holdings M' u m ≡ holdings H u m
undone H M M' t f a b u m = let x = a u m in let y = b u m in omega (arith, x, y)

-- ---- a footprint of one mark

one_time : (m n : model.Mark) → times m (n ∷ []) ≡ once m n
one_time m n = sum_by-cons (λ k. cond (same_mark m k) 1 0) n [] ∙ omega arith

pub one_is_held : (H : Holdings) (t : ℕ) (f : List model.Mark) (n : model.Mark) → f ≡ n ∷ [] → HoldsAll H t f → 0 < holdings H t n
one_is_held H t f n is all =
    let enough : times n (n ∷ []) ≤ holdings H t n = subst (λ g. HoldsMark H t g n) is (all n) in
    let stands : times n (n ∷ []) ≡ 1 = one_time n n ∙ ap (λ b. cond b 1 0) (same_mark-itself n) in
    omega (arith, enough, stands)

pub one_taken : (H M : Holdings) (t : ℕ) (f : List model.Mark) (n : model.Mark) → f ≡ n ∷ [] → IsHeldOnceMore H t n M → IsMoreBy H t f M
one_taken H M t f n is more u m = more u m ∙ ap (λ k. holdings H u m + cond (u == t) k 0) (sym (ap (times m) is ∙ one_time m n))
