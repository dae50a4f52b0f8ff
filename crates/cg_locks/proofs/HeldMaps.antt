-- What is held at the paths of a tree, changed at one path.
use Rattle.std.proofs.Common.{◌≡◌, ℕ, zero, suc, ◌+◌, ◌<◌, ◌==◌, ◌&&◌, nat_lt, Bool, true, false, cond, List, [], ◌∷◌, map, Option, Some, None, option_map, refl, sym, ap, ◌∙◌, arith}
use Rattle.std.proofs.lemmas.Bool.Decides.{nat_tests}
use Rattle.std.specs.FinMap.Entries.{find}
use Rattle.std.specs.Ordering.{eq_by_cmp}
use Rattle.cg_maps.specs.FiniteMap.{empty, entries, get, set_at}
use Rattle.cg_maps.proofs.Maps as maps
use Rattle.cg_name.specs.Order.{path_cmp_total, path_cmp_exact}
use Rattle.cg_name.specs.Path.{Path, path_cmp, is_parent, same_path}
use Rattle.cg_locks.specs.declared.held.Held.{Held}
use Rattle.cg_locks.specs.declared.held.Part.{Part}
use Rattle.cg_locks.specs.declared.held.Part.TheVariants.{ChangedAt, ReadAt, StaysAt, ChangedBelow, ReadBelow, StaysBelow}
use Rattle.cg_locks.specs.Held.{part_of, same_part, IsHeldMore}
use Rattle.cg_locks.specs.HeldByPath.{in_part, AreSummedUp, HeldByPath, IsOneMoreIn, IsSameHeld}
use Rattle.cg_locks.specs.Holders.{Counts, PathCounts, branches, held_at, held_by, held_if, one, IsSummedUp}
use Rattle.cg_locks.proofs.Summed.{as_before, changed_at, changed_branches, found_branch, neither}

-- ---- one part, by paths

find-mapped : (f : Held → Counts) (q : Path) (es : List (Path × Held)) → find path_cmp q (map (λ e. (e.0, f e.1)) es) ≡ option_map f (find path_cmp q es)
find-mapped f q [] = refl
find-mapped f q (e ∷ es) = elim (eq_by_cmp path_cmp q e.0) as (λ b. cond b (Some (f e.1)) (find path_cmp q (map (λ x. (x.0, f x.1)) es)) ≡ option_map f (cond b (Some e.1) (find path_cmp q es))) [ true ↦ refl | false ↦ find-mapped f q es ]

pub get-part : (s : Part) (T : HeldByPath) (q : Path) → get (in_part s T) q ≡ option_map (part_of s) (get T q)
unfolding in_part get entries
get-part s T q = maps.get-from_entries path_cmp_total path_cmp_exact (map (λ e. (e.0, part_of s e.1)) T.list) q ∙ find-mapped (part_of s) q T.list

pub part-set : (s : Part) (T : HeldByPath) (p : Path) (o : Option Held) → in_part s (set_at T p o) ≡ set_at (in_part s T) p (option_map (part_of s) o)
part-set s T p o = maps.same_map path_cmp_total path_cmp_exact (in_part s (set_at T p o)) (set_at (in_part s T) p (option_map (part_of s) o)) (λ q.
    get-part s (set_at T p o) q
    ∙ ap (option_map (part_of s)) (maps.get-set_at path_cmp_total path_cmp_exact T p o q)
    ∙ elim (eq_by_cmp path_cmp q p) as (λ b. option_map (part_of s) (cond b o (get T q)) ≡ cond b (option_map (part_of s) o) (option_map (part_of s) (get T q))) [ true ↦ refl | false ↦ refl ]
    ∙ ap (cond (eq_by_cmp path_cmp q p) (option_map (part_of s) o)) (sym (get-part s T q))
    ∙ sym (maps.get-set_at path_cmp_total path_cmp_exact (in_part s T) p (option_map (part_of s) o) q))

pub held_in : (s : Part) (T : HeldByPath) (p : Path) (u : ℕ) → held_at (in_part s T) p u ≡ held_if (option_map (part_of s) (get T p)) u
held_in s T p u = ap (λ r. held_if r u) (get-part s T p)

pub held_there : (s : Part) (T : HeldByPath) (p : Path) (h : Held) (u : ℕ) → get T p ≡ Some h → held_at (in_part s T) p u ≡ held_by (part_of s h) u
held_there s T p h u there = held_in s T p u ∙ ap (λ o. held_if (option_map (part_of s) o) u) there

pub held_nowhere : (s : Part) (T : HeldByPath) (p : Path) (u : ℕ) → get T p ≡ None → held_at (in_part s T) p u ≡ 0
held_nowhere s T p u absent = held_in s T p u ∙ ap (λ o. held_if (option_map (part_of s) o) u) absent

-- ---- what is at a path written

in_both : (a b c : Bool) → ◌≡◌ {A = ℕ} (cond b (one (a && c)) 0) (one (a && (b && c)))
in_both true true c = refl
in_both true false c = refl
in_both false true c = refl
in_both false false c = refl

some : (n : ℕ) → 0 < n → one (nat_lt 0 n) ≡ 1
some n low = let l : nat_lt 0 n ≡ true = grind (arith, nat_tests, low) in ap one l

-- from n to one more: it is a branch more where n is 0
turns : (c a b : Bool) (n m : ℕ) → m ≡ n + one (a && b) → cond c (one (nat_lt 0 m)) 0 ≡ cond c (one (nat_lt 0 n)) 0 + one (a && (c && (b && (n == 0))))
turns false a b n m e = elim a as (λ x. 0 ≡ 0 + one (x && false)) [ true ↦ refl | false ↦ refl ]
turns true false b n m e = let same : m ≡ n = omega (arith, e) in let z : one (nat_lt 0 m) ≡ one (nat_lt 0 n) = ap (λ x. one (nat_lt 0 x)) same in omega (arith, z)
turns true true false n m e = let same : m ≡ n = omega (arith, e) in let z : one (nat_lt 0 m) ≡ one (nat_lt 0 n) = ap (λ x. one (nat_lt 0 x)) same in omega (arith, z)
turns true true true zero m e = let z = some m (omega (arith, e)) in omega (arith, z)
turns true true true (suc n) m e =
    let z = some m (omega (arith, e)) in
    let y = some (suc n) (omega arith) in
    let low : 0 < suc n = omega arith in
    let w : (suc n == 0) ≡ false = grind (arith, nat_tests, low) in
    let v : one (true && (true && (true && (suc n == 0)))) ≡ 0 = ap (λ b. one (true && (true && (true && b)))) w in
    omega (arith, z, y, v)

module _ (T T' : HeldByPath) (p : Path) (h h' : Held) (there : get T p ≡ Some h) (written : T' ≡ set_at T p (Some h')) where
  part_written : (r : Part) → in_part r T' ≡ set_at (in_part r T) p (Some (part_of r h'))
  part_written r = ap (in_part r) written ∙ part-set r T p (Some h')

  here : get T' p ≡ Some h'
  here = ap (λ M. get M p) written ∙ maps.get_here path_cmp_total path_cmp_exact T p (Some h')

  module _ (s : Part) (t : ℕ) where
    pub written_more : IsHeldMore h s t h' → IsOneMoreIn T s p t T'
    written_more more =
        let change : (r : Part) (u : ℕ) → held_if (Some (part_of r h')) u + 0 ≡ held_at (in_part r T) p u + one (same_part r s && (u == t)) =
        (λ r u. let m = more r u in let w = held_there r T p h u there in omega (arith, m, w)) in
        record {
          at = λ r q u.
              let z = changed_at (in_part r T) (in_part r T') p (Some (part_of r h')) (part_written r) 0 (one (same_part r s && (u == t))) u (change r u) q in
              let a = neither (same_path q p) in let b = in_both (same_part r s) (same_path q p) (u == t) in omega (arith, z, a, b);
          branched = λ r q u.
              let z = changed_branches (in_part r T) (in_part r T') p (Some (part_of r h')) (part_written r) q u in
              let m : held_if (Some (part_of r h')) u ≡ held_at (in_part r T) p u + one (same_part r s && (u == t)) = (let c = change r u in omega (arith, c)) in
              let a = turns (is_parent q p) (same_part r s) (u == t) (held_at (in_part r T) p u) (held_if (Some (part_of r h')) u) m in
              omega (arith, z, a);
        }

    pub written_less : IsHeldMore h' s t h → IsOneMoreIn T' s p t T
    written_less less =
        let change : (r : Part) (u : ℕ) → held_if (Some (part_of r h')) u + one (same_part r s && (u == t)) ≡ held_at (in_part r T) p u + 0 =
        (λ r u. let m = less r u in let w = held_there r T p h u there in omega (arith, m, w)) in
        record {
          at = λ r q u.
              let z = changed_at (in_part r T) (in_part r T') p (Some (part_of r h')) (part_written r) (one (same_part r s && (u == t))) 0 u (change r u) q in
              let a = neither (same_path q p) in let b = in_both (same_part r s) (same_path q p) (u == t) in omega (arith, z, a, b);
          branched = λ r q u.
              let z = changed_branches (in_part r T) (in_part r T') p (Some (part_of r h')) (part_written r) q u in
              let now : held_at (in_part r T') p u ≡ held_if (Some (part_of r h')) u = held_there r T' p h' u here in
              let m : held_at (in_part r T) p u ≡ held_at (in_part r T') p u + one (same_part r s && (u == t)) = (let c = change r u in omega (arith, c, now)) in
              let a = turns (is_parent q p) (same_part r s) (u == t) (held_at (in_part r T') p u) (held_at (in_part r T) p u) m in
              let b : cond (is_parent q p) (one (nat_lt 0 (held_at (in_part r T') p u))) 0 ≡ cond (is_parent q p) (one (nat_lt 0 (held_if (Some (part_of r h')) u))) 0 = ap (λ n. cond (is_parent q p) (one (nat_lt 0 n)) 0) now in
              omega (arith, z, a, b);
        }

-- ---- the same held

-- nobody holds anything there
abbrev pub IsFree : Held → Type 0
IsFree h = (r : Part) (u : ℕ) → held_by (part_of r h) u ≡ 0

module _ (T T' : HeldByPath) (p : Path) (o : Option Held) (set : T' ≡ set_at T p o) (same : (r : Part) (u : ℕ) → held_if (option_map (part_of r) o) u ≡ held_at (in_part r T) p u) where
  set_alike : IsSameHeld T T'
  set_alike = record {
    at = λ r q u. (as_before (in_part r T) (in_part r T') p (option_map (part_of r) o) (ap (in_part r) set ∙ part-set r T p o) (same r)).at q u;
    branched = λ r q u. (as_before (in_part r T) (in_part r T') p (option_map (part_of r) o) (ap (in_part r) set ∙ part-set r T p o) (same r)).branched q u;
  }

pub made_alike : (T T' : HeldByPath) (p : Path) (h : Held) → get T p ≡ None → T' ≡ set_at T p (Some h) → IsFree h → IsSameHeld T T'
made_alike T T' p h absent set free = set_alike T T' p (Some h) set (λ r u. free r u ∙ sym (held_nowhere r T p u absent))

pub dropped_alike : (T T' : HeldByPath) (p : Path) (h : Held) → get T p ≡ Some h → T' ≡ set_at T p None → IsFree h → IsSameHeld T T'
dropped_alike T T' p h there set free = set_alike T T' p None set (λ r u. sym (held_there r T p h u there ∙ free r u))

-- ---- nothing held

pub held_nothing : (T : HeldByPath) → ((p : Path) (h : Held) → get T p ≡ Some h → IsFree h) → (r : Part) (q : Path) (u : ℕ) → held_at (in_part r T) q u ≡ 0
held_nothing T free r q u = by (get T q) refl
  where
    by : (o : Option Held) → get T q ≡ o → held_at (in_part r T) q u ≡ 0
    by None absent = held_nowhere r T q u absent
    by (Some h) there = held_there r T q h u there ∙ free q h there r u

no_branches : (T : PathCounts) (q : Path) (u : ℕ) → ((p : Path) → held_at T p u ≡ 0) → branches T q u ≡ 0
no_branches T q u none = by (branches T q u) refl
  where
    by : (n : ℕ) → branches T q u ≡ n → n ≡ 0
    by zero e = refl
    by (suc n) e = let x = found_branch T q u (omega (arith, e)) in let low = x.2 in let z = none x.0 in absurd (omega (arith, low, z))

-- all nodes go at once
pub cleared_alike : (T T' : HeldByPath) → ((r : Part) (q : Path) (u : ℕ) → held_at (in_part r T) q u ≡ 0) → T' ≡ empty → IsSameHeld T T'
cleared_alike T T' free none = record {
  at = λ r q u. nothing r u q ∙ sym (free r q u);
  branched = λ r q u. no_branches (in_part r T') q u (nothing r u) ∙ sym (no_branches (in_part r T) q u (λ p. free r p u));
}
  where
    nothing : (r : Part) (u : ℕ) (q : Path) → held_at (in_part r T') q u ≡ 0
    nothing r u q = held_nowhere r T' q u (ap (λ M. get M q) none ∙ maps.get-empty path_cmp q)

pub alike_then : (T M T' : HeldByPath) → IsSameHeld T M → IsSameHeld M T' → IsSameHeld T T'
alike_then T M T' a b = record {
  at = λ r q u. b.at r q u ∙ a.at r q u;
  branched = λ r q u. b.branched r q u ∙ a.branched r q u;
}

pub still_summed : (T T' : HeldByPath) → IsSameHeld T T' → AreSummedUp T → AreSummedUp T'
still_summed T T' same h = record {
  changed = sums ChangedAt ChangedBelow h.changed;
  read = sums ReadAt ReadBelow h.read;
  stays = sums StaysAt StaysBelow h.stays;
}
  where
    sums : (a b : Part) → IsSummedUp (in_part a T) (in_part b T) → IsSummedUp (in_part a T') (in_part b T')
    sums a b sum q u =
        let x = same.at a q u in let y = same.at b q u in let z = same.branched b q u in let w = sum q u in
        omega (arith, x, y, z, w)

-- what is added and taken away again
pub undone : (T M M' T' : HeldByPath) (s : Part) (p : Path) (t : ℕ) → IsOneMoreIn T s p t M → IsSameHeld M M' → IsOneMoreIn T' s p t M' → IsSameHeld T T'
undone T M M' T' s p t more same less = record {
  at = as_it_was;
  branched = λ r q u.
      let a = more.branched r q u in let b = same.branched r q u in let c = less.branched r q u in
      let d : one (same_part r s && (is_parent q p && ((u == t) && (held_at (in_part r T') p u == 0)))) ≡ one (same_part r s && (is_parent q p && ((u == t) && (held_at (in_part r T) p u == 0)))) =
      ap (λ n. one (same_part r s && (is_parent q p && ((u == t) && (n == 0))))) (as_it_was r p u) in
      omega (arith, a, b, c, d);
}
  where
    as_it_was : (r : Part) (q : Path) (u : ℕ) → held_at (in_part r T') q u ≡ held_at (in_part r T) q u
    as_it_was r q u = let a = more.at r q u in let b = same.at r q u in let c = less.at r q u in omega (arith, a, b, c)

-- what is at a path written again
pub unwritten : (T : HeldByPath) (p q : Path) (h h' : Held) → q ≡ p → get T p ≡ Some h → h' ≡ h → set_at T q (Some h') ≡ T
unwritten T p q h h' at there same =
    ap (λ x. set_at T x (Some h')) at ∙ ap (λ x. set_at T p (Some x)) same ∙ ap (set_at T p) (sym there) ∙ maps.set_same path_cmp_total path_cmp_exact T p
