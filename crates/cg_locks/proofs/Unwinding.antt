-- What is added on a walk upward, node after node, and taken back where there is no memory for the next.
use Rattle.std.proofs.Common.{◌≡◌, ℕ, zero, suc, ◌+◌, ◌-◌, ◌<◌, ◌≤◌, ◌==◌, ◌&&◌, Bool, true, false, cond, length, [], ◌∷◌, Some, refl, sym, ap, ◌∙◌, arith, true≢false}
use Rattle.std.proofs.lemmas.Bool.{eq-eqb}
use Rattle.cg_maps.specs.FiniteMap.{get}
use Rattle.cg_model_laws.proofs.Paths.{same_path-itself}
use Rattle.cg_name.specs.Path.{Path, is_root, same_path}
use Rattle.cg_path_tree.proofs.Parents.{length-parent}
use Rattle.cg_path_tree.specs.declared.node.NodeKey.{NodeKey}
use Rattle.cg_path_tree.specs.Nodes.{parent_path}
use Rattle.cg_locks.specs.declared.held.Part.{Part}
use Rattle.cg_locks.specs.Held.{same_part}
use Rattle.cg_locks.specs.HeldByPath.{in_part, times_up, HasBeyond, HeldByPath, IsOneMoreBeyond, IsOneMoreIn, IsOneMoreUp, IsSameHeld}
use Rattle.cg_locks.specs.Holders.{held_at, one}
use Rattle.cg_locks.proofs.Keys.{IsAbove, Keys}
use Rattle.cg_locks.proofs.Parts.{same_part-itself}
use Rattle.cg_locks.proofs.Summed.{neither, same_branches}
use Rattle.cg_locks.proofs.Walks.{up_next, up_root, up_stop}

-- ---- the paths on the way

-- the n-th path above p
abbrev pub above_by : ℕ → Path → Path
above_by zero p = p
above_by (suc n) p = above_by n (parent_path p)

above_next : (n : ℕ) (p : Path) → above_by (suc n) p ≡ parent_path (above_by n p)
above_next zero p = refl
above_next (suc n) p = above_next n (parent_path p)

times_next : (n : ℕ) (p q : Path) → times_up (suc n) p q ≡ times_up n p q + one (same_path q (above_by n p))
times_next zero p q = omega arith
times_next (suc n) p q = let a = times_next n (parent_path p) q in omega (arith, a)

-- the first of those with more than d names
times_first : (p : Path) (d : ℕ) → d < length p → (q : Path) → times_up (length p - d) p q ≡ one (same_path q p) + times_up (length p - suc d) (parent_path p) q
times_first p d low q =
    let e : length p - d ≡ suc (length p - suc d) = omega (arith, low) in
    ap (λ n. times_up n p q) e

times_rest : (p : Path) (d : ℕ) → is_root p ≡ false → d < length p → (q : Path) → times_up (length p - d) p q ≡ one (same_path q p) + times_up (length (parent_path p) - d) (parent_path p) q
times_rest p d root low q =
    let l = length-parent p root in
    let e : length p - suc d ≡ length (parent_path p) - d = omega (arith, l) in
    times_first p d low q ∙ ap (λ n. one (same_path q p) + times_up n (parent_path p) q) e

pub no_names : (p : Path) → is_root p ≡ true → length p ≡ 0
no_names [] e = refl
no_names (x ∷ p) e = absurd (true≢false (sym e))

-- ---- one of the part and the transaction

apart : (b c d : Bool) → one (b && (c && d)) ≡ cond (b && d) (one c) 0
apart false c d = refl
apart true false false = refl
apart true false true = refl
apart true true false = refl
apart true true true = refl

both : (b : Bool) (m n : ℕ) → cond b (m + n) 0 ≡ cond b m 0 + cond b n 0
both false m n = refl
both true m n = refl

own_one : (s : Part) (t : ℕ) (c : Bool) → one (same_part s s && (c && (t == t))) ≡ one c
own_one s t c = apart (same_part s s) c (t == t) ∙ (λ i. cond (same_part-itself s i && eq-eqb t t refl i) (one c) 0)

own_all : (s : Part) (t n : ℕ) → cond (same_part s s && (t == t)) n 0 ≡ n
own_all s t n = λ i. cond (same_part-itself s i && eq-eqb t t refl i) n 0

-- ---- taken back

-- one is still to be taken away at the node's path and above it: then it is taken away at p and above
pub record HasBack (keys : Keys) (T : HeldByPath) (s : Part) (d t : ℕ) (p : Path) (at : NodeKey) (M : HeldByPath) : Type 0 where
  pub path : Path
  pub there : get keys path ≡ Some at
  pub held : HasBeyond M s path d t
  pub rest : (M' : HeldByPath) → IsOneMoreBeyond M' s path d t M → IsOneMoreBeyond M' s p d t T

module _ (keys : Keys) (T : HeldByPath) (s : Part) (d t : ℕ) (p : Path) where
  pub back_none : (key : NodeKey) → get keys p ≡ Some key → HasBeyond T s p d t → HasBack keys T s d t p key T
  back_none key h held = record { path = p; there = h; held = held; rest = λ M' less. less }

  module _ (at : NodeKey) (M : HeldByPath) (i : HasBack keys T s d t p at M) where
    pub back_held : d < length i.path → 0 < held_at (in_part s M) i.path t
    back_held low =
        let a = i.held i.path in
        let b = times_first i.path d low i.path in
        let own : one (same_path i.path i.path) ≡ 1 = ap one (same_path-itself i.path) in
        omega (arith, a, b, own)

    pub back_next : d < length i.path → (N : HeldByPath) → IsOneMoreIn N s i.path t M → (parent : NodeKey) → IsAbove keys at parent i.path → HasBack keys T s d t p parent N
    back_next low N less parent above = record {
      path = parent_path i.path;
      there = above.there;
      held = λ q.
          let a = i.held q in let b = times_rest i.path d above.root low q in let c = less.at s q t in let e = own_one s t (same_path q i.path) in
          omega (arith, a, b, c, e);
      rest = λ M' up. i.rest M' (λ r q u.
          let mine : Bool = same_part r s && (u == t) in
          let a = up r q u in let b = less.at r q u in
          let c = apart (same_part r s) (same_path q i.path) (u == t) in
          let e = both mine (one (same_path q i.path)) (times_up (length (parent_path i.path) - d) (parent_path i.path) q) in
          let f = ap (λ n. cond mine n 0) (times_rest i.path d above.root low q) in
          omega (arith, a, b, c, e, f));
    }

    pub back_all : length i.path ≤ d → IsOneMoreBeyond M s p d t T
    back_all low = i.rest M (λ r q u.
        let e : length i.path - d ≡ 0 = omega (arith, low) in
        let a = ap (λ n. cond (same_part r s && (u == t)) (times_up n i.path q) 0) e in
        let b = neither (same_part r s && (u == t)) in
        omega (arith, a, b))

-- ---- added

-- one was added at each path below the node's, from p on: with it there and above, there is one more at p and above
pub record HasMore (keys : Keys) (T : HeldByPath) (s : Part) (t : ℕ) (p : Path) (at : NodeKey) (M : HeldByPath) : Type 0 where
  pub path : Path
  pub there : get keys path ≡ Some at
  pub steps : ℕ
  pub is : path ≡ above_by steps p
  pub names : steps + length path ≡ length p
  pub added : (r : Part) (q : Path) (u : ℕ) → held_at (in_part r M) q u ≡ held_at (in_part r T) q u + cond (same_part r s && (u == t)) (times_up steps p q) 0
  pub rest : (M' : HeldByPath) → IsOneMoreUp M s path t M' → IsOneMoreUp T s p t M'

module _ (keys : Keys) (T : HeldByPath) (s : Part) (t : ℕ) (p : Path) where
  pub more_none : (key : NodeKey) → get keys p ≡ Some key → HasMore keys T s t p key T
  more_none key h = record {
    path = p;
    there = h;
    steps = 0;
    is = refl;
    names = omega arith;
    added = λ r q u. let a = neither (same_part r s && (u == t)) in omega (arith, a);
    rest = λ M' more. more;
  }

  module _ (at : NodeKey) (M : HeldByPath) (i : HasMore keys T s t p at M) where
    module _ (N : HeldByPath) (more : IsOneMoreIn M s i.path t N) where
      pub more_next : held_at (in_part s M) i.path t ≡ 0 → (parent : NodeKey) → IsAbove keys at parent i.path → HasMore keys T s t p parent N
      more_next none parent above = record {
        path = parent_path i.path;
        there = above.there;
        steps = suc i.steps;
        is = ap parent_path i.is ∙ sym (above_next i.steps p);
        names = (let a = i.names in let b = length-parent i.path above.root in omega (arith, a, b));
        added = λ r q u.
            let mine : Bool = same_part r s && (u == t) in
            let a = more.at r q u in let b = i.added r q u in
            let c = apart (same_part r s) (same_path q i.path) (u == t) in
            let e = both mine (times_up i.steps p q) (one (same_path q (above_by i.steps p))) in
            let f = ap (λ n. cond mine n 0) (times_next i.steps p q) in
            let g = ap (λ x. cond mine (one (same_path q x)) 0) i.is in
            omega (arith, a, b, c, e, f, g);
        rest = λ M' up. i.rest M' (up_next M N M' s i.path t above.root none more up);
      }

      pub more_stop : 0 < held_at (in_part s M) i.path t → IsOneMoreUp T s p t N
      more_stop low = i.rest N (up_stop M N s i.path t more low)

      pub more_all : is_root i.path ≡ true → IsOneMoreUp T s p t N
      more_all root = i.rest N (up_root M N s i.path t more root)

    -- with what was added taken back, all is as it was
    so_far : (d : ℕ) → d ≡ length i.path → i.steps ≡ length p - d
    so_far d e = let a = i.names in omega (arith, a, e)

    pub more_held : (d : ℕ) → d ≡ length i.path → HasBeyond M s p d t
    more_held d e = λ q.
        let a = i.added s q t in let b = own_all s t (times_up i.steps p q) in let c = ap (λ n. times_up n p q) (so_far d e) in
        omega (arith, a, b, c)

    pub more_undone : (d : ℕ) → d ≡ length i.path → (M' : HeldByPath) → IsOneMoreBeyond M' s p d t M → IsSameHeld T M'
    more_undone d e M' back = record { at = as_it_was; branched = λ r q u. same_branches (in_part r T) (in_part r M') q u (λ x. as_it_was r x u) }
      where
        as_it_was : (r : Part) (q : Path) (u : ℕ) → held_at (in_part r M') q u ≡ held_at (in_part r T) q u
        as_it_was r q u =
            let a = i.added r q u in let b = back r q u in let c = ap (λ n. cond (same_part r s && (u == t)) (times_up n p q) 0) (so_far d e) in
            omega (arith, a, b, c)
