-- From a path upward: one holding more, and where it is the first there, one more above.
use Rattle.std.proofs.Common.{◌≡◌, ℕ, ◌+◌, ◌<◌, ◌≤◌, ◌==◌, ◌&&◌, Bool, true, false, Some, None, refl, sym, ap, subst, ◌∙◌, arith}
use Rattle.std.proofs.lemmas.Bool.{eqb-true, eq-eqb}
use Rattle.std.proofs.lemmas.Bool.Decides.{nat_tests}
use Rattle.std.proofs.lemmas.Option.{none-some, same_Some}
use Rattle.cg_name.specs.Path.{Path, is_parent, is_root, same_path}
use Rattle.cg_model_laws.proofs.Paths.{same_path-from, same_path-is, same_path-itself}
use Rattle.cg_path_tree.proofs.Parents.{below_parent, no_child, not_own_child, root_no_child}
use Rattle.cg_path_tree.specs.Nodes.{parent_path}
use Rattle.cg_locks.specs.declared.held.Kind.{Kind}
use Rattle.cg_locks.specs.declared.held.Kind.TheVariants as kinds
use Rattle.cg_locks.specs.declared.held.Part.{Part}
use Rattle.cg_locks.specs.declared.held.Part.TheVariants.{ChangedAt, ReadAt, StaysAt, CountedAt, ChangedBelow, ReadBelow, StaysBelow}
use Rattle.cg_locks.specs.Held.{at_or_below, at_path, same_kind, same_part}
use Rattle.cg_locks.specs.HeldByPath.{in_part, AreSummedUp, HasBranches, HasMoreThanBranches, HeldByPath, IsMarkMore, IsOneMoreIn, IsOneMoreUp}
use Rattle.cg_locks.specs.Holders.{branches, held_at, one, IsSummedUp}
use Rattle.cg_locks.proofs.Parts.{same_kinds, same_part-is, same_part-itself, IsAligned}

none_in : (a b : Bool) → a ≡ false → one (a && b) ≡ 0
none_in a b e = ap (λ x. one (x && b)) e

-- ---- the branch that p is

-- what is added to the branches at q where the transaction comes to p: it was there before, or p is the root's path
abbrev Turning : HeldByPath → Part → Path → ℕ → Part → Path → ℕ → ℕ
Turning T s p t r q u = one (same_part r s && (is_parent q p && ((u == t) && (held_at (in_part r T) p u == 0))))

module _ (T : HeldByPath) (s : Part) (p : Path) (t : ℕ) where
  -- by what is so of the part and the transaction alone
  turning_as : (r : Part) (q : Path) (u : ℕ) (b : Bool) → (held_at (in_part s T) p t == 0) ≡ b → Turning T s p t r q u ≡ one (same_part r s && (is_parent q p && ((u == t) && b)))
  turning_as r q u b is = elim (same_part r s) as (λ x. same_part r s ≡ x → one (x && (is_parent q p && ((u == t) && (held_at (in_part r T) p u == 0)))) ≡ one (x && (is_parent q p && ((u == t) && b)))) [
    | false ↦ λ _. refl
    | true ↦ λ e. (elim (u == t) as (λ y. (u == t) ≡ y → one (is_parent q p && (y && (held_at (in_part r T) p u == 0))) ≡ one (is_parent q p && (y && b))) [
      | false ↦ λ _. refl
      | true ↦ λ f. ap (λ z. one (is_parent q p && z)) (ap (λ x. held_at (in_part x T) p u == 0) (same_part-is r s e) ∙ ap (λ v. held_at (in_part s T) p v == 0) (eqb-true u t f) ∙ is)
    ] refl)
  ] refl

  -- it was there before
  not_first : 0 < held_at (in_part s T) p t → (r : Part) (q : Path) (u : ℕ) → Turning T s p t r q u ≡ 0
  not_first low r q u = turning_as r q u false (above_0 (held_at (in_part s T) p t) low) ∙ none (same_part r s) (is_parent q p) (u == t)
    where
      above_0 : (n : ℕ) → 0 < n → (n == 0) ≡ false
      above_0 n l = grind (arith, nat_tests, l)

      none : (a b c : Bool) → one (a && (b && (c && false))) ≡ 0
      none false b c = refl
      none true false c = refl
      none true true false = refl
      none true true true = refl

  at_the_root : is_root p ≡ true → (r : Part) (q : Path) (u : ℕ) → Turning T s p t r q u ≡ 0
  at_the_root root r q u =
      ap (λ b. one (same_part r s && (b && ((u == t) && (held_at (in_part r T) p u == 0))))) (root_no_child q p root) ∙ none (same_part r s)
    where
      none : (a : Bool) → one (a && false) ≡ 0
      none false = refl
      none true = refl

  parent_same : is_root p ≡ false → (q : Path) → is_parent q p ≡ same_path q (parent_path p)
  parent_same root q = elim (same_path q (parent_path p)) as (λ b. same_path q (parent_path p) ≡ b → is_parent q p ≡ b) [
    | true ↦ λ e. ap (λ r. is_parent r p) (same_path-is q (parent_path p) e) ∙ below_parent p root
    | false ↦ λ e. no_child q p (λ is. true_false (sym (same_path-from q (parent_path p) is) ∙ e))
  ] refl
    where
      true_false : true ≡ false → ⊥
      true_false e = cc

  -- it is the first there: the parent's path has a branch more
  first_there : is_root p ≡ false → held_at (in_part s T) p t ≡ 0 → (r : Part) (q : Path) (u : ℕ) → Turning T s p t r q u ≡ one (same_part r s && (same_path q (parent_path p) && (u == t)))
  first_there root none r q u =
      turning_as r q u true (ap (λ n. n == 0) none)
      ∙ ap (λ b. one (same_part r s && (b && ((u == t) && true)))) (parent_same root q)
      ∙ ap (λ b. one (same_part r s && (same_path q (parent_path p) && b))) (and_true (u == t))
    where
      and_true : (b : Bool) → b && true ≡ b
      and_true false = refl
      and_true true = refl

-- ---- one step, and the rest

module _ (T T' : HeldByPath) (s : Part) (p : Path) (t : ℕ) (more : IsOneMoreIn T s p t T') where
  stops : ((r : Part) (q : Path) (u : ℕ) → Turning T s p t r q u ≡ 0) → IsOneMoreUp T s p t T'
  stops none = record {
    at = λ r ne q u. let a = more.at r q u in let b = none_in (same_part r s) (same_path q p && (u == t)) ne in omega (arith, a, b);
    beyond = λ r q u. let a = more.at r q u in let b = more.branched r q u in let c = none r q u in omega (arith, a, b, c);
  }

  pub up_root : is_root p ≡ true → IsOneMoreUp T s p t T'
  up_root root = stops (at_the_root T s p t root)

  pub up_stop : 0 < held_at (in_part s T) p t → IsOneMoreUp T s p t T'
  up_stop low = stops (not_first T s p t low)

module _ (T M T' : HeldByPath) (s : Part) (p : Path) (t : ℕ) (root : is_root p ≡ false) where
  pub up_next : held_at (in_part s T) p t ≡ 0 → IsOneMoreIn T s p t M → IsOneMoreUp M s (parent_path p) t T' → IsOneMoreUp T s p t T'
  up_next none first rest = record {
    at = λ r ne q u. let a = first.at r q u in let b = none_in (same_part r s) (same_path q p && (u == t)) ne in let c = rest.at r ne q u in omega (arith, a, b, c);
    beyond = λ r q u.
        let a = first.at r q u in let b = first.branched r q u in let c = rest.beyond r q u in let d = first_there T s p t root none r q u in omega (arith, a, b, c, d);
  }

  pub up_last : held_at (in_part s M) p t ≡ 0 → IsOneMoreUp T s (parent_path p) t M → IsOneMoreIn M s p t T' → IsOneMoreUp T s p t T'
  up_last none rest last = record {
    at = λ r ne q u. let a = last.at r q u in let b = none_in (same_part r s) (same_path q p && (u == t)) ne in let c = rest.at r ne q u in omega (arith, a, b, c);
    beyond = λ r q u.
        let a = last.at r q u in let b = last.branched r q u in let c = rest.beyond r q u in let d = first_there M s p t root none r q u in omega (arith, a, b, c, d);
  }

-- one is held where it was added
pub one_more_at : (T T' : HeldByPath) (s : Part) (p : Path) (t : ℕ) → IsOneMoreIn T s p t T' → held_at (in_part s T') p t ≡ held_at (in_part s T) p t + 1
one_more_at T T' s p t more =
    let a = more.at s p t in
    let own : one (same_part s s && (same_path p p && (t == t))) ≡ 1 = (λ i. one (same_part-itself s i && (same_path-itself p i && eq-eqb t t refl i))) in
    omega (arith, a, own)

pub added_is_held : (T T' : HeldByPath) (s : Part) (p : Path) (t : ℕ) → IsOneMoreIn T s p t T' → 0 < held_at (in_part s T') p t
added_is_held T T' s p t more = let a = one_more_at T T' s p t more in omega (arith, a)

-- what is taken away at p, where there was more than the branches told
module _ (M T : HeldByPath) (s : Part) (p : Path) (t : ℕ) (less : IsOneMoreIn M s p t T) (filled : HasBranches T s t) (more : HasMoreThanBranches T s t p) where
  pub still_filled : HasBranches M s t
  still_filled q =
      let a = less.at s q t in
      let b = less.branched s q t in
      elim (same_path q p) as (λ e. same_path q p ≡ e → branches (in_part s M) q t ≤ held_at (in_part s M) q t) [
        | true ↦ λ e.
            let is : q ≡ p = same_path-is q p e in
            let low : branches (in_part s T) q t < held_at (in_part s T) q t = subst (HasMoreThanBranches T s t) (sym is) more in
            let own : one (same_part s s && (same_path q p && (t == t))) ≡ 1 = (λ i. one (same_part-itself s i && (e i && eq-eqb t t refl i))) in
            omega (arith, a, b, low, own)
        | false ↦ λ e.
            let f = filled q in
            let none : one (same_part s s && (same_path q p && (t == t))) ≡ 0 = (λ i. one (same_part-itself s i && (e i && (t == t)))) in
            omega (arith, a, b, f, none)
      ] refl

  pub more_above : is_root p ≡ false → held_at (in_part s M) p t ≡ 0 → HasMoreThanBranches M s t (parent_path p)
  more_above root none =
      let q = parent_path p in
      let a = less.at s q t in
      let b = less.branched s q t in
      let c = first_there M s p t root none s q t in
      let own : one (same_part s s && (same_path q q && (t == t))) ≡ 1 = (λ i. one (same_part-itself s i && (same_path-itself q i && eq-eqb t t refl i))) in
      let apart : one (same_part s s && (same_path q p && (t == t))) ≡ 0 = (λ i. one (same_part-itself s i && (other i && (t == t)))) in
      let f = filled q in
      omega (arith, a, b, c, own, apart, f)
    where
      other : same_path (parent_path p) p ≡ false
      other = elim (same_path (parent_path p) p) as (λ b. same_path (parent_path p) p ≡ b → b ≡ false) [
        | true ↦ λ e. absurd (true_false (sym (below_parent p root) ∙ ap (λ r. is_parent r p) (same_path-is (parent_path p) p e) ∙ not_own_child p))
        | false ↦ λ e. refl
      ] refl
        where
          true_false : true ≡ false → ⊥
          true_false e = cc

-- ---- a mark of a kind

-- one more in the part of the kind at p, and in the part b one more than the branches tell
pub record IsBoth (T : HeldByPath) (k : Kind) (b : Part) (p : Path) (t : ℕ) (T' : HeldByPath) : Type 0 where
  pub at : (r : Part) → same_part r b ≡ false → (q : Path) (u : ℕ) → held_at (in_part r T') q u ≡ held_at (in_part r T) q u + one (same_part r (at_path k) && (same_path q p && (u == t)))
  pub beyond : (r : Part) → same_part r (at_path k) ≡ false → (q : Path) (u : ℕ)
      → held_at (in_part r T') q u + branches (in_part r T) q u ≡ (held_at (in_part r T) q u + branches (in_part r T') q u) + one (same_part r b && (same_path q p && (u == t)))

module _ (T M T' : HeldByPath) (k : Kind) (b : Part) (p : Path) (t : ℕ) where
  pub at_then_up : IsOneMoreIn T (at_path k) p t M → IsOneMoreUp M b p t T' → IsBoth T k b p t T'
  at_then_up first rest = record {
    at = λ r ne q u. let x = first.at r q u in let y = rest.at r ne q u in omega (arith, x, y);
    beyond = λ r ne q u.
        let x = first.at r q u in let z = first.branched r q u in let y = rest.beyond r q u in
        let m = none_in (same_part r (at_path k)) (same_path q p && (u == t)) ne in
        let n = none_in (same_part r (at_path k)) (is_parent q p && ((u == t) && (held_at (in_part r T) p u == 0))) ne in
        omega (arith, x, y, z, m, n);
  }

  pub up_then_at : IsOneMoreUp T b p t M → IsOneMoreIn M (at_path k) p t T' → IsBoth T k b p t T'
  up_then_at first rest = record {
    at = λ r ne q u. let x = rest.at r q u in let y = first.at r ne q u in omega (arith, x, y);
    beyond = λ r ne q u.
        let x = rest.at r q u in let z = rest.branched r q u in let y = first.beyond r q u in
        let m = none_in (same_part r (at_path k)) (same_path q p && (u == t)) ne in
        let n = none_in (same_part r (at_path k)) (is_parent q p && ((u == t) && (held_at (in_part r M) p u == 0))) ne in
        omega (arith, x, y, z, m, n);
  }

module _ (T T' : HeldByPath) (k : Kind) (b : Part) (p : Path) (t : ℕ) (both : IsBoth T k b p t T') (a d : Part)
    (apart : same_part a b ≡ false) (other : same_part d (at_path k) ≡ false) (alike : same_part d b ≡ same_part a (at_path k)) where
  counted_alike : (q : Path) (u : ℕ) → (held_at (in_part d T) q u ≡ held_at (in_part a T) q u + branches (in_part d T) q u) → held_at (in_part d T') q u ≡ held_at (in_part a T') q u + branches (in_part d T') q u
  counted_alike q u h =
      let x = both.beyond d other q u in let y = both.at a apart q u in
      let e : one (same_part d b && (same_path q p && (u == t))) ≡ one (same_part a (at_path k) && (same_path q p && (u == t))) = ap (λ z. one (z && (same_path q p && (u == t)))) alike in
      omega (arith, x, y, e, h)

  counted_back : (q : Path) (u : ℕ) → (held_at (in_part d T') q u ≡ held_at (in_part a T') q u + branches (in_part d T') q u) → held_at (in_part d T) q u ≡ held_at (in_part a T) q u + branches (in_part d T) q u
  counted_back q u h =
      let x = both.beyond d other q u in let y = both.at a apart q u in
      let e : one (same_part d b && (same_path q p && (u == t))) ≡ one (same_part a (at_path k) && (same_path q p && (u == t))) = ap (λ z. one (z && (same_path q p && (u == t)))) alike in
      omega (arith, x, y, e, h)

pub mark_more : (T T' : HeldByPath) (k : Kind) (b : Part) (p : Path) (t : ℕ) → IsAligned k b → IsBoth T k b p t T' → IsMarkMore T k p t T'
mark_more T T' k b p t lie both = record {
  at = λ j q u.
      let x = both.at (at_path j) (lie.apart j) q u in
      let e : one (same_part (at_path j) (at_path k) && (same_path q p && (u == t))) ≡ one (same_kind j k && (same_path q p && (u == t))) = ap (λ z. one (z && (same_path q p && (u == t)))) (same_kinds j k) in
      omega (arith, x, e);
  summed = λ h. record {
    changed = λ q u. counted_alike T T' k b p t both ChangedAt ChangedBelow (lie.apart kinds.Changed) lie.no_changed lie.changed q u (h.changed q u);
    read = λ q u. counted_alike T T' k b p t both ReadAt ReadBelow (lie.apart kinds.Read) lie.no_read lie.read q u (h.read q u);
    stays = λ q u. counted_alike T T' k b p t both StaysAt StaysBelow (lie.apart kinds.Stays) lie.no_stays lie.stays q u (h.stays q u);
  };
  back = λ h. record {
    changed = λ q u. counted_back T T' k b p t both ChangedAt ChangedBelow (lie.apart kinds.Changed) lie.no_changed lie.changed q u (h.changed q u);
    read = λ q u. counted_back T T' k b p t both ReadAt ReadBelow (lie.apart kinds.Read) lie.no_read lie.read q u (h.read q u);
    stays = λ q u. counted_back T T' k b p t both StaysAt StaysBelow (lie.apart kinds.Stays) lie.no_stays lie.stays q u (h.stays q u);
  };
}

-- a mark of a kind that isn't counted below
module _ (T T' : HeldByPath) (p : Path) (t : ℕ) (more : IsOneMoreIn T CountedAt p t T') where
  sum_kept : (a d : Part) → same_part a CountedAt ≡ false → same_part d CountedAt ≡ false → IsSummedUp (in_part a T) (in_part d T) → IsSummedUp (in_part a T') (in_part d T')
  sum_kept a d na nd h q u =
      let x = more.at d q u in let w = more.branched d q u in let y = more.at a q u in let z = h q u in
      let m = none_in (same_part d CountedAt) (same_path q p && (u == t)) nd in let n = none_in (same_part a CountedAt) (same_path q p && (u == t)) na in
      let o = none_in (same_part d CountedAt) (is_parent q p && ((u == t) && (held_at (in_part d T) p u == 0))) nd in
      omega (arith, x, y, z, w, m, n, o)

  sum_back : (a d : Part) → same_part a CountedAt ≡ false → same_part d CountedAt ≡ false → IsSummedUp (in_part a T') (in_part d T') → IsSummedUp (in_part a T) (in_part d T)
  sum_back a d na nd h q u =
      let x = more.at d q u in let w = more.branched d q u in let y = more.at a q u in let z = h q u in
      let m = none_in (same_part d CountedAt) (same_path q p && (u == t)) nd in let n = none_in (same_part a CountedAt) (same_path q p && (u == t)) na in
      let o = none_in (same_part d CountedAt) (is_parent q p && ((u == t) && (held_at (in_part d T) p u == 0))) nd in
      omega (arith, x, y, z, w, m, n, o)

  counted_more : IsMarkMore T kinds.Descendants p t T'
  counted_more = record {
    at = λ j q u. more.at (at_path j) q u ∙ ap (λ z. held_at (in_part (at_path j) T) q u + one (z && (same_path q p && (u == t)))) (same_kinds j kinds.Descendants);
    summed = λ h. record { changed = sum_kept ChangedAt ChangedBelow refl refl h.changed; read = sum_kept ReadAt ReadBelow refl refl h.read; stays = sum_kept StaysAt StaysBelow refl refl h.stays };
    back = λ h. record { changed = sum_back ChangedAt ChangedBelow refl refl h.changed; read = sum_back ReadAt ReadBelow refl refl h.read; stays = sum_back StaysAt StaysBelow refl refl h.stays };
  }

pub alone_more : (T T' : HeldByPath) (k : Kind) (p : Path) (t : ℕ) → at_or_below k ≡ None → IsOneMoreIn T (at_path k) p t T' → IsMarkMore T k p t T'
alone_more T T' kinds.Changed p t e more = absurd (none-some ChangedBelow (sym e))
alone_more T T' kinds.Read p t e more = absurd (none-some ReadBelow (sym e))
alone_more T T' kinds.Stays p t e more = absurd (none-some StaysBelow (sym e))
alone_more T T' kinds.Descendants p t e more = counted_more T T' p t more

-- ---- what is held at a path is more than the branches tell

summed_of : (T : HeldByPath) (k : Kind) (b : Part) → at_or_below k ≡ Some b → AreSummedUp T → IsSummedUp (in_part (at_path k) T) (in_part b T)
summed_of T kinds.Changed b e h = subst (λ x. IsSummedUp (in_part ChangedAt T) (in_part x T)) (same_Some ChangedBelow b e) h.changed
summed_of T kinds.Read b e h = subst (λ x. IsSummedUp (in_part ReadAt T) (in_part x T)) (same_Some ReadBelow b e) h.read
summed_of T kinds.Stays b e h = subst (λ x. IsSummedUp (in_part StaysAt T) (in_part x T)) (same_Some StaysBelow b e) h.stays
summed_of T kinds.Descendants b e h = absurd (none-some b e)

-- what is left to take away once a mark at p is gone
module _ (T M : HeldByPath) (k : Kind) (b : Part) (p : Path) (t : ℕ) (below : at_or_below k ≡ Some b) (lie : IsAligned k b) (sums : AreSummedUp T) (less : IsOneMoreIn M (at_path k) p t T) where
  left : (q : Path) → held_at (in_part b M) q t ≡ held_at (in_part (at_path k) T) q t + branches (in_part b M) q t
  left q =
      let s = summed_of T k b below sums q t in
      let m = less.at b q t in
      let w = less.branched b q t in
      let n = none_in (same_part b (at_path k)) (same_path q p && (t == t)) lie.other in
      let o = none_in (same_part b (at_path k)) (is_parent q p && ((t == t) && (held_at (in_part b M) p t == 0))) lie.other in
      omega (arith, s, m, w, n, o)

  pub left_filled : HasBranches M b t
  left_filled q = let l = left q in omega (arith, l)

  pub left_more : 0 < held_at (in_part (at_path k) T) p t → HasMoreThanBranches M b t p
  left_more held = let l = left p in omega (arith, l, held)
