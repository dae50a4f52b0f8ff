-- A walk upward, node after node: what is left to do from the node that it has come to.
use Rattle.std.proofs.Common.{◌≡◌, ℕ, ◌<◌, ◌≤◌, nat_lt, true, false, cond, Option, Some, None, refl, sym, ap, subst, ◌∙◌, arith}
use Rattle.std.proofs.lemmas.Bool.Decides.{nat_tests}
use Rattle.cg_maps.specs.FiniteMap.{get}
use Rattle.cg_name.specs.Path.{Path, is_root}
use Rattle.cg_path_tree.specs.declared.node.NodeKey.{NodeKey}
use Rattle.cg_path_tree.specs.Nodes.{parent_path}
use Rattle.cg_locks.specs.declared.held.Held.{Held}
use Rattle.cg_locks.specs.declared.held.Part.{Part}
use Rattle.cg_locks.specs.HeldByPath.{in_part, weighed_above, HasBranches, HasMoreThanBranches, HeldByPath, IsOneMoreIn, IsOneMoreUp}
use Rattle.cg_locks.specs.Holders.{held_at, lesser_of, IsLeastOther}
use Rattle.cg_locks.proofs.Clashes.{least_at_next, least_at_root}
use Rattle.cg_locks.proofs.Keys.{IsAbove, Keys}
use Rattle.cg_locks.proofs.Walks.{more_above, up_last, up_root, up_stop}

-- ---- the least on the way

pub lesser_lesser : (a b c : Option ℕ) → lesser_of (lesser_of a b) c ≡ lesser_of a (lesser_of b c)
lesser_lesser None b c = refl
lesser_lesser (Some n) None c = refl
lesser_lesser (Some n) (Some k) None = elim (nat_lt k n) as (λ x. lesser_of (cond x (Some k) (Some n)) None ≡ cond x (Some k) (Some n)) [ true ↦ refl | false ↦ refl ]
lesser_lesser (Some n) (Some k) (Some m) = elim (nat_lt k n) as (λ x. nat_lt k n ≡ x → lesser_of (cond x (Some k) (Some n)) (Some m) ≡ lesser_of (Some n) (cond (nat_lt m k) (Some m) (Some k))) [
  | true ↦ λ e. (elim (nat_lt m k) as (λ y. nat_lt m k ≡ y → cond y (Some m) (Some k) ≡ lesser_of (Some n) (cond y (Some m) (Some k))) [
    | true ↦ λ f. sym (ap (λ b. cond b (Some m) (Some n)) (below e f))
    | false ↦ λ f. sym (ap (λ b. cond b (Some k) (Some n)) e)
  ] refl)
  | false ↦ λ e. (elim (nat_lt m k) as (λ y. nat_lt m k ≡ y → cond (nat_lt m n) (Some m) (Some n) ≡ lesser_of (Some n) (cond y (Some m) (Some k))) [
    | true ↦ λ f. refl
    | false ↦ λ f. ap (λ b. cond b (Some m) (Some n)) (above e f) ∙ sym (ap (λ b. cond b (Some k) (Some n)) e)
  ] refl)
] refl
  where
    below : nat_lt k n ≡ true → nat_lt m k ≡ true → nat_lt m n ≡ true
    below e f =
        let a : k < n = grind (arith, nat_tests, e) in
        let b : m < k = grind (arith, nat_tests, f) in
        let c : m < n = omega (arith, a, b) in
        grind (arith, nat_tests, c)

    above : nat_lt k n ≡ false → nat_lt m k ≡ false → nat_lt m n ≡ false
    above e f =
        let a : n ≤ k = grind (arith, nat_tests, e) in
        let b : k ≤ m = grind (arith, nat_tests, f) in
        let c : n ≤ m = omega (arith, a, b) in
        grind (arith, nat_tests, c)

-- the least at the node's path and above it is still to be found: with it, what was found is the least at p and above
pub record HasPassed (keys : Keys) (w : Held → ℕ → ℕ) (T : HeldByPath) (t : ℕ) (p : Path) (at : NodeKey) (least : Option ℕ) : Type 0 where
  pub path : Path
  pub there : get keys path ≡ Some at
  pub rest : (r : Option ℕ) → IsLeastOther t (weighed_above w T path) r → IsLeastOther t (weighed_above w T p) (lesser_of least r)

module _ (keys : Keys) (w : Held → ℕ → ℕ) (T : HeldByPath) (t : ℕ) (p : Path) where
  pub passed_none : (key : NodeKey) → get keys p ≡ Some key → HasPassed keys w T t p key None
  passed_none key h = record { path = p; there = h; rest = λ r least. least }

  module _ (at : NodeKey) (least : Option ℕ) (i : HasPassed keys w T t p at least) (h : Held) (is : get T i.path ≡ Some h) (own now : Option ℕ) (here : IsLeastOther t (w h) own) (lesser : now ≡ lesser_of least own) where
    pub passed_next : (parent : NodeKey) → IsAbove keys at parent i.path → HasPassed keys w T t p parent now
    passed_next parent above = record {
      path = parent_path i.path;
      there = above.there;
      rest = λ r rest. subst (IsLeastOther t (weighed_above w T p)) (sym (lesser_lesser least own r) ∙ ap (λ o. lesser_of o r) (sym lesser))
          (i.rest (lesser_of own r) (least_at_next w T i.path h is t own r above.root here rest));
    }

    pub passed_all : is_root i.path ≡ true → IsLeastOther t (weighed_above w T p) now
    passed_all root = subst (IsLeastOther t (weighed_above w T p)) (sym lesser) (i.rest own (least_at_root w T i.path h is t own root here))

-- ---- one less on the way

-- one is still to be taken away at the node's path and above it: then it is taken away at p and above
pub record HasLess (keys : Keys) (T : HeldByPath) (s : Part) (t : ℕ) (p : Path) (at : NodeKey) (M : HeldByPath) : Type 0 where
  pub path : Path
  pub there : get keys path ≡ Some at
  pub more : HasMoreThanBranches M s t path
  pub rest : (M' : HeldByPath) → IsOneMoreUp M' s path t M → IsOneMoreUp M' s p t T

module _ (keys : Keys) (T : HeldByPath) (s : Part) (t : ℕ) (p : Path) where
  pub less_none : (key : NodeKey) → get keys p ≡ Some key → HasMoreThanBranches T s t p → HasLess keys T s t p key T
  less_none key h more = record { path = p; there = h; more = more; rest = λ M' less. less }

  module _ (at : NodeKey) (M N : HeldByPath) (i : HasLess keys T s t p at M) (less : IsOneMoreIn N s i.path t M) where
    pub less_next : HasBranches M s t → (parent : NodeKey) → IsAbove keys at parent i.path → held_at (in_part s N) i.path t ≡ 0 → HasLess keys T s t p parent N
    less_next filled parent above none = record {
      path = parent_path i.path;
      there = above.there;
      more = more_above N M s i.path t less filled i.more above.root none;
      rest = λ M' up. i.rest M' (up_last M' N M s i.path t above.root none up less);
    }

    pub less_stop : 0 < held_at (in_part s N) i.path t → IsOneMoreUp N s p t T
    less_stop low = i.rest N (up_stop N M s i.path t less low)

    pub less_all : is_root i.path ≡ true → IsOneMoreUp N s p t T
    less_all root = i.rest N (up_root N M s i.path t less root)
