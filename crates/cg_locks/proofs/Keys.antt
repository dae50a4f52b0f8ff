-- The keys of a node and of the one above it.
use Rattle.std.proofs.Common.{◌≡◌, ◌≢◌, ◌<◌, true, false, not, length, Option, Some, None, is_some, refl, sym, ap, ◌∙◌, arith, true≢false}
use Rattle.cg_maps.specs.FiniteMap.{FiniteMap, get, set_at}
use Rattle.cg_maps.proofs.Maps as maps
use Rattle.cg_name.specs.Order.{path_cmp_total, path_cmp_exact}
use Rattle.cg_name.specs.Path.{Path, path_cmp, is_root}
use Rattle.cg_path_tree.proofs.Changing.{path_of-is}
use Rattle.cg_path_tree.proofs.Parents.{length-parent}
use Rattle.cg_path_tree.specs.declared.node.NodeKey.{NodeKey}
use Rattle.cg_path_tree.specs.Nodes.{parent_path, path_of, HaveOnePath, Nodes}

abbrev pub Keys : Type 0
Keys = FiniteMap path_cmp NodeKey

pub below_root : (p : Path) → true ≡ not (is_root p) → is_root p ≡ false
below_root p e = elim (is_root p) as (λ b. true ≡ not b → b ≡ false) [ true ↦ λ x. absurd (true≢false x) | false ↦ λ x. refl ] e

pub at_root : (p : Path) → false ≡ not (is_root p) → is_root p ≡ true
at_root p e = elim (is_root p) as (λ b. false ≡ not b → b ≡ true) [ true ↦ λ x. refl | false ↦ λ x. absurd (true≢false (sym x)) ] e

-- the node above a node
pub record IsAbove (keys : Keys) (key parent : NodeKey) (p : Path) : Type 0 where
  pub root : is_root p ≡ false
  pub there : get keys (parent_path p) ≡ Some parent

pub above_of_key : (keys : Keys) (key parent : NodeKey) → ((p : Path) → get keys p ≡ Some key → true ≡ not (is_root p)) → ((p : Path) → get keys p ≡ Some key → is_root p ≡ false → Some parent ≡ get keys (parent_path p))
    → (p : Path) → get keys p ≡ Some key → IsAbove keys key parent p
above_of_key keys key parent root value p h =
    let below : is_root p ≡ false = below_root p (root p h) in
    record { root = below; there = sym (value p h below) }

module _ (keys : Keys) (key parent : NodeKey) (one : HaveOnePath keys) (p : Path) (h : get keys p ≡ Some key) (above : IsAbove keys key parent p) where
  -- its path is shorter
  pub shorter : length (path_of keys parent) < length (path_of keys key)
  shorter =
      let a : length (path_of keys parent) ≡ length (parent_path p) = ap length (path_of-is keys parent (parent_path p) one above.there) in
      let b : length (path_of keys key) ≡ length p = ap length (path_of-is keys key p one h) in
      let c = length-parent p above.root in
      omega (arith, a, b, c)

  -- and it stays when the one below goes
  not_itself : parent_path p ≢ p
  not_itself e = let a = ap length e in let c = length-parent p above.root in omega (arith, a, c)

  pub left_above : (keys' : Keys) → keys' ≡ set_at keys p None → get keys' (parent_path p) ≡ Some parent
  left_above keys' set = ap (λ M. get M (parent_path p)) set ∙ maps.get_apart path_cmp_total path_cmp_exact keys p None (parent_path p) not_itself ∙ above.there

  pub shorter_left : (keys' : Keys) → HaveOnePath keys' → keys' ≡ set_at keys p None → length (path_of keys' parent) < length (path_of keys key)
  shorter_left keys' later set =
      let a : length (path_of keys' parent) ≡ length (parent_path p) = ap length (path_of-is keys' parent (parent_path p) later (left_above keys' set)) in
      let b : length (path_of keys key) ≡ length p = ap length (path_of-is keys key p one h) in
      let c = length-parent p above.root in
      omega (arith, a, b, c)

-- where there is no key there is no value
pub absent_value : {V : Type 0} (nodes : Nodes V) (p : Path) → is_some (get nodes.values p) ≡ is_some (get nodes.keys p) → get nodes.keys p ≡ None → get nodes.values p ≡ None
absent_value nodes p both absent = none_of (get nodes.values p) (both ∙ ap is_some absent)
  where
    none_of : {A : Type 0} (o : Option A) → is_some o ≡ false → o ≡ None
    none_of None e = refl
    none_of (Some x) e = absurd (true≢false e)

-- a key that was found
pub key_found : (keys keys' : Keys) (p : Path) (k : NodeKey) → keys' ≡ set_at keys p (Some k) → get keys' p ≡ Some k
key_found keys keys' p k set = ap (λ M. get M p) set ∙ maps.get_here path_cmp_total path_cmp_exact keys p (Some k)

pub same_key : (keys keys' : Keys) (p : Path) (key : NodeKey) → keys' ≡ keys → get keys p ≡ Some key → get keys' p ≡ Some key
same_key keys keys' p key same h = ap (λ M. get M p) same ∙ h
