-- Nodes in no order.
use Rattle.std.proofs.Common.{◌≡◌, ℕ, Bool, true, List, Some, is_some, slice_get, length, Contains, ◌↔◌, refl, sym, ap, ◌∙◌}
use Rattle.std.proofs.lemmas.Option.{get_or_from_slice_get, slice_get_read, slice_get_within}
use Rattle.cg_maps.specs.FiniteMap.{get}
use Rattle.cg_name.specs.Path.{Path}
use Rattle.cg_path_tree.specs.declared.node.NodeKey.{NodeKey}
use Rattle.cg_path_tree.specs.Nodes.{Nodes, ArePassing, HaveOnePath}
use Rattle.cg_text.specs.Controllers.{has}
use Rattle.cg_tree.specs.declared.entry.Entry.{Entry}
use Rattle.cg_tree.specs.Listing.{AreKeys}

-- the nodes are those of the paths that pass, each of them somewhere
pub record AreWhere (n : Nodes Entry) (test : Path → Bool) (ks : List NodeKey) : Type 0 where
  pub one_path : HaveOnePath n.keys
  pub both : (p : Path) → is_some (get n.values p) ≡ is_some (get n.keys p)
  pub each : (i : ℕ) (k : NodeKey) → slice_get ks i ≡ Some k → (q : Path) × (get n.keys q ≡ Some k) × (test q ≡ true)
  pub all : (q : Path) (k : NodeKey) → test q ≡ true → get n.keys q ≡ Some k → (i : ℕ) × (slice_get ks i ≡ Some k)

-- by what is said of each key
pub are_where : (n : Nodes Entry) (test : Path → Bool) (ks : List NodeKey) → HaveOnePath n.keys → ((p : Path) → is_some (get n.values p) ≡ is_some (get n.keys p))
    → ((k : NodeKey) → Contains ks k ↔ ((q : Path) × (get n.keys q ≡ Some k) × (test q ≡ true))) → AreWhere n test ks
are_where n test ks one both has = record {
  one_path = one;
  both = both;
  each = λ i k at. (has k).0 (i, slice_get_within ks i k at, get_or_from_slice_get ks i k k at);
  all = λ q k passes held. let at = (has k).1 (q, held, passes) in (at.0, slice_get_read ks (length ks) at.0 k refl at.1 (sym at.2));
}

-- they are just the nodes of the paths that pass
pub where_pass : (n : Nodes Entry) (test : Path → Bool) (ks : List NodeKey) → AreWhere n test ks → ArePassing n.keys test ks
where_pass n test ks w q k is = (
  λ e. let at = w.all q k e is in (at.0, slice_get_within ks at.0 k at.1, get_or_from_slice_get ks at.0 k k at.1),
  λ has. let f = w.each has.0 k (slice_get_read ks _ has.0 k refl has.1 (sym has.2)) in ap test (w.one_path q f.0 k is f.1) ∙ f.2,
)

-- and nodes
pub where_keys : (n : Nodes Entry) (test : Path → Bool) (ks : List NodeKey) → AreWhere n test ks → AreKeys n ks
where_keys n test ks w i k at = let f = w.each i k at in (f.0, f.1)
