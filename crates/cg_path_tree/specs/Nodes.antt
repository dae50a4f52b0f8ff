-- What a contract sees of a tree: the value and the key at each path.
use Rattle.std.specs.Prelude.{◌≡◌, ◌↔◌, ◌-◌, ◌==◌, ℕ, Bool, true, false, cond, Contains, List, [], ◌∷◌, map, length, take, None, Some, IsSome, refl}
use Rattle.std.specs.Coded.{Coded, code_by, coded×, coded_ℕ, coded_list}
use Rattle.cg_maps.specs.FiniteMap.{FiniteMap, get, set_at, entries}
use Rattle.cg_maps.specs.Code.{map_code}
use Rattle.cg_name.specs.Path.{Path, path_cmp, is_root, is_parent, is_prefix}
use Rattle.cg_path_tree.specs.declared.node.NodeKey.{NodeKey}

pub record Nodes (V : Type 0) : Type 0 where
  pub values : FiniteMap path_cmp V
  pub keys : FiniteMap path_cmp NodeKey

abbrev pub path_code : Coded Path
path_code = coded_list (coded_list coded_ℕ)

abbrev pub key_code : Coded NodeKey
key_code = code_by ℕ coded_ℕ (λ k. k.0) (λ n. record { 0 = n }) (λ _. refl)

abbrev pub nodes_code : {V : Type 0} → Coded V → Coded (Nodes V)
nodes_code {V} code =
    code_by (FiniteMap path_cmp V × FiniteMap path_cmp NodeKey) (coded× (map_code path_code code) (map_code path_code key_code))
    (λ n. (n.values, n.keys)) (λ p. record { values = p.0; keys = p.1 }) (λ _. refl)

-- the number of a key, by which it is told from others
abbrev pub number_of : NodeKey → ℕ
number_of k = k.0

-- the path one name shorter; the root's own
abbrev pub parent_path : Path → Path
parent_path p = take (length p - 1) p

-- the key is that of a node
abbrev pub IsKey : FiniteMap path_cmp NodeKey → NodeKey → Type 0
IsKey keys key = (p : Path) × (get keys p ≡ Some key)

-- the root, or a path below a node
abbrev pub HasParent : FiniteMap path_cmp NodeKey → Path → Type 0
HasParent keys p = is_root p ≡ false → IsSome (get keys (parent_path p))

-- no node lies right below the path
abbrev pub IsLeaf : FiniteMap path_cmp NodeKey → Path → Type 0
IsLeaf keys p = (q : Path) → is_parent p q ≡ true → get keys q ≡ None

-- the path of the first entry with this key
abbrev pub path_in : List (Path × NodeKey) → NodeKey → Path
path_in [] key = []
path_in (e ∷ es) key = cond (key.0 == e.1.0) e.0 (path_in es key)

-- the path of the node with this key
abbrev pub path_of : FiniteMap path_cmp NodeKey → NodeKey → Path
path_of keys key = path_in (entries keys) key

-- the keys, each with the path of its node
abbrev pub with_paths : FiniteMap path_cmp NodeKey → List NodeKey → List (Path × NodeKey)
with_paths keys ks = map (λ k. (path_of keys k, k)) ks

-- the key is that of a node right below the path
abbrev pub IsRightBelow : FiniteMap path_cmp NodeKey → Path → NodeKey → Type 0
IsRightBelow keys p key = (q : Path) × (get keys q ≡ Some key) × (is_parent p q ≡ true)

-- a node is one of these keys exactly where its path passes the test
abbrev pub ArePassing : FiniteMap path_cmp NodeKey → (Path → Bool) → List NodeKey → Type 0
ArePassing keys test ks = (p : Path) (k : NodeKey) → get keys p ≡ Some k → (test p ≡ true) ↔ Contains ks k

-- these nodes, with this value at the path
abbrev pub with_value : {V : Type 0} → Nodes V → Path → V → Nodes V
with_value nodes p w = record { values = set_at nodes.values p (Some w); keys = nodes.keys }

-- where there is a node, there is one at each prefix
abbrev pub AreClosed : FiniteMap path_cmp NodeKey → Type 0
AreClosed keys = (p q : Path) → is_prefix p q ≡ true → IsSome (get keys q) → IsSome (get keys p)

-- no key is that of two paths
abbrev pub HaveOnePath : FiniteMap path_cmp NodeKey → Type 0
HaveOnePath keys = (p q : Path) (key : NodeKey) → get keys p ≡ Some key → get keys q ≡ Some key → p ≡ q
