-- The nodes of a tree and what is seen of it, as it grows and shrinks.
use Rattle.std.proofs.Common.{◌≡◌, ◌≢◌, ◌⊎◌, ℕ, suc, Bool, true, false, cond, List, [], ◌∷◌, ◌++◌, length, Option, None, Some, refl, sym, ap, subst, ◌∙◌, inl, inr, arith, eqb, eq-eqb, true≢false}
use Rattle.std.specs.List.{slice_get}
use Rattle.std.specs.Ordering.{eq_by_cmp}
use Rattle.std.specs.FinMap.Entries.{find}
use Rattle.std.proofs.lemmas.Bool.{cases_eq, eqb-true}
use Rattle.cg_maps.specs.FiniteMap.{from_entries, get, set_at}
use Rattle.cg_maps.proofs.Maps.{same_map, get-set_at}
use Rattle.cg_name.specs.Order.{path_cmp_total, path_cmp_exact}
use Rattle.cg_name.specs.Path.{Path, path_cmp, is_root, is_parent}
use Rattle.cg_path_tree.specs.declared.node.NodeKey.{NodeKey}
use Rattle.cg_path_tree.specs.Nodes.{parent_path}
use Rattle.cg_path_tree.specs.Chains.{path_hash}
use Rattle.cg_path_tree.specs.Linked.{NodeView, value_of, valued, values_at, IsNodeAt, IsTree}
use Rattle.cg_path_tree.proofs.ListChanges.{same_some, some_not_none, pushed_cases, LosesAt, left_cases}
use Rattle.cg_path_tree.proofs.Finding.{get_by_find, tell, itself, differs, found_at, standing_of, find-push, once-push, find-lose, once-lose}
use Rattle.cg_path_tree.proofs.Parents.{below_parent}

-- keys are told apart
pub cases_key : (k l : NodeKey) → (k ≡ l) ⊎ (k ≢ l)
cases_key k l = elim (cases_eq k.0 l.0) [
  | inl same ↦ inl (λ i. record { 0 = same i })
  | inr apart ↦ inr (λ same. apart (ap (λ (x : NodeKey). x.0) same))
]

pub same_key : (k l : NodeKey) (b : Bool) → b ≡ eqb k.0 l.0 → b ≡ true → k ≡ l
same_key k l b is h = λ i. record { 0 = eqb-true k.0 l.0 (sym is ∙ h) i }

pub other_key : (k l : NodeKey) (b : Bool) → b ≡ eqb k.0 l.0 → b ≡ false → k ≢ l
other_key k l b is h same = true≢false (sym (eq-eqb k.0 l.0 (ap (λ (x : NodeKey). x.0) same)) ∙ sym is ∙ h)

module _ {V : Type 0} where
  -- the value of the node that was found
  abbrev pub value_there : (NodeKey → Option (NodeView V)) → Option NodeKey → Option V
  value_there node None = None
  value_there node (Some k) = value_of (node k)

  -- each entry has a node
  abbrev pub HasNodes : List (Path × NodeKey) → (NodeKey → Option (NodeView V)) → Type 0
  HasNodes es node = (j : ℕ) (e : Path × NodeKey) → slice_get es j ≡ Some e → (n : NodeView V) × (node e.1 ≡ Some n)

  pub has_nodes : (es : List (Path × NodeKey)) (node : NodeKey → Option (NodeView V)) (count : Path → ℕ) → IsTree count es node → HasNodes es node
  has_nodes es node count t j e h = let x = t.node_of j e h in (x.0, x.1)

  -- ---- what is seen at a path

  one_value : (node : NodeKey → Option (NodeView V)) (q : Path) (e : Path × NodeKey) (n : NodeView V) (b : Bool) (o : Option NodeKey) (rest : Option V) → node e.1 ≡ Some n → rest ≡ value_there node o
      → cond b (Some n.value) rest ≡ value_there node (cond b (Some e.1) o)
  one_value node q e n true o rest is h = sym (ap value_of is)
  one_value node q e n false o rest is h = h

  find-values_at : (node : NodeKey → Option (NodeView V)) (q : Path) (es : List (Path × NodeKey)) → HasNodes es node → find path_cmp q (values_at node es) ≡ value_there node (find path_cmp q es)
  find-values_at node q [] has = refl
  find-values_at node q (e ∷ es) has =
      let first = has 0 e refl in
      ap (λ o. find path_cmp q (valued e.0 o (values_at node es))) first.1
      ∙ one_value node q e first.0 (eq_by_cmp path_cmp q e.0) (find path_cmp q es) (find path_cmp q (values_at node es)) first.1 (find-values_at node q es (λ j. has (suc j)))

  pub get-values : (node : NodeKey → Option (NodeView V)) (es : List (Path × NodeKey)) → HasNodes es node → (q : Path) → get (from_entries path_cmp (values_at node es)) q ≡ value_there node (find path_cmp q es)
  get-values node es has q = get_by_find (values_at node es) q ∙ find-values_at node q es has

  -- ---- from a key to its path and back

  module _ (count : Path → ℕ) (es : List (Path × NodeKey)) (node : NodeKey → Option (NodeView V)) (t : IsTree count es node) where
    -- the node that is found at a path
    pub node_found : (p : Path) (k : NodeKey) → find path_cmp p es ≡ Some k → (j : ℕ) × (n : NodeView V) × (slice_get es j ≡ Some (p, k)) × (node k ≡ Some n) × IsNodeAt count es j p n
    node_found p k h =
        let at = standing_of es p k h in
        let there = t.node_of at.0 (p, k) at.1 in
        (at.0, there.0, at.1, there.1, there.2)

    pub one_path : (q p : Path) (k : NodeKey) → find path_cmp q es ≡ Some k → find path_cmp p es ≡ Some k → q ≡ p
    one_path q p k a b =
        let x = node_found q k a in
        let y = node_found p k b in
        let same : x.1 ≡ y.1 = same_some x.1 y.1 (sym x.3 ∙ y.3) in
        let entry : x.0 ≡ y.0 = sym x.4.entry ∙ ap (λ (n : NodeView V). n.entry) same ∙ y.4.entry in
        ap (λ (e : Path × NodeKey). e.0) (same_some (q, k) (p, k) (sym x.2 ∙ ap (slice_get es) entry ∙ y.2))

    -- no key stands twice
    pub one_entry : (i j : ℕ) (e f : Path × NodeKey) → slice_get es i ≡ Some e → slice_get es j ≡ Some f → e.1 ≡ f.1 → i ≡ j
    one_entry i j e f a b same =
        let x = t.node_of i e a in
        let y = t.node_of j f b in
        sym x.2.entry ∙ ap (λ (n : NodeView V). n.entry) (same_some x.0 y.0 (sym x.1 ∙ ap node same ∙ y.1)) ∙ y.2.entry

    -- the node with the key of a path
    pub node_there : (p : Path) (k : NodeKey) (n : NodeView V) → find path_cmp p es ≡ Some k → node k ≡ Some n → (j : ℕ) × (slice_get es j ≡ Some (p, k)) × IsNodeAt count es j p n
    node_there p k n h is =
        let x = node_found p k h in
        (x.0, x.2, subst (IsNodeAt count es x.0 p) (same_some x.1 n (sym x.3 ∙ is)) x.4)

  -- ---- a change at one path

  module _ (es fs : List (Path × NodeKey)) (node later : NodeKey → Option (NodeView V)) (p : Path) (k : Option NodeKey) (v : Option V) (had : HasNodes es node) (has : HasNodes fs later)
      (found : (q : Path) → find path_cmp q fs ≡ cond (eq_by_cmp path_cmp q p) k (find path_cmp q es)) where
    pub keys-changed : from_entries path_cmp fs ≡ set_at (from_entries path_cmp es) p k
    keys-changed = same_map path_cmp_total path_cmp_exact _ _ (λ q.
        get_by_find fs q ∙ found q ∙ ap (cond (eq_by_cmp path_cmp q p) k) (sym (get_by_find es q)) ∙ sym (get-set_at path_cmp_total path_cmp_exact (from_entries path_cmp es) p k q))

    same_values : (o : Option NodeKey) → ((i : NodeKey) → o ≡ Some i → value_of (later i) ≡ value_of (node i)) → value_there later o ≡ value_there node o
    same_values None h = refl
    same_values (Some i) h = h i refl

    pub values-changed : value_there later k ≡ v → ((q : Path) (i : NodeKey) → q ≢ p → find path_cmp q es ≡ Some i → value_of (later i) ≡ value_of (node i))
        → from_entries path_cmp (values_at later fs) ≡ set_at (from_entries path_cmp (values_at node es)) p v
    values-changed there others = same_map path_cmp_total path_cmp_exact _ _ (λ q.
        get-values later fs has q
        ∙ ap (value_there later) (found q)
        ∙ (elim (tell q p) [
          | inl same ↦
              let yes : eq_by_cmp path_cmp q p ≡ true = ap (λ r. eq_by_cmp path_cmp r p) same ∙ itself p in
              ap (λ b. value_there later (cond b k (find path_cmp q es))) yes ∙ there ∙ sym (ap (λ b. cond b v (get (from_entries path_cmp (values_at node es)) q)) yes)
          | inr ne ↦
              let no : eq_by_cmp path_cmp q p ≡ false = differs q p ne in
              ap (λ b. value_there later (cond b k (find path_cmp q es))) no
              ∙ same_values (find path_cmp q es) (λ i h. others q i ne h)
              ∙ sym (get-values node es had q)
              ∙ sym (ap (λ b. cond b v (get (from_entries path_cmp (values_at node es)) q)) no)
        ])
        ∙ sym (get-set_at path_cmp_total path_cmp_exact (from_entries path_cmp (values_at node es)) p v q))

  -- ---- one node is written

  module _ (node later : NodeKey → Option (NodeView V)) (k : NodeKey) (n m : NodeView V) (at : node k ≡ Some n) (changed : later k ≡ Some m) (others : (i : NodeKey) → i ≢ k → later i ≡ node i) where
    -- the counts may change at the path of that node alone
    pub tree-write : (count counts : Path → ℕ) (es : List (Path × NodeKey)) (p : Path) → IsTree count es node → find path_cmp p es ≡ Some k → m.own ≡ n.own → m.entry ≡ n.entry → m.depth ≡ n.depth → m.parent ≡ n.parent → length m.children ≡ counts p
        → ((q : Path) → q ≢ p → counts q ≡ count q) → IsTree counts es later
    tree-write count counts es p t there owned entry depth parent children same = record {
      once = t.once;
      node_of = λ j e h.
          let x = t.node_of j e h in
          let found : find path_cmp e.0 es ≡ Some e.1 = found_at es t.once j e h in
          elim (cases_key e.1 k) [
            | inl is ↦
                let path : e.0 ≡ p = one_path count es node t e.0 p k (found ∙ ap Some is) there in
                let own : n ≡ x.0 = same_some n x.0 (sym at ∙ ap node (sym is) ∙ x.1) in (
                  m,
                  ap later is ∙ changed,
                  record {
                    own = owned ∙ ap (λ (z : NodeView V). z.own) own ∙ x.2.own;
                    entry = entry ∙ ap (λ (z : NodeView V). z.entry) own ∙ x.2.entry;
                    depth = depth ∙ ap (λ (z : NodeView V). z.depth) own ∙ x.2.depth;
                    children = children ∙ ap counts (sym path);
                    parent = λ r. x.2.parent r ∙ ap (λ (z : NodeView V). Some z.parent) (sym own) ∙ ap Some (sym parent);
                  },
                )
            | inr ne ↦
                let apart : e.0 ≢ p = λ path. ne (same_some e.1 k (sym found ∙ ap (λ q. find path_cmp q es) path ∙ there)) in (
                  x.0,
                  others e.1 ne ∙ x.1,
                  record { own = x.2.own; entry = x.2.entry; depth = x.2.depth; children = x.2.children ∙ sym (same e.0 apart); parent = x.2.parent },
                )
          ];
    }

    -- no value changes where that of this node doesn't
    pub values-write : m.value ≡ n.value → (i : NodeKey) → value_of (later i) ≡ value_of (node i)
    values-write same i = elim (cases_key i k) [
      | inl is ↦ ap (λ x. value_of (later x)) is ∙ ap value_of changed ∙ ap Some same ∙ sym (ap value_of at) ∙ sym (ap (λ x. value_of (node x)) is)
      | inr ne ↦ ap value_of (others i ne)
    ]

  -- the same counts
  pub tree-recount : (count counts : Path → ℕ) (es : List (Path × NodeKey)) (node : NodeKey → Option (NodeView V)) → IsTree count es node → ((q : Path) → counts q ≡ count q) → IsTree counts es node
  tree-recount count counts es node t same = record {
    once = t.once;
    node_of = λ j e h.
        let x = t.node_of j e h in
        (x.0, x.1, record { own = x.2.own; entry = x.2.entry; depth = x.2.depth; children = x.2.children ∙ sym (same e.0); parent = x.2.parent });
  }

  -- each node that is there is there, and says the same but for its place and its children
  pub tree-over : (count counts : Path → ℕ) (es : List (Path × NodeKey)) (node later : NodeKey → Option (NodeView V)) → IsTree count es node
      → ((p : Path) (k : NodeKey) (n : NodeView V) → find path_cmp p es ≡ Some k → node k ≡ Some n → length n.children ≡ count p
      → (m : NodeView V) × (later k ≡ Some m) × (m.own ≡ n.own) × (m.entry ≡ n.entry) × (m.depth ≡ n.depth) × (m.parent ≡ n.parent) × (length m.children ≡ counts p))
      → IsTree counts es later
  tree-over count counts es node later t over = record {
    once = t.once;
    node_of = λ j e h.
        let x = t.node_of j e h in
        let y = over e.0 e.1 x.0 (found_at es t.once j e h) x.1 x.2.children in
        (y.0, y.1, record { own = y.2 ∙ x.2.own; entry = y.3 ∙ x.2.entry; depth = y.4 ∙ x.2.depth; children = y.6; parent = λ r. x.2.parent r ∙ ap Some (sym y.5) });
  }

  -- ---- a new node

  module _ (count : Path → ℕ) (es : List (Path × NodeKey)) (node later : NodeKey → Option (NodeView V)) (p : Path) (k : NodeKey) (m : NodeView V) (t : IsTree count es node) (absent : find path_cmp p es ≡ None)
      (vacant : node k ≡ None) (changed : later k ≡ Some m) (others : (i : NodeKey) → i ≢ k → later i ≡ node i) where
    -- what was found is found, and has another key
    pub still_found : (q : Path) (i : NodeKey) → find path_cmp q es ≡ Some i → (find path_cmp q (es ++ (p, k) ∷ []) ≡ Some i) × (i ≢ k)
    still_found q i h =
        let ne : q ≢ p = λ same. some_not_none i (find path_cmp q es) h (ap (λ r. find path_cmp r es) same ∙ absent) in
        let x = node_found count es node t q i h in (
          find-push es p k absent q ∙ ap (λ b. cond b (Some k) (find path_cmp q es)) (differs q p ne) ∙ h,
          λ same. some_not_none x.1 (node i) x.3 (ap node same ∙ vacant),
        )

    pub tree-push : m.own ≡ (p, path_hash p) → m.entry ≡ length es → m.depth ≡ length p → length m.children ≡ count p → (is_root p ≡ false → find path_cmp (parent_path p) es ≡ Some m.parent) → IsTree count (es ++ (p, k) ∷ []) later
    tree-push owned entry depth children parent = record {
      once = once-push es p k absent t.once;
      node_of = λ j e h.
          elim (pushed_cases es (p, k) j e h) [
            | inl old ↦
                let x = t.node_of j e old in
                let other : e.1 ≢ k = (still_found e.0 e.1 (found_at es t.once j e old)).1 in (
                  x.0,
                  others e.1 other ∙ x.1,
                  record { own = x.2.own; entry = x.2.entry; depth = x.2.depth; children = x.2.children; parent = λ r. (still_found (parent_path e.0) x.0.parent (x.2.parent r)).0 },
                )
            | inr new ↦ (
              m,
              ap (λ (f : Path × NodeKey). later f.1) (sym new.1) ∙ changed,
              record {
                own = owned ∙ ap (λ (f : Path × NodeKey). (f.0, path_hash f.0)) new.1;
                entry = entry ∙ sym new.0;
                depth = depth ∙ ap (λ (f : Path × NodeKey). length f.0) new.1;
                children = children ∙ ap (λ (f : Path × NodeKey). count f.0) new.1;
                parent = λ r.
                    ap (λ (f : Path × NodeKey). find path_cmp (parent_path f.0) (es ++ (p, k) ∷ [])) (sym new.1)
                    ∙ (still_found (parent_path p) m.parent (parent (ap (λ (f : Path × NodeKey). is_root f.0) new.1 ∙ r))).0;
              },
            )
          ];
    }

  -- ---- a node goes, and another entry gets its entry's number

  module _ (count : Path → ℕ) (es fs : List (Path × NodeKey)) (i : ℕ) (node mid later : NodeKey → Option (NodeView V)) (p : Path) (k : NodeKey) (t : IsTree count es node)
      (at : slice_get es i ≡ Some (p, k)) (loses : LosesAt es fs i) (others : (x : NodeKey) → x ≢ k → mid x ≡ node x) where
    -- an entry that is left has another key
    pub left_key : (j : ℕ) (e : Path × NodeKey) → slice_get es j ≡ Some e → j ≢ i → e.1 ≢ k
    left_key j e h apart same =
        let x = t.node_of j e h in
        let y = t.node_of i (p, k) at in
        let own : x.0 ≡ y.0 = same_some x.0 y.0 (sym x.1 ∙ ap node same ∙ y.1) in
        apart (sym x.2.entry ∙ ap (λ (n : NodeView V). n.entry) own ∙ y.2.entry)

    -- no node lies right below the path that goes
    pub leaf_there : ((q : Path) → is_parent p q ≡ true → find path_cmp q es ≡ None) → (j : ℕ) (e : Path × NodeKey) → slice_get es j ≡ Some e → is_root e.0 ≡ false → parent_path e.0 ≢ p
    leaf_there leaf j e h r same =
        some_not_none e.1 (find path_cmp e.0 es) (found_at es t.once j e h) (leaf e.0 (ap (λ q. is_parent q e.0) (sym same) ∙ below_parent e.0 r))

    pub tree-lose : ((q : Path) → is_parent p q ≡ true → find path_cmp q es ≡ None)
        → ((e : Path × NodeKey) (n : NodeView V) → slice_get fs i ≡ Some e → mid e.1 ≡ Some n → (m : NodeView V) × (later e.1 ≡ Some m) × (m.own ≡ n.own) × (m.entry ≡ i) × (m.depth ≡ n.depth) × (m.children ≡ n.children) × (m.parent ≡ n.parent))
        → ((j : ℕ) (e : Path × NodeKey) → slice_get fs j ≡ Some e → j ≢ i → later e.1 ≡ mid e.1)
        → IsTree count fs later
    tree-lose leaf moved kept = record {
      once = once-lose es fs i p k loses at t.once;
      node_of = λ j e h.
          let gives : (d : ℕ) → slice_get es d ≡ Some e → (n : NodeView V) → IsNodeAt count es d e.0 n → is_root e.0 ≡ false → find path_cmp (parent_path e.0) fs ≡ Some n.parent =
          λ d was n is r.
          find-lose es fs i p k loses at t.once (parent_path e.0)
          ∙ ap (λ b. cond b None (find path_cmp (parent_path e.0) es)) (differs (parent_path e.0) p (leaf_there leaf d e was r))
          ∙ is.parent r in
          elim (left_cases es fs i loses j e h) [
            | inl a ↦
                let x = t.node_of (length fs) e a.2 in
                let ne : length fs ≢ i = λ same. let low = a.1 in absurd (omega arith) in
                let was : mid e.1 ≡ Some x.0 = others e.1 (left_key (length fs) e a.2 ne) ∙ x.1 in
                let now = moved e x.0 (ap (slice_get fs) (sym a.0) ∙ h) was in (
                  now.0,
                  now.1,
                  record {
                    own = now.2 ∙ x.2.own;
                    entry = now.3 ∙ sym a.0;
                    depth = now.4 ∙ x.2.depth;
                    children = ap length now.5 ∙ x.2.children;
                    parent = λ r. gives (length fs) a.2 x.0 x.2 r ∙ ap Some (sym now.6);
                  },
                )
            | inr a ↦
                let x = t.node_of j e a.2 in (
                  x.0,
                  kept j e h a.0 ∙ others e.1 (left_key j e a.2 a.0) ∙ x.1,
                  record { own = x.2.own; entry = x.2.entry; depth = x.2.depth; children = x.2.children; parent = gives j a.2 x.0 x.2 },
                )
          ];
    }
