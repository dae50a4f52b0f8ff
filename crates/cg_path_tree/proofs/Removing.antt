-- What a tree is seen as when a node is taken out.
use Rattle.std.proofs.Common.{◌≡◌, ◌≢◌, ℕ, suc, ◌+◌, ◌<◌, Bool, true, false, cond, List, [], ◌∷◌, length, get_or, Option, None, Some, IsSome, is_some, option_map, refl, sym, ap, subst, ◌∙◌, arith, true≢false, add-zero, inl, inr}
use Rattle.std.specs.List.{slice_get, count_by, swap_remove}
use Rattle.std.specs.Ordering.{eq_by_cmp}
use Rattle.std.specs.FinMap.Entries.{find}
use Rattle.std.proofs.lemmas.List.Sums.{sum_by-swap_remove}
use Rattle.std.proofs.lemmas.Option.{slice_get_within, get_or_from_slice_get}
use Rattle.slab.specs.Slab as slab
use Rattle.cg_maps.specs.FiniteMap.{from_entries, get, set_at}
use Rattle.cg_name.specs.Path.{Path, path_cmp, is_root, is_parent}
use Rattle.cg_path_tree.specs.declared.node.Node.{Node}
use Rattle.cg_path_tree.specs.declared.node.NodeKey.{NodeKey}
use Rattle.cg_path_tree.specs.Nodes.{Nodes, parent_path, IsLeaf}
use Rattle.cg_path_tree.specs.Linked.{NodeView, Kin, children_in, node_in, kin_of, kin_in, value_of, values_at, Writes, TakesChild, AreKin, IsTree, IsLinked, seen}
use Rattle.cg_path_tree.proofs.ListChanges.{same_some, some_not_none, LosesAt, loses-swap_remove}
use Rattle.cg_path_tree.proofs.Finding.{found_at, find-lose, once-lose, before, differs}
use Rattle.cg_path_tree.proofs.Parents.{count_none, no_child, root_no_child, below_parent, length-parent}
use Rattle.cg_path_tree.proofs.Linking.{cases_key, has_nodes, node_found, one_path, one_entry, left_key, tree-lose, tree-over, tree-recount, values-write, keys-changed, values-changed}
use Rattle.cg_path_tree.proofs.Views.{unmap}
use Rattle.cg_path_tree.proofs.Kinship.{left_there, left_is_other, left_is_below, kin-root_gone, kin-gone}
use Rattle.cg_path_tree.proofs.Adding.{no_names}
use Rattle.cg_path_tree.proofs.Seen.{found_is, node_at, depth_at, root_by_depth, deep_by_depth}

module _ {V : Type 0} (es : List (Path × NodeKey)) (nodes : slab.Slab (Node V)) (l : IsLinked es nodes) (g : Nodes V) (is : seen es nodes ≡ g) (p : Path) (k : NodeKey) (n : NodeView V) (h : get g.keys p ≡ Some k) (at : node_in nodes k ≡ Some n) where
  -- the entry of the node
  pub its_entry : slice_get es n.entry ≡ Some (p, k)
  its_entry = let x = node_at es nodes l g is p k n h at in ap (slice_get es) x.2.entry ∙ x.1

  module _ (mid : slab.Slab (Node V)) (up : Writes nodes mid k None) where
    others : (i : NodeKey) → i ≢ k → node_in mid i ≡ node_in nodes i
    others i ne = up.others i ne

    losing : LosesAt es (swap_remove es n.entry (p, k)) n.entry
    losing = loses-swap_remove es n.entry (p, k) its_entry

    -- an entry that is left stood elsewhere before, and its node is still there
    left_before : (j : ℕ) (f : Path × NodeKey) → slice_get (swap_remove es n.entry (p, k)) j ≡ Some f → (i : ℕ) × (i ≢ n.entry) × (slice_get es i ≡ Some f)
    left_before = before es (swap_remove es n.entry (p, k)) n.entry p k losing its_entry l.tree.once

    still_node : (j : ℕ) (f : Path × NodeKey) → slice_get (swap_remove es n.entry (p, k)) j ≡ Some f → (m : NodeView V) × (node_in mid f.1 ≡ Some m)
    still_node j f left =
        let was = left_before j f left in
        let x = l.tree.node_of was.0 f was.2 in
        let apart = left_key (children_in es) es (swap_remove es n.entry (p, k)) n.entry (node_in nodes) (node_in mid) (node_in mid) p k l.tree its_entry losing others was.0 f was.2 was.1 in
        (x.0, others f.1 apart ∙ x.1)

    -- the entry that moves has a node
    pub moved_node : (f : Path × NodeKey) → slice_get (swap_remove es n.entry (p, k)) n.entry ≡ Some f → IsSome (node_in mid f.1)
    moved_node f left =
        let x = still_node n.entry f left in
        ap is_some x.1

    module _ (fs : List (Path × NodeKey)) (left : fs ≡ swap_remove es n.entry (p, k)) (leaf : IsLeaf g.keys p) (placed : slab.Slab (Node V))
        (moved : (f : Path × NodeKey) (m : NodeView V) → slice_get fs n.entry ≡ Some f → node_in mid f.1 ≡ Some m → Writes mid placed f.1 (Some (record m { entry = n.entry }))) (unmoved : slice_get fs n.entry ≡ None → placed ≡ mid) where
      losing_fs : LosesAt es fs n.entry
      losing_fs = subst (λ xs. LosesAt es xs n.entry) (sym left) losing

      still_found : (q : Path) (i : NodeKey) → q ≢ p → find path_cmp q es ≡ Some i → find path_cmp q fs ≡ Some i
      still_found q i ne found =
          find-lose es fs n.entry p k losing_fs its_entry l.tree.once q ∙ ap (λ b. cond b None (find path_cmp q es)) (differs q p ne) ∙ found

      node_left : (j : ℕ) (f : Path × NodeKey) → slice_get fs j ≡ Some f → (m : NodeView V) × (node_in mid f.1 ≡ Some m)
      node_left j f there = still_node j f (ap (λ xs. slice_get xs j) (sym left) ∙ there)

      no_leaf : (q : Path) → is_parent p q ≡ true → find path_cmp q es ≡ None
      no_leaf q below = found_is es nodes l g is q ∙ leaf q below

      left_once : (i j : ℕ) (a b : Path × NodeKey) → slice_get fs i ≡ Some a → slice_get fs j ≡ Some b → a.0 ≡ b.0 → i ≡ j
      left_once = once-lose es fs n.entry p k losing_fs its_entry l.tree.once

      one_left : (j : ℕ) (f d : Path × NodeKey) → slice_get fs j ≡ Some f → slice_get fs n.entry ≡ Some d → f.1 ≡ d.1 → j ≡ n.entry
      one_left j f d there some same =
          let a = before es fs n.entry p k losing_fs its_entry l.tree.once j f there in
          let b = before es fs n.entry p k losing_fs its_entry l.tree.once n.entry d some in
          let entry = one_entry (children_in es) es (node_in nodes) l.tree a.0 b.0 f d a.2 b.2 same in
          left_once j n.entry f d there some (ap (λ (x : Path × NodeKey). x.0) (same_some f d (sym a.2 ∙ ap (slice_get es) entry ∙ b.2)))

      kept_so : (j : ℕ) (f : Path × NodeKey) → slice_get fs j ≡ Some f → j ≢ n.entry → (o : Option (Path × NodeKey)) → slice_get fs n.entry ≡ o → node_in placed f.1 ≡ node_in mid f.1
      kept_so j f there ne None none = ap (λ s. node_in s f.1) (unmoved none)
      kept_so j f there ne (Some d) some =
          let x = node_left n.entry d some in
          let up' = moved d x.0 some x.1 in
          let apart : f.1 ≢ d.1 = λ same. ne (one_left j f d there some same) in
          up'.others f.1 apart

      lost : IsTree (children_in es) fs (node_in placed)
      lost =
          tree-lose (children_in es) es fs n.entry (node_in nodes) (node_in mid) (node_in placed) p k l.tree its_entry losing_fs others no_leaf
          (λ f m there node. let up' = moved f m there node in (record m { entry = n.entry }, up'.changed, refl, refl, refl, refl, refl))
          (λ j f there ne. kept_so j f there ne (slice_get fs n.entry) refl)

      -- no value changed but that of the node that goes
      same_value : (i : NodeKey) → i ≢ k → (o : Option (Path × NodeKey)) → slice_get fs n.entry ≡ o → value_of (node_in placed i) ≡ value_of (node_in nodes i)
      same_value i ne None none = ap (λ s. value_of (node_in s i)) (unmoved none) ∙ ap value_of (others i ne)
      same_value i ne (Some d) some =
          let x = node_left n.entry d some in
          let up' = moved d x.0 some x.1 in
          values-write (node_in mid) (node_in placed) d.1 x.0 (record x.0 { entry = n.entry }) x.1 up'.changed up'.others refl i ∙ ap value_of (others i ne)

      -- the node is gone
      gone_so : (o : Option (Path × NodeKey)) → slice_get fs n.entry ≡ o → node_in placed k ≡ None
      gone_so None none = ap (λ s. node_in s k) (unmoved none) ∙ up.changed
      gone_so (Some d) some =
          let x = node_left n.entry d some in
          let up' = moved d x.0 some x.1 in
          let apart : k ≢ d.1 = λ same. some_not_none x.0 (node_in mid k) (ap (node_in mid) same ∙ x.1) up.changed in
          up'.others k apart ∙ up.changed

      -- no list and no place changed yet
      same_kin : (i : NodeKey) → i ≢ k → (o : Option (Path × NodeKey)) → slice_get fs n.entry ≡ o → kin_in placed i ≡ kin_in nodes i
      same_kin i ne None none =
          ap (λ s. kin_in s i) (unmoved none) ∙ ap (option_map kin_of) (others i ne)
      same_kin i ne (Some d) some =
          let x = node_left n.entry d some in
          let up' = moved d x.0 some x.1 in
          elim (cases_key i d.1) [
            | inl same ↦ ap (kin_in placed) same ∙ ap (option_map kin_of) up'.changed ∙ sym (ap (option_map kin_of) x.1) ∙ ap (kin_in mid) (sym same) ∙ ap (option_map kin_of) (others i ne)
            | inr apart ↦ ap (option_map kin_of) (up'.others i apart) ∙ ap (option_map kin_of) (others i ne)
          ]

      kin_placed : (i : NodeKey) → i ≢ k → kin_in placed i ≡ kin_in nodes i
      kin_placed i ne = same_kin i ne (slice_get fs n.entry) refl

      gone : node_in placed k ≡ None
      gone = gone_so (slice_get fs n.entry) refl

      -- it has no child
      no_children : n.children ≡ []
      no_children = none n.children ((node_at es nodes l g is p k n h at).2.children ∙ count_none (λ (f : Path × NodeKey). is_parent p f.0) es (λ j f there_f. by f (found_at es l.tree.once j f there_f) (is_parent p f.0) refl))
        where
          none : (ks : List NodeKey) → length ks ≡ 0 → ks ≡ []
          none [] e = refl
          none (c ∷ ks) e = absurd (omega arith)

          by : (f : Path × NodeKey) → find path_cmp f.0 es ≡ Some f.1 → (b : Bool) → is_parent p f.0 ≡ b → b ≡ false
          by f found true below = absurd (some_not_none f.1 (find path_cmp f.0 es) found (no_leaf f.0 below))
          by f found false below = refl

      counted : (q : Path) → children_in fs q + cond (is_parent q p) 1 0 ≡ children_in es q
      counted q =
          let test : Path × NodeKey → Bool = λ f. is_parent q f.0 in
          let path : (get_or es n.entry (p, k)).0 ≡ p = ap (λ (f : Path × NodeKey). f.0) (get_or_from_slice_get es n.entry (p, k) (p, k) its_entry) in
          ap (λ xs. children_in xs q + cond (is_parent q p) 1 0) left
          ∙ ap (λ r. count_by test (swap_remove es n.entry (p, k)) + cond (is_parent q r) 1 0) (sym path)
          ∙ sum_by-swap_remove (λ f. cond (test f) 1 0) es n.entry (p, k) (slice_get_within es n.entry (p, k) its_entry)

      module _ (parent : Option NodeKey) (root : n.depth ≡ 0 → parent ≡ None) (value : n.depth ≢ 0 → parent ≡ Some n.parent) where
        not_the_root : (kp : NodeKey) → parent ≡ Some kp → is_root p ≡ false
        not_the_root kp e = deep_by_depth es nodes l g is p k n h at (λ none. some_not_none kp parent e (root none))

        parent_left : (kp : NodeKey) → parent ≡ Some kp → find path_cmp (parent_path p) fs ≡ Some kp
        parent_left kp e =
            let r = not_the_root kp e in
            let ne : parent_path p ≢ p = λ same. absurd (omega (arith, length-parent p r, ap length same)) in
            let deep : n.depth ≢ 0 = λ none. some_not_none kp parent e (root none) in
            find-lose es fs n.entry p k losing_fs its_entry l.tree.once (parent_path p)
            ∙ ap (λ b. cond b None (find path_cmp (parent_path p) es)) (differs (parent_path p) p ne)
            ∙ (node_at es nodes l g is p k n h at).2.parent r ∙ sym (value deep) ∙ e

        pub parent_node : (kp : NodeKey) → parent ≡ Some kp → IsSome (node_in placed kp)
        parent_node kp e =
            let x = node_found (children_in es) fs (node_in placed) lost (parent_path p) kp (parent_left kp e) in
            ap is_some x.3

        one_more : (kp : NodeKey) → parent ≡ Some kp → children_in fs (parent_path p) + 1 ≡ children_in es (parent_path p)
        one_more kp e = sym (ap (λ b. children_in fs (parent_path p) + cond b 1 0) (below_parent p (not_the_root kp e))) ∙ counted (parent_path p)

        module _ (kp : NodeKey) (up_is : parent ≡ Some kp) (m : NodeView V) (its : node_in placed kp ≡ Some m) where
          is_deep : n.depth ≢ 0
          is_deep none = some_not_none kp parent up_is (root none)

          its_parent : n.parent ≡ kp
          its_parent = same_some n.parent kp (sym (value is_deep) ∙ up_is)

          other : kp ≢ k
          other same = some_not_none m (node_in placed kp) its (ap (node_in placed) same ∙ gone)

          there_before : kin_in nodes kp ≡ Some (kin_of m)
          there_before = sym (kin_placed kp other) ∙ ap (option_map kin_of) its

          at_place : slice_get m.children n.place ≡ Some k
          at_place =
              let x = l.kin.listed k (kin_of n) (ap (option_map kin_of) at) is_deep in
              let same : x.0 ≡ kin_of m = same_some x.0 (kin_of m) (sym x.1 ∙ ap (kin_in nodes) its_parent ∙ there_before) in
              ap (λ (y : Kin). slice_get y.children n.place) (sym same) ∙ x.2

          pub place_within : n.place < length m.children
          place_within = slice_get_within m.children n.place k at_place

          is_left : (c : NodeKey) → slice_get m.children n.place ≡ Some c → swap_remove m.children n.place c ≡ swap_remove m.children n.place k
          is_left c has = ap (swap_remove m.children n.place) (same_some c k (sym has ∙ at_place))

          left_node : (d : NodeKey) → slice_get (swap_remove m.children n.place k) n.place ≡ Some d → (x : NodeView V) × (node_in placed d ≡ Some x)
          left_node d some =
              let kin_there = left_there es (kin_in nodes) l.kin fs (kin_in placed) p k (kin_of n) (ap (option_map kin_of) at) no_children (ap (option_map kin_of) gone) (found_is es nodes l g is p ∙ h) still_found kp (kin_of m) there_before its_parent at_place n.place d some in
              let ne = left_is_other es (kin_in nodes) l.kin fs (kin_in placed) p k (kin_of n) (ap (option_map kin_of) at) no_children (ap (option_map kin_of) gone) (found_is es nodes l g is p ∙ h) still_found kp (kin_of m) there_before its_parent at_place n.place d some in
              let x = unmap kin_of (node_in placed d) kin_there.0 (kin_placed d ne ∙ kin_there.1) in
              (x.0, x.1)

          pub moved_is_other : (d c : NodeKey) → slice_get m.children n.place ≡ Some c → slice_get (swap_remove m.children n.place c) n.place ≡ Some d → (d ≢ kp) × IsSome (node_in placed d)
          moved_is_other d c has some =
              let some' : slice_get (swap_remove m.children n.place k) n.place ≡ Some d = ap (λ ys. slice_get ys n.place) (sym (is_left c has)) ∙ some in (
                left_is_below es (kin_in nodes) l.kin fs (kin_in placed) p k (kin_of n) (ap (option_map kin_of) at) no_children (ap (option_map kin_of) gone) (found_is es nodes l g is p ∙ h) still_found kp (kin_of m) there_before its_parent at_place n.place d some',
                ap is_some (left_node d some').1,
              )

          module _ (later : slab.Slab (Node V)) (took : TakesChild placed later kp m (swap_remove m.children n.place k) n.place) where
            abbrev ys : List NodeKey
            ys = swap_remove m.children n.place k

            -- another node says the same but for its place
            same_but_place : (i : NodeKey) (x : NodeView V) → i ≢ kp → node_in placed i ≡ Some x → (j : ℕ) × (node_in later i ≡ Some (record x { place = j }))
            same_but_place i x apart has = by (slice_get ys n.place) refl
              where
                by : (o : Option NodeKey) → slice_get ys n.place ≡ o → (j : ℕ) × (node_in later i ≡ Some (record x { place = j }))
                by None none = (x.place, took.others i apart (λ some. some_not_none i (slice_get ys n.place) some none) ∙ has)
                by (Some d) some = elim (cases_key d i) [
                  | inl same ↦ (n.place, took.moved i x (some ∙ ap Some same) has)
                  | inr ne ↦ (x.place, took.others i apart (λ yes. ne (same_some d i (sym some ∙ yes))) ∙ has)
                ]

            tree_took : IsTree (children_in fs) fs (node_in later)
            tree_took = tree-over (children_in es) (children_in fs) fs (node_in placed) (node_in later) lost (λ q i x found has counts. elim (cases_key i kp) [
              | inl same ↦
                  let own : m ≡ x = same_some m x (sym its ∙ ap (node_in placed) (sym same) ∙ has) in
                  let path : q ≡ parent_path p = one_path (children_in es) fs (node_in placed) lost q (parent_path p) kp (found ∙ ap Some same) (parent_left kp up_is) in
                  let shorter = loses-swap_remove m.children n.place k at_place in
                  let less : length ys ≡ children_in fs (parent_path p) = omega (arith, shorter.len, ap (λ (y : NodeView V). length y.children) own, counts, ap (children_in es) path, one_more kp up_is) in (
                    record m { children = ys },
                    ap (node_in later) same ∙ took.listed,
                    ap (λ (y : NodeView V). y.own) own,
                    ap (λ (y : NodeView V). y.entry) own,
                    ap (λ (y : NodeView V). y.depth) own,
                    ap (λ (y : NodeView V). y.parent) own,
                    less ∙ ap (children_in fs) (sym path),
                  )
              | inr apart ↦
                  let y = same_but_place i x apart has in
                  let ne : q ≢ parent_path p = λ path. apart (same_some i kp (sym found ∙ ap (λ r. find path_cmp r fs) path ∙ parent_left kp up_is)) in (
                    record x { place = y.0 },
                    y.1,
                    refl,
                    refl,
                    refl,
                    refl,
                    counts ∙ sym (sym (add-zero (children_in fs q)) ∙ sym (ap (λ b. children_in fs q + cond b 1 0) (no_child q p ne)) ∙ counted q),
                  )
            ])

            values_took : (i : NodeKey) (x : NodeView V) → node_in placed i ≡ Some x → value_of (node_in later i) ≡ Some x.value
            values_took i x has = elim (cases_key i kp) [
              | inl same ↦ ap value_of (ap (node_in later) same ∙ took.listed) ∙ ap (λ (y : NodeView V). Some y.value) (same_some m x (sym its ∙ ap (node_in placed) (sym same) ∙ has))
              | inr apart ↦ ap value_of (same_but_place i x apart has).1
            ]

            not_moved : slice_get ys n.place ≢ Some k
            not_moved some = left_is_other es (kin_in nodes) l.kin fs (kin_in placed) p k (kin_of n) (ap (option_map kin_of) at) no_children (ap (option_map kin_of) gone) (found_is es nodes l g is p ∙ h) still_found kp (kin_of m) there_before its_parent at_place n.place k some refl

            kin_took : AreKin fs (kin_in later)
            kin_took =
                kin-gone es (kin_in nodes) l.kin fs (kin_in later) p k (kin_of n) (ap (option_map kin_of) at) no_children
                (ap (option_map kin_of) (took.others k (λ same. other (sym same)) not_moved ∙ gone)) (found_is es nodes l g is p ∙ h) still_found kp (kin_of m) there_before its_parent at_place
                (ap (option_map kin_of) took.listed)
                (λ d b ne some has.
                let x = unmap kin_of (node_in placed d) b (kin_placed d ne ∙ has) in
                ap (option_map kin_of) (took.moved d x.0 some x.1) ∙ ap (λ (y : Kin). Some (record y { place = n.place })) x.2)
                (λ i ne apart unmoved_i. ap (option_map kin_of) (took.others i apart unmoved_i) ∙ kin_placed i ne)

        module _ (later : slab.Slab (Node V)) (none : parent ≡ None → later ≡ placed)
            (some : (kp : NodeKey) (m : NodeView V) (c : NodeKey) → parent ≡ Some kp → node_in placed kp ≡ Some m → slice_get m.children n.place ≡ Some c → TakesChild placed later kp m (swap_remove m.children n.place c) n.place) where
          pub record IsRemoved : Type 0 where
            pub tree : IsTree (children_in fs) fs (node_in later)
            pub kin : AreKin fs (kin_in later)
            pub values : (i : NodeKey) (x : NodeView V) → node_in placed i ≡ Some x → value_of (node_in later i) ≡ Some x.value

          is_removed : (o : Option NodeKey) → parent ≡ o → IsRemoved
          is_removed None e =
              let r : is_root p ≡ true = at_root (is_root p) refl in
              let same : (q : Path) → children_in fs q ≡ children_in es q = λ q.
              sym (add-zero (children_in fs q)) ∙ sym (ap (λ b. children_in fs q + cond b 1 0) (root_no_child q p r)) ∙ counted q in
              record {
                tree = subst (λ s. IsTree (children_in fs) fs (node_in s)) (sym (none e)) (tree-recount (children_in es) (children_in fs) fs (node_in placed) lost same);
                kin = kin-root_gone es (kin_in nodes) l.kin fs (kin_in later) p k (kin_of n) (ap (option_map kin_of) at) no_children
                    (ap (λ s. kin_in s k) (none e) ∙ ap (option_map kin_of) gone) (found_is es nodes l g is p ∙ h) still_found
                    (λ i ne. ap (λ s. kin_in s i) (none e) ∙ kin_placed i ne) (depth_at es nodes l g is p k n h at ∙ no_names p r);
                values = λ i x has. ap (λ s. value_of (node_in s i)) (none e) ∙ ap value_of has;
              }
            where
              at_root : (b : Bool) → is_root p ≡ b → is_root p ≡ true
              at_root true r = r
              at_root false r =
                  let deep : n.depth ≢ 0 = λ zero. absurd (true≢false (sym (root_by_depth es nodes l g is p k n h at zero) ∙ r)) in
                  absurd (some_not_none n.parent parent (value deep) e)
          is_removed (Some kp) e =
              let x = node_found (children_in es) fs (node_in placed) lost (parent_path p) kp (parent_left kp e) in
              let m : NodeView V = x.1 in
              let took = some kp m k e x.3 (at_place kp e m x.3) in
              record { tree = tree_took kp e m x.3 later took; kin = kin_took kp e m x.3 later took; values = values_took kp e m x.3 later took }

          removed : IsRemoved
          removed = is_removed parent refl

          still_few : length fs < 4294967296
          still_few =
              let shorter : length es ≡ suc (length fs) = subst (λ xs. length es ≡ suc (length xs)) (sym left) losing.len in
              let few : length es < 4294967296 = l.few in
              omega arith

          pub linked-removed : IsLinked fs later
          linked-removed = record { tree = removed.tree; kin = removed.kin; few = still_few }

          found : (q : Path) → find path_cmp q fs ≡ cond (eq_by_cmp path_cmp q p) None (find path_cmp q es)
          found = find-lose es fs n.entry p k losing_fs its_entry l.tree.once

          pub keys-removed : from_entries path_cmp fs ≡ set_at g.keys p None
          keys-removed =
              keys-changed es fs (node_in nodes) (node_in later) p None None (has_nodes es (node_in nodes) (children_in es) l.tree)
              (has_nodes fs (node_in later) (children_in fs) removed.tree) found
              ∙ ap (λ v. set_at v.keys p None) is

          pub values-removed : from_entries path_cmp (values_at (node_in later) fs) ≡ set_at g.values p None
          values-removed =
              values-changed es fs (node_in nodes) (node_in later) p None None (has_nodes es (node_in nodes) (children_in es) l.tree)
              (has_nodes fs (node_in later) (children_in fs) removed.tree) found refl
              (λ q i ne there_q.
              let apart : i ≢ k = λ same. ne (one_path (children_in es) es (node_in nodes) l.tree q p k (there_q ∙ ap Some same) (found_is es nodes l g is p ∙ h)) in
              let x = node_found (children_in es) es (node_in nodes) l.tree q i there_q in
              let now = unmap kin_of (node_in placed i) (kin_of x.1) (kin_placed i apart ∙ ap (option_map kin_of) x.3) in
              removed.values i now.0 now.1 ∙ sym (ap value_of now.1) ∙ same_value i apart (slice_get fs n.entry) refl)
              ∙ ap (λ v. set_at v.values p None) is
