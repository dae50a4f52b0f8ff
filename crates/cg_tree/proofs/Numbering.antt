-- Processes by the numbers of nodes, as nodes come and go and processes move.
use Rattle.std.proofs.Common.{◌≡◌, ◌≢◌, ◌==◌, ◌↔◌, ◌<◌, ◌≤◌, ℕ, Bool, true, false, not, cond, List, [], ◌∷◌, map, Option, Some, None, option_map, IsSome, is_some, refl, sym, ap, subst, ◌∙◌, inl, inr, Ordering, arith}
use Rattle.std.specs.Bool.{IsTrue}
use Rattle.std.specs.Ordering.{nat_cmp, eq_by_cmp}
use Rattle.std.specs.Cmp.{IsTotalOrder, nat_cmp_total}
use Rattle.std.specs.FinMap.{IsAntisymmetric, nat_cmp-IsAntisymmetric}
use Rattle.std.proofs.lemmas.Bool.{false≢true, eqb-true, eq-eqb}
use Rattle.std.proofs.lemmas.Option.{none-some, same_Some}
use Rattle.cg_maps.specs.FiniteMap.{FiniteMap, get, set_at, retain, keys, empty, is_nonempty}
use Rattle.cg_maps.proofs.Maps.{same_map, get-retain, get-empty, get_here, get_apart, set_same, cases, here, is_same, same_retained, some_key, none_in_keys}
use Rattle.cg_model.specs.Derived.{is_in}
use Rattle.cg_model.specs.Key.{replaced}
use Rattle.cg_name.specs.Order.{path_cmp_total, path_cmp_exact}
use Rattle.cg_name.specs.Path.{Path, path_cmp, same_path}
use Rattle.cg_path_tree.specs.declared.node.NodeKey.{NodeKey}
use Rattle.cg_path_tree.specs.Nodes.{path_of, HaveOnePath, IsKey}
use Rattle.cg_path_tree.proofs.Changing.{path_of-is}
use Rattle.cg_places.specs.Located.{is_group, pids_of}
use Rattle.cg_tree.specs.Contents.{numbered, path_numbered, places_in, AreAtNodes, HaveNumbers}
use Rattle.cg_tree.specs.Seen.{seen, seen_map}
use Rattle.cg_tree.proofs.Seeing.{get-seen, seen-set}

-- ---- parts that are seen

module _ {K X Y : Type 0} {R : K → K → Ordering} (o : IsTotalOrder R) (same : IsAntisymmetric R) where
  -- parts that are the same of all that the map holds
  pub seen_alike : (f g : X → Y) (m : FiniteMap R X) → ((k : K) (x : X) → get m k ≡ Some x → f x ≡ g x) → seen_map f m ≡ seen_map g m
  seen_alike f g m h = same_map o same _ _ (λ q. get-seen f m q ∙ by q (get m q) refl ∙ sym (get-seen g m q))
    where
      by : (q : K) (w : Option X) → get m q ≡ w → option_map f w ≡ option_map g w
      by q None e = refl
      by q (Some x) e = ap Some (h q x e)

  kept_part : (f : X → Y) (b : Bool) (w : Option X) → option_map f (cond b w None) ≡ cond b (option_map f w) None
  kept_part f true w = refl
  kept_part f false w = refl

  pub seen-retain : (f : X → Y) (m : FiniteMap R X) (t : K → Bool) → seen_map f (retain m t) ≡ retain (seen_map f m) t
  seen-retain f m t = same_map o same _ _ (λ q.
      get-seen f (retain m t) q
      ∙ ap (option_map f) (get-retain o same m t q)
      ∙ kept_part f (t q) (get m q)
      ∙ ap (λ w. cond (t q) w None) (sym (get-seen f m q))
      ∙ sym (get-retain o same (seen_map f m) t q))

same_keys : {K X Y : Type 0} (f : X → Y) (es : List (K × X)) → map (λ e. e.0) (seen f es) ≡ map (λ e. e.0) es
same_keys f [] = refl
same_keys f (e ∷ es) = ap (λ ks. e.0 ∷ ks) (same_keys f es)

pub keys-seen : {K X Y : Type 0} {R : K → K → Ordering} (f : X → Y) (m : FiniteMap R X) → keys (seen_map f m) ≡ keys m
unfolding keys seen_map
keys-seen f m = same_keys f m.list

-- ---- paths of numbers

module _ (nodes : FiniteMap path_cmp NodeKey) (one : HaveOnePath nodes) where
  pub numbered_path : (p : Path) (n : ℕ) → get nodes p ≡ Some (numbered n) → path_numbered nodes n ≡ p
  numbered_path p n h = path_of-is nodes (numbered n) p one h

  pub own_path : (n : ℕ) → IsKey nodes (numbered n) → get nodes (path_numbered nodes n) ≡ Some (numbered n)
  own_path n key = ap (get nodes) (numbered_path key.0 n key.1) ∙ key.1

-- the nodes of the processes stay where they are
module _ (old new : FiniteMap path_cmp NodeKey) (one : HaveOnePath old) (one_new : HaveOnePath new) (numbers : FiniteMap nat_cmp ℕ) (placed : AreAtNodes old numbers) (stays : (p : Path) (pid n : ℕ) → get numbers pid ≡ Some n → get old p ≡ Some (numbered n) → get new p ≡ Some (numbered n)) where
  pub places_kept : places_in new numbers ≡ places_in old numbers
  places_kept = seen_alike nat_cmp_total nat_cmp-IsAntisymmetric (path_numbered new) (path_numbered old) numbers (λ pid n h.
      let key = placed pid n h in
      numbered_path new one_new key.0 n (stays key.0 pid n h key.1) ∙ sym (numbered_path old one key.0 n key.1))

  pub still_placed : AreAtNodes new numbers
  still_placed pid n h = let key = placed pid n h in (key.0, stays key.0 pid n h key.1)

pub more_numbers : (nodes : FiniteMap path_cmp NodeKey) (most more : ℕ) → most ≤ more → HaveNumbers nodes most → HaveNumbers nodes more
more_numbers nodes most more longer low k there = let before : k.0 < most = low k there in omega (arith, before, longer)

-- a node more
module _ (old new : FiniteMap path_cmp NodeKey) (p : Path) (key : NodeKey) (absent : get old p ≡ None) (is : new ≡ set_at old p (Some key)) where
  pub made_here : get new p ≡ Some key
  made_here = ap (λ m. get m p) is ∙ get_here path_cmp_total path_cmp_exact old p (Some key)

  pub stay_with_more : (q : Path) (k : NodeKey) → get old q ≡ Some k → get new q ≡ Some k
  stay_with_more q k h = elim (cases path_cmp_total path_cmp_exact q p) [
    | inl e ↦ absurd (none-some k (sym absent ∙ ap (get old) (sym e) ∙ h))
    | inr ne ↦ ap (λ m. get m q) is ∙ get_apart path_cmp_total path_cmp_exact old p (Some key) q ne ∙ h
  ]

  pub numbers_with_more : (most more : ℕ) → HaveNumbers old most → most ≤ more → key.0 < more → HaveNumbers new more
  numbers_with_more most more low longer own k there = elim (cases path_cmp_total path_cmp_exact there.0 p) [
    | inl e ↦
        let same : key ≡ k = same_Some _ _ (sym (get_here path_cmp_total path_cmp_exact old p (Some key)) ∙ ap (λ m. get m p) (sym is) ∙ ap (get new) (sym e) ∙ there.1) in
        subst (λ (x : NodeKey). x.0 < more) same own
    | inr ne ↦
        let before : k.0 < most = low k (there.0, sym (get_apart path_cmp_total path_cmp_exact old p (Some key) there.0 ne) ∙ ap (λ m. get m there.0) (sym is) ∙ there.1) in
        omega (arith, before, longer)
  ]

-- a node less, where no process is
module _ (old new : FiniteMap path_cmp NodeKey) (one : HaveOnePath old) (p : Path) (is : new ≡ set_at old p None) where
  pub stay_with_less : (numbers : FiniteMap nat_cmp ℕ) → ((pid : ℕ) → get (places_in old numbers) pid ≢ Some p) → (q : Path) (pid n : ℕ) → get numbers pid ≡ Some n → get old q ≡ Some (numbered n) → get new q ≡ Some (numbered n)
  stay_with_less numbers free q pid n at h = elim (cases path_cmp_total path_cmp_exact q p) [
    | inl e ↦ absurd (free pid (get-seen (path_numbered old) numbers pid ∙ ap (option_map (path_numbered old)) at ∙ ap Some (numbered_path old one q n h ∙ e)))
    | inr ne ↦ ap (λ m. get m q) is ∙ get_apart path_cmp_total path_cmp_exact old p None q ne ∙ h
  ]

  pub numbers_with_less : (most : ℕ) → HaveNumbers old most → HaveNumbers new most
  numbers_with_less most low k there = elim (cases path_cmp_total path_cmp_exact there.0 p) [
    | inl e ↦ absurd (none-some k (sym (get_here path_cmp_total path_cmp_exact old p None) ∙ ap (λ m. get m p) (sym is) ∙ ap (get new) (sym e) ∙ there.1))
    | inr ne ↦ low k (there.0, sym (get_apart path_cmp_total path_cmp_exact old p None there.0 ne) ∙ ap (λ m. get m there.0) (sym is) ∙ there.1)
  ]

-- ---- where a process is

module _ (nodes : FiniteMap path_cmp NodeKey) (numbers : FiniteMap nat_cmp ℕ) (pid n : ℕ) (key : NodeKey) (same : key.0 ≡ n) (is : Some n ≡ get numbers pid) where
  pub is_there : get (places_in nodes numbers) pid ≡ Some (path_of nodes key)
  is_there = get-seen (path_numbered nodes) numbers pid ∙ ap (option_map (path_numbered nodes)) (sym is) ∙ ap (λ m. Some (path_numbered nodes m)) (sym same)

  pub has_node : AreAtNodes nodes numbers → IsKey nodes key
  has_node placed = subst (λ m. IsKey nodes (numbered m)) (sym same) (placed pid n (sym is))

-- ---- a process is put somewhere

module _ (nodes : FiniteMap path_cmp NodeKey) (one : HaveOnePath nodes) (numbers : FiniteMap nat_cmp ℕ) (placed : AreAtNodes nodes numbers) (p : Path) (key : NodeKey) (own : get nodes p ≡ Some key) where
  pub put_in : (new : FiniteMap nat_cmp ℕ) (pid : ℕ) → new ≡ set_at numbers pid (Some key.0) → places_in nodes new ≡ set_at (places_in nodes numbers) pid (Some p)
  put_in new pid is =
      ap (places_in nodes) is
      ∙ seen-set (path_numbered nodes) nat_cmp_total nat_cmp-IsAntisymmetric numbers pid (Some key.0)
      ∙ ap (λ q. set_at (places_in nodes numbers) pid (Some q)) (numbered_path nodes one p key.0 own)

  pub placed_in : (new : FiniteMap nat_cmp ℕ) (pid : ℕ) → new ≡ set_at numbers pid (Some key.0) → AreAtNodes nodes new
  placed_in new pid is other n h = elim (cases nat_cmp_total nat_cmp-IsAntisymmetric other pid) [
    | inl e ↦
        let same : key.0 ≡ n = same_Some _ _ (sym (get_here nat_cmp_total nat_cmp-IsAntisymmetric numbers pid (Some key.0)) ∙ ap (λ m. get m pid) (sym is) ∙ ap (get new) (sym e) ∙ h) in
        (p, own ∙ ap (λ k. Some (numbered k)) same)
    | inr ne ↦ placed other n (sym (get_apart nat_cmp_total nat_cmp-IsAntisymmetric numbers pid (Some key.0) other ne) ∙ ap (λ m. get m other) (sym is) ∙ h)
  ]

  -- if it is there
  module _ (new : FiniteMap nat_cmp ℕ) (pid : ℕ) (absent : get numbers pid ≡ None → new ≡ numbers) (there : IsSome (get numbers pid) → new ≡ set_at numbers pid (Some key.0)) where
    pub moved : places_in nodes new ≡ set_at (places_in nodes numbers) pid (replaced (get (places_in nodes numbers) pid) (Some p))
    moved = by (get numbers pid) refl
      where
        by : (w : Option ℕ) → get numbers pid ≡ w → places_in nodes new ≡ set_at (places_in nodes numbers) pid (replaced (get (places_in nodes numbers) pid) (Some p))
        by None e =
            let none : get (places_in nodes numbers) pid ≡ None = get-seen (path_numbered nodes) numbers pid ∙ ap (option_map (path_numbered nodes)) e in
            ap (places_in nodes) (absent e)
            ∙ sym (set_same nat_cmp_total nat_cmp-IsAntisymmetric (places_in nodes numbers) pid)
            ∙ ap (set_at (places_in nodes numbers) pid) (none ∙ sym (ap (λ w. replaced w (Some p)) none))
        by (Some n) e =
            let some : get (places_in nodes numbers) pid ≡ Some (path_numbered nodes n) = get-seen (path_numbered nodes) numbers pid ∙ ap (option_map (path_numbered nodes)) e in
            put_in new pid (there (ap is_some e)) ∙ ap (set_at (places_in nodes numbers) pid) (sym (ap (λ w. replaced w (Some p)) some))

    pub placed_moved : AreAtNodes nodes new
    placed_moved = by (get numbers pid) refl
      where
        by : (w : Option ℕ) → get numbers pid ≡ w → AreAtNodes nodes new
        by None e = subst (AreAtNodes nodes) (sym (absent e)) placed
        by (Some n) e = placed_in new pid (there (ap is_some e))

-- ---- who is in the group at a path

no_keys : keys (empty {X = Path} {R = nat_cmp}) ≡ []
unfolding keys empty
no_keys = refl

same_bool : (a b : Bool) → (a ≡ true → b ≡ true) → (b ≡ true → a ≡ true) → a ≡ b
same_bool true b f g = sym (f refl)
same_bool false true f g = g refl
same_bool false false f g = refl

pub same_path_is : (p q : Path) → same_path p q ≡ true → p ≡ q
unfolding same_path
same_path_is p q h = is_same path_cmp_total path_cmp_exact p q h

pub path_itself : (p q : Path) → p ≡ q → same_path p q ≡ true
unfolding same_path
path_itself p q e = ap (eq_by_cmp path_cmp p) (sym e) ∙ here path_cmp_total path_cmp_exact p

module _ (nodes : FiniteMap path_cmp NodeKey) (one : HaveOnePath nodes) (numbers : FiniteMap nat_cmp ℕ) (placed : AreAtNodes nodes numbers) where
  module _ (p : Path) (key : NodeKey) (own : get nodes p ≡ Some key) where
    same_number : (n : ℕ) → IsKey nodes (numbered n) → same_path p (path_numbered nodes n) ≡ (key.0 == n)
    same_number n there = same_bool _ _
        (λ same.
        let found : Some key ≡ Some (numbered n) = sym own ∙ ap (get nodes) (same_path_is p _ same) ∙ own_path nodes one n there in
        eq-eqb key.0 n (ap (λ (k : NodeKey). k.0) (same_Some _ _ found)))
        (λ same. path_itself p _ (sym (numbered_path nodes one p n (own ∙ ap (λ k. Some (numbered k)) (eqb-true key.0 n same)))))

    pub in_by_number : (pid : ℕ) → is_in p (get (places_in nodes numbers) pid) ≡ is_group key.0 (get numbers pid)
    in_by_number pid = ap (is_in p) (get-seen (path_numbered nodes) numbers pid) ∙ by (get numbers pid) refl
      where
        by : (w : Option ℕ) → get numbers pid ≡ w → is_in p (option_map (path_numbered nodes) w) ≡ is_group key.0 w
        by None e = refl
        by (Some n) e = same_number n (placed pid n e)

    pub theirs : pids_of numbers key.0 ≡ keys (retain (places_in nodes numbers) (λ k. is_in p (get (places_in nodes numbers) k)))
    theirs =
        sym (keys-seen (path_numbered nodes) (retain numbers (λ pid. is_group key.0 (get numbers pid))))
        ∙ ap keys
        (seen-retain nat_cmp_total nat_cmp-IsAntisymmetric (path_numbered nodes) numbers (λ pid. is_group key.0 (get numbers pid))
        ∙ same_retained nat_cmp_total nat_cmp-IsAntisymmetric (places_in nodes numbers) (places_in nodes numbers) (λ pid. is_group key.0 (get numbers pid)) (λ k. is_in p (get (places_in nodes numbers) k)) (λ q.
        ap (λ b. cond b (get (places_in nodes numbers) q) None) (sym (in_by_number q))))

  -- no node
  module _ (p : Path) (none : get nodes p ≡ None) where
    pub in_none : (pid : ℕ) → is_in p (get (places_in nodes numbers) pid) ≡ false
    in_none pid = ap (is_in p) (get-seen (path_numbered nodes) numbers pid) ∙ by (get numbers pid) refl
      where
        by : (w : Option ℕ) → get numbers pid ≡ w → is_in p (option_map (path_numbered nodes) w) ≡ false
        by None e = refl
        by (Some n) e = same_bool _ false (λ same. absurd (none-some _ (sym none ∙ ap (get nodes) (same_path_is p _ same) ∙ own_path nodes one n (placed pid n e)))) (λ h. absurd (false≢true h))

    pub nobody_there : keys (retain (places_in nodes numbers) (λ k. is_in p (get (places_in nodes numbers) k))) ≡ []
    nobody_there = ap keys (same_map nat_cmp_total nat_cmp-IsAntisymmetric _ empty (λ q.
        get-retain nat_cmp_total nat_cmp-IsAntisymmetric (places_in nodes numbers) _ q
        ∙ ap (λ b. cond b (get (places_in nodes numbers) q) None) (in_none q)
        ∙ sym (get-empty nat_cmp q))) ∙ no_keys

-- whether some number is the group's
pub some_in : (numbers : FiniteMap nat_cmp ℕ) (g : ℕ) (free : Bool) → (IsTrue free ↔ ((pid : ℕ) → get numbers pid ≢ Some g)) → not free ≡ is_nonempty (pids_of numbers g)
some_in numbers g free is = by free refl (is_nonempty (pids_of numbers g)) refl
  where
    kept : (pid : ℕ) → get (retain numbers (λ k. is_group g (get numbers k))) pid ≡ cond (is_group g (get numbers pid)) (get numbers pid) None
    kept pid = get-retain nat_cmp_total nat_cmp-IsAntisymmetric numbers (λ k. is_group g (get numbers k)) pid

    own : (v : ℕ) (w : Option ℕ) → cond (is_group g w) w None ≡ Some v → w ≡ Some g
    own v None e = absurd (none-some v e)
    own v (Some h) e = elim (g == h) as (λ b. (g == h) ≡ b → cond b (Some h) None ≡ Some v → Some h ≡ Some g) [
      | true ↦ λ same f. ap Some (sym (eqb-true g h same))
      | false ↦ λ same f. absurd (none-some v f)
    ] refl e

    by : (f : Bool) → free ≡ f → (b : Bool) → is_nonempty (pids_of numbers g) ≡ b → not free ≡ b
    by true e true h =
        let x = some_key nat_cmp_total (retain numbers (λ k. is_group g (get numbers k))) h in
        absurd (is.0 e x.0 (own x.1 (get numbers x.0) (sym (kept x.0) ∙ x.2)))
    by true e false h = ap not e
    by false e true h = ap not e
    by false e false h =
        absurd (false≢true (sym e ∙ is.1 (λ pid there.
        none-some g (sym (none_in_keys (retain numbers (λ k. is_group g (get numbers k))) pid h) ∙ kept pid ∙ ap (λ w. cond (is_group g w) w None) there ∙ ap (λ b. cond b (Some g) None) (eq-eqb g g refl)))))
