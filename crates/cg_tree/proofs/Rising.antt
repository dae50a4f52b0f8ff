-- The way from a node up to the root.
use Rattle.std.proofs.Common.{◌≡◌, ◌≢◌, ℕ, zero, suc, ◌-◌, ◌<◌, ◌≤◌, nat_le, true, false, not, cond, List, [], ◌∷◌, length, take, Option, Some, None, option_map, is_some, ◌⊎◌, inl, inr, refl, sym, ap, subst, ◌∙◌, arith, true≢false, length-take}
use Rattle.std.proofs.lemmas.Bool.Decides.{nat_tests}
use Rattle.std.proofs.lemmas.Option.{none-some, same_Some}
use Rattle.std.specs.Option.{option_flatten}
use Rattle.cg_maps.specs.FiniteMap.{FiniteMap, domain, get, len, retain}
use Rattle.cg_model.specs.Derived.{descendants}
use Rattle.cg_model.specs.Tree.{Tree, group}
use Rattle.cg_name.specs.Order.{path_cmp_total, path_cmp_exact}
use Rattle.cg_name.specs.Path.{Path, path_cmp, is_above, is_root}
use Rattle.cg_path_tree.specs.declared.node.NodeKey.{NodeKey}
use Rattle.cg_path_tree.specs.Nodes.{Nodes, parent_path, AreClosed, HaveOnePath, IsKey}
use Rattle.cg_path_tree.proofs.Prefixes.{none_below}
use Rattle.cg_text.specs.declared.settings.Settings.{Settings}
use Rattle.cg_tree.specs.declared.entry.Entry.{Entry}
use Rattle.cg_tree.specs.Ancestors.{ancestor_at, ancestor_in, downward}
use Rattle.cg_tree.specs.Entries.{group_count, groups_in, path_at, settings_of, AreCounted}
use Rattle.cg_tree.specs.Present.{present}
use Rattle.cg_tree.specs.Upward.{going_up, told, told_from, told_on, IsBelow, IsDeepest, IsDeepestAt}
use Rattle.cg_tree.proofs.Climbing.{at_path, at_own_path}
use Rattle.cg_tree.proofs.Counts.{len-domain-retain}
use Rattle.cg_tree.proofs.Downward.{downward-same}
use Rattle.cg_tree.proofs.Presence.{get-present}
use Rattle.cg_tree.proofs.Putting.{none_counted_below}
use Rattle.cg_tree.proofs.Seeing.{get-seen}

take_less : {A : Type 0} (d e : ℕ) (xs : List A) → d ≤ e → take d (take e xs) ≡ take d xs
take_less zero e xs h = refl
take_less (suc d) zero xs h = absurd (omega (arith, h))
take_less (suc d) (suc e) [] h = refl
take_less (suc d) (suc e) (x ∷ xs) h = ap (λ ys. x ∷ ys) (take_less d e xs (omega (arith, h)))

take_own : {A : Type 0} (xs : List A) → take (length xs) xs ≡ xs
take_own [] = refl
take_own (x ∷ xs) = ap (λ ys. x ∷ ys) (take_own xs)

nothing_there : {A : Type 0} (w : Option A) → is_some w ≡ false → w ≡ None
nothing_there None e = refl
nothing_there (Some x) e = absurd (true≢false e)

-- ---- what is told of one number of names

module _ (values : FiniteMap path_cmp Entry) (q : Path) (d : ℕ) where
  told_within : d ≤ length q → told_on values q d ≡ told d (get values (take d q))
  told_within h = let b : nat_le d (length q) ≡ true = grind (arith, nat_tests, h) in ap (λ t. told d (cond t (get values (take d q)) None)) b

  told_beyond : length q < d → told_on values q d ≡ told d None
  told_beyond h = let b : nat_le d (length q) ≡ false = grind (arith, nat_tests, h) in ap (λ t. told d (cond t (get values (take d q)) None)) b

within_or_beyond : (d n : ℕ) → (d ≤ n) ⊎ (n < d)
within_or_beyond zero n = inl (omega arith)
within_or_beyond (suc d) zero = inr (omega arith)
within_or_beyond (suc d) (suc n) = elim (within_or_beyond d n) [ inl h ↦ inl (omega (arith, h)) | inr h ↦ inr (omega (arith, h)) ]

-- ---- one step

-- where no node has so many names
pub none_here : (nodes : Nodes Entry) (at : Option NodeKey) (d : ℕ) → IsBelow nodes at d → told_from nodes at d ≡ told d None
none_here nodes None d h = refl
none_here nodes (Some k) d h = told_beyond nodes.values (path_at nodes k) d (h k refl).1

pub still_below : (nodes : Nodes Entry) (at : Option NodeKey) (d left : ℕ) → left ≡ suc d → IsBelow nodes at left → ((k : NodeKey) → at ≡ Some k → length (path_at nodes k) ≢ d) → IsBelow nodes at d
still_below nodes at d left e h ne k is =
    let own = h k is in
    (own.0, below (length (path_at nodes k)) d (ne k is) (omega (arith, own.1, e)))
  where
    below : (n d : ℕ) → n ≢ d → n < suc d → n < d
    below zero zero ne h = absurd (ne refl)
    below zero (suc d) ne h = omega arith
    below (suc n) zero ne h = absurd (omega (arith, h))
    below (suc n) (suc d) ne h = let less : n < d = below n d (λ e. ne (ap suc e)) (omega (arith, h)) in omega (arith, less)

-- the node of that key has not so many names
pub not_so_deep : (nodes : Nodes Entry) (one : HaveOnePath nodes.keys) (at : Option NodeKey) (k : NodeKey) (n d : ℕ) → at ≡ Some k → IsKey nodes.keys k → ((q : Path) → get nodes.keys q ≡ Some k → n ≡ length q) → n ≢ d
    → (l : NodeKey) → at ≡ Some l → length (path_at nodes l) ≢ d
not_so_deep nodes one at k n d is key long ne l also e =
    let same : k ≡ l = same_Some k l (sym is ∙ also) in
    ne (long (path_at nodes k) (at_own_path nodes k one key) ∙ ap (λ x. length (path_at nodes x)) same ∙ e)

pub no_node : (nodes : Nodes Entry) (at : Option NodeKey) (d : ℕ) → at ≡ None → (l : NodeKey) → at ≡ Some l → length (path_at nodes l) ≢ d
no_node nodes at d none l is e = absurd (none-some l (sym none ∙ is))

-- from a node to its parent
module _ (nodes : Nodes Entry) (one : HaveOnePath nodes.keys) (k : NodeKey) (key : IsKey nodes.keys k) (w : Option NodeKey)
    (root : (q : Path) → get nodes.keys q ≡ Some k → is_some w ≡ not (is_root q)) (value : (q : Path) → get nodes.keys q ≡ Some k → is_root q ≡ false → w ≡ get nodes.keys (parent_path q)) where
  abbrev own : Path
  own = path_at nodes k

  pub there : get nodes.keys own ≡ Some k
  there = at_own_path nodes k one key

  top : w ≡ None → own ≡ []
  top e = at own (sym (ap is_some e) ∙ root own there)
    where
      at : (q : Path) → false ≡ not (is_root q) → q ≡ []
      at [] h = refl
      at (n ∷ q) h = absurd (true≢false (sym h))

  deep : (up : NodeKey) → w ≡ Some up → is_root own ≡ false
  deep up e = at own (sym (ap is_some e) ∙ root own there)
    where
      at : (q : Path) → true ≡ not (is_root q) → is_root q ≡ false
      at [] h = absurd (true≢false h)
      at (n ∷ q) h = refl

  longer : (q : Path) → is_root q ≡ false → suc (length q - 1) ≡ length q
  longer [] h = absurd (true≢false h)
  longer (n ∷ q) h = omega arith

  parent_found : (up : NodeKey) → w ≡ Some up → get nodes.keys (parent_path own) ≡ Some up
  parent_found up e = sym (value own there (deep up e)) ∙ e

  parent_at : (up : NodeKey) → w ≡ Some up → path_at nodes up ≡ parent_path own
  parent_at up e = at_path nodes up (parent_path own) one (parent_found up e)

  parent_length : (up : NodeKey) → w ≡ Some up → suc (length (path_at nodes up)) ≡ length own
  parent_length up e =
      let long = longer own (deep up e) in
      omega (arith, ap length (parent_at up e), length-take (length own - 1) own, long)

  pub parent_below : (d : ℕ) → length own ≡ d → IsBelow nodes w d
  parent_below d h up e = ((parent_path own, parent_found up e), (let p = parent_length up e in omega (arith, p, h)))

  pub own_told : (e : Entry) (d : ℕ) → length own ≡ d → get nodes.values own ≡ Some e → told_from nodes (Some k) d ≡ told d (Some e)
  own_told e d h is =
      told_within nodes.values own d (omega (arith, h))
      ∙ ap (λ q. told d (get nodes.values q)) (ap (λ n. take n own) (sym h) ∙ take_own own)
      ∙ ap (told d) is

  pub rest_told : (d : ℕ) → length own ≡ d → downward (told_from nodes (Some k)) d ≡ downward (told_from nodes w) d
  rest_told d h = at w refl
    where
      at : (v : Option NodeKey) → w ≡ v → downward (told_from nodes (Some k)) d ≡ downward (told_from nodes v) d
      at None e = downward-same _ _ d (λ n l. absurd (omega (arith, l, h, ap length (top e))))
      at (Some up) e = downward-same _ _ d (λ n l.
          let p = parent_length up e in
          told_within nodes.values own n (omega (arith, l, h))
          ∙ ap (λ q. told n (get nodes.values q)) (sym (ap (take n) (parent_at up e) ∙ take_less n (length own - 1) own (omega (arith, l, h))))
          ∙ sym (told_within nodes.values (path_at nodes up) n (omega (arith, l, h, p))))

-- ---- the whole way

module _ (nodes : Nodes Entry) (one : HaveOnePath nodes.keys) (p : Path) (n : ℕ) (short : n ≤ suc (length p)) where
  depth_is : (k : NodeKey) (h : IsDeepestAt nodes p n k) → length (path_at nodes k) ≡ h.depth
  depth_is k h = ap length (at_path nodes k (take h.depth p) one h.found) ∙ (let low = h.below in omega (arith, length-take h.depth p, low, short))

  pub starts_below : (at : Option NodeKey) → IsDeepest nodes p n at → IsBelow nodes at n
  starts_below at h k is =
      let d = h.some k is in
      ((take d.depth p, d.found), (let e = depth_is k d in let low = d.below in omega (arith, e, low)))

  module _ (both : (q : Path) → is_some (get nodes.values q) ≡ is_some (get nodes.keys q)) where
    no_entry : (q : Path) → get nodes.keys q ≡ None → get nodes.values q ≡ None
    no_entry q e = nothing_there (get nodes.values q) (both q ∙ ap is_some e)

    pub whole_way : (at : Option NodeKey) → IsDeepest nodes p n at → going_up nodes at n ≡ downward (λ d. told d (get nodes.values (take d p))) n
    whole_way None h = downward-same _ _ n (λ d l. ap (told d) (sym (no_entry (take d p) (h.none refl d l))))
    whole_way (Some k) h =
        let deepest = h.some k refl in
        let place = at_path nodes k (take deepest.depth p) one deepest.found in
        let long = depth_is k deepest in
        downward-same _ _ n (λ d l. elim (within_or_beyond d deepest.depth) [
          | inl low ↦
              told_within nodes.values (path_at nodes k) d (omega (arith, low, long))
              ∙ ap (λ q. told d (get nodes.values q)) (ap (take d) place ∙ take_less d deepest.depth p low)
          | inr high ↦
              told_beyond nodes.values (path_at nodes k) d (omega (arith, high, long))
              ∙ ap (told d) (sym (no_entry (take d p) (deepest.others d high l)))
        ])

-- ---- where it starts

pub deepest_there : (nodes : Nodes Entry) (p : Path) (n : ℕ) (k : NodeKey) → IsDeepestAt nodes p n k → IsDeepest nodes p n (Some k)
deepest_there nodes p n k h = record {
  some = λ l e. subst (IsDeepestAt nodes p n) (same_Some k l e) h;
  none = λ e. absurd (none-some k (sym e));
}

-- where there is no parent, the deepest node on the path is further above
pub without_parent : (nodes : Nodes Entry) (p : Path) (k : NodeKey) (d : ℕ) → AreClosed nodes.keys → is_root p ≡ false → get nodes.keys (parent_path p) ≡ None → get nodes.keys (take d p) ≡ Some k
    → ((e : ℕ) → d < e → e ≤ length p → get nodes.keys (take e p) ≡ None) → IsDeepestAt nodes p (length p) k
without_parent nodes p k d closed deep none found others = record {
  depth = d;
  below = elim (within_or_beyond (length p) d) [
    | inl low ↦ absurd (none-some k (sym (none_below nodes.keys p (length p - 1) d closed (omega (arith, low)) none) ∙ found))
    | inr h ↦ h
  ];
  found = found;
  others = λ e l h. others e l (omega (arith, h));
}

-- ---- as the maps have it

told_of : (nodes : Nodes Entry) (closed : AreClosed nodes.keys) (both : (q : Path) → is_some (get nodes.values q) ≡ is_some (get nodes.keys q)) (counted : AreCounted nodes.values) (p : Path) (d : ℕ)
    → told d (get nodes.values (take d p)) ≡ ancestor_in (groups_in nodes.values) p d
told_of nodes closed both counted p d = at (get nodes.values (take d p)) refl
  where
    groups : (w : Option Entry) → get nodes.values (take d p) ≡ w → option_flatten (option_map settings_of w) ≡ option_flatten (get (groups_in nodes.values) (take d p))
    groups w e = ap option_flatten (ap (option_map settings_of) (sym e) ∙ sym (get-seen settings_of nodes.values (take d p)))

    at : (w : Option Entry) → get nodes.values (take d p) ≡ w → told d w ≡ ancestor_in (groups_in nodes.values) p d
    at None e =
        let none = none_counted_below nodes closed both (take d p) (sym (both (take d p)) ∙ ap is_some e) in
        λ i. record { depth = d; settings = groups None e i; descendants = sym none i }
    at (Some x) e =
        let count = (counted (take d p) x e).groups.below in
        λ i. record { depth = d; settings = groups (Some x) e i; descendants = count i }

pub all_told : (nodes : Nodes Entry) → AreClosed nodes.keys → HaveOnePath nodes.keys → ((q : Path) → is_some (get nodes.values q) ≡ is_some (get nodes.keys q)) → AreCounted nodes.values
    → (p : Path) (n : ℕ) → n ≤ suc (length p) → (at : Option NodeKey) → IsDeepest nodes p n at → going_up nodes at n ≡ downward (ancestor_in (groups_in nodes.values) p) n
all_told nodes closed one both counted p n short at h = whole_way nodes one p n short both at h ∙ downward-same _ _ n (λ d l. told_of nodes closed both counted p d)

pub ancestors_as : (m : FiniteMap path_cmp (Option Settings)) (T : Tree) → present m ≡ T.groups → (p : Path) (n : ℕ) → downward (ancestor_in m p) n ≡ downward (ancestor_at T p) n
unfolding descendants
ancestors_as m T is p n = downward-same (ancestor_in m p) (ancestor_at T p) n (λ d l i. record { depth = d; settings = settings (take d p) i; descendants = counts (take d p) i })
  where
    settings : (q : Path) → option_flatten (get m q) ≡ group T q
    settings q = sym (get-present path_cmp_total path_cmp_exact m q) ∙ ap (λ k. get k q) is

    counts : (q : Path) → group_count m (is_above q) ≡ descendants T q
    counts q = sym (len-domain-retain path_cmp_total path_cmp_exact (present m) (is_above q)) ∙ ap (λ k. len (retain (domain k) (is_above q))) is
