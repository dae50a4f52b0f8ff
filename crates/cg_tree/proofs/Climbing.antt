-- The paths above one, step by step along parents.
use Rattle.std.proofs.Common.{◌≡◌, ◌≢◌, ◌<◌, suc, ◌&&◌, not, Bool, true, false, [], ◌∷◌, length, Option, Some, None, option_map, is_some, inl, inr, refl, sym, ap, subst, ◌∙◌, true≢false, arith}
use Rattle.std.proofs.lemmas.Bool.{and_parts, false≢true}
use Rattle.std.proofs.lemmas.Option.{none-some}
use Rattle.cg_maps.specs.FiniteMap.{get, set_at}
use Rattle.cg_maps.proofs.Maps.{cases, get_here, get_apart}
use Rattle.cg_name.specs.Name.{same_name}
use Rattle.cg_name.specs.Order.{path_cmp_total, path_cmp_exact}
use Rattle.cg_name.specs.Path.{Path, is_above, is_parent, is_root}
use Rattle.cg_name.proofs.Packing.{same_name-is}
use Rattle.cg_path_tree.specs.declared.node.NodeKey.{NodeKey}
use Rattle.cg_path_tree.specs.Nodes.{Nodes, parent_path, path_of, with_value, HaveOnePath, IsKey}
use Rattle.cg_path_tree.proofs.Changing.{path_of-is}
use Rattle.cg_path_tree.proofs.Parents.{below_parent, length-parent, no_child, root_no_child}
use Rattle.cg_tree.specs.declared.entry.Entry.{Entry}
use Rattle.cg_tree.specs.Entries.{entry_at, path_at}

-- ---- above a path are its parent and what is above that

and_fails : (b : Bool) → b && false ≡ false
and_fails true = refl
and_fails false = refl

pub not_above_itself : (p : Path) → is_above p p ≡ false
not_above_itself [] = refl
not_above_itself (n ∷ p) = ap (λ b. same_name n n && b) (not_above_itself p) ∙ and_fails (same_name n n)

pub parent_is_above : (p q : Path) → is_parent p q ≡ true → is_above p q ≡ true
parent_is_above p [] h = absurd (false≢true h)
parent_is_above [] (m ∷ q) h = refl
parent_is_above (n ∷ p) (m ∷ q) h =
    let both = and_parts (same_name n m) (is_parent p q) h in
    λ i. both.0 i && parent_is_above p q both.1 i

pub root_only : (q : Path) → is_root q ≡ true → q ≡ []
root_only [] h = refl
root_only (m ∷ q) h = absurd (false≢true h)

pub above_by_parent : (q p r : Path) → is_parent p r ≡ true → q ≢ p → is_above q r ≡ is_above q p
above_by_parent q p [] h ne = absurd (false≢true h)
above_by_parent [] [] (m ∷ r) h ne = absurd (ne refl)
above_by_parent (k ∷ q) [] (m ∷ r) h ne = ap (λ x. same_name k m && is_above q x) (root_only r h) ∙ and_fails (same_name k m)
above_by_parent [] (n ∷ p) (m ∷ r) h ne = refl
above_by_parent (k ∷ q) (n ∷ p) (m ∷ r) h ne =
    let both = and_parts (same_name n m) (is_parent p r) h in
    let same : n ≡ m = same_name-is n m both.0 in
    elim (same_name k n) as (λ b. same_name k n ≡ b → same_name k m && is_above q r ≡ b && is_above q p) [
      | true ↦ λ e.
          let own : k ≡ n = same_name-is k n e in
          (λ i. (ap (same_name k) (sym same) ∙ e) i && is_above q r) ∙ above_by_parent q p r both.1 (λ f. ne (λ i. own i ∷ f i))
      | false ↦ λ e. ap (λ b. b && is_above q r) (ap (same_name k) (sym same) ∙ e)
    ] refl

-- ---- a walk upward from a path

-- the entry of q, once the walk from p has come to r: changed where q is above p and not above r
abbrev pub passed : (Bool → Entry → Entry) → Path → Path → Path → Entry → Entry
passed change p r q e = change (is_above q p && not (is_above q r)) e

pub record HasClimbed (change : Bool → Entry → Entry) (first now : Nodes Entry) (p : Path) (at : NodeKey) : Type 0 where
  pub stays : (e : Entry) → change false e ≡ e
  pub keys : now.keys ≡ first.keys
  pub one_path : HaveOnePath first.keys
  pub key : IsKey first.keys at
  pub above : (q : Path) → is_above q (path_at first at) ≡ true → is_above q p ≡ true
  pub values : (q : Path) → get now.values q ≡ option_map (passed change p (path_at first at) q) (get first.values q)

-- nothing is changed yet
not_yet : (b : Bool) → b && not b ≡ false
not_yet true = refl
not_yet false = refl

same_entry : (w : Option Entry) (f : Entry → Entry) → ((e : Entry) → f e ≡ e) → w ≡ option_map f w
same_entry None f h = refl
same_entry (Some e) f h = ap Some (sym (h e))

pub not_climbed : (change : Bool → Entry → Entry) (first : Nodes Entry) (at : NodeKey) → ((e : Entry) → change false e ≡ e) → HaveOnePath first.keys → IsKey first.keys at → HasClimbed change first first (path_at first at) at
not_climbed change first at stays one key = record {
  stays = stays;
  keys = refl;
  one_path = one;
  key = key;
  above = λ q h. h;
  values = λ q. same_entry (get first.values q) (passed change (path_at first at) (path_at first at) q) (λ e. ap (λ b. change b e) (not_yet (is_above q (path_at first at))) ∙ stays e);
}

pub some_of : {A : Type 0} (w : Option A) → is_some w ≡ true → (x : A) × (w ≡ Some x)
some_of None e = absurd (false≢true e)
some_of (Some x) e = (x, refl)

is_some_mapped : {A B : Type 0} (f : A → B) (w : Option A) → is_some (option_map f w) ≡ is_some w
is_some_mapped f None = refl
is_some_mapped f (Some x) = refl

-- the path of a key
pub at_path : (nodes : Nodes Entry) (k : NodeKey) (p : Path) → HaveOnePath nodes.keys → get nodes.keys p ≡ Some k → path_at nodes k ≡ p
at_path nodes k p one h = path_of-is nodes.keys k p one h

pub at_own_path : (nodes : Nodes Entry) (k : NodeKey) → HaveOnePath nodes.keys → IsKey nodes.keys k → get nodes.keys (path_at nodes k) ≡ Some k
at_own_path nodes k one key = ap (get nodes.keys) (at_path nodes k key.0 one key.1) ∙ key.1

module _ {change : Bool → Entry → Entry} {first now : Nodes Entry} {p : Path} {at : NodeKey} (c : HasClimbed change first now p at) (deep : is_root (path_at first at) ≡ false) (up : NodeKey) (is : Some up ≡ get first.keys (parent_path (path_at first at))) where
  abbrev pub r : Path
  r = path_at first at

  pub above_is : path_at first up ≡ parent_path r
  above_is = at_path first up (parent_path r) c.one_path (sym is)

  pub is_its_parent : is_parent (path_at first up) r ≡ true
  is_its_parent = ap (λ x. is_parent x r) above_is ∙ below_parent r deep

  is_above_it : is_above (path_at first up) r ≡ true
  is_above_it = parent_is_above (path_at first up) r is_its_parent

  -- its entry, as it is found by the nodes now
  pub same_place : path_at now up ≡ path_at first up
  same_place = ap (λ k. path_of k up) c.keys

  pub entry_up : ((q : Path) → is_some (get first.values q) ≡ is_some (get first.keys q)) → (e : Entry) × (get now.values (path_at first up) ≡ Some e)
  entry_up both =
      let key : is_some (get first.keys (path_at first up)) ≡ true = ap is_some (at_own_path first up c.one_path (parent_path r, sym is)) in
      some_of (get now.values (path_at first up)) (ap is_some (c.values (path_at first up)) ∙ is_some_mapped (passed change p r (path_at first up)) (get first.values (path_at first up)) ∙ both (path_at first up) ∙ key)

  pub up_key : IsKey first.keys up
  up_key = (parent_path r, sym is)

  pub shorter : length (path_at first up) < length r
  shorter = let longer : suc (length (parent_path r)) ≡ length r = length-parent r deep in omega (arith, ap length above_is)

  -- it has not been changed so far
  unchanged : (e : Entry) → get now.values (path_at first up) ≡ Some e → get first.values (path_at first up) ≡ Some e
  unchanged e h = by (get first.values (path_at first up)) refl
    where
      test : is_above (path_at first up) p && not (is_above (path_at first up) r) ≡ false
      test = (λ i. is_above (path_at first up) p && not (is_above_it i)) ∙ and_fails (is_above (path_at first up) p)

      by : (w : Option Entry) → get first.values (path_at first up) ≡ w → w ≡ Some e
      by None w = absurd (none-some e (sym (c.values (path_at first up) ∙ ap (option_map (passed change p r (path_at first up))) w) ∙ h))
      by (Some x) w =
          ap Some (sym (ap (λ b. change b x) test ∙ c.stays x))
          ∙ sym (c.values (path_at first up) ∙ ap (option_map (passed change p r (path_at first up))) w) ∙ h

  -- what holds of all entries above holds of it
  pub has_room : {Room : Entry → Type 0} → (e : Entry) → get now.values (path_at first up) ≡ Some e → ((q : Path) (x : Entry) → is_above q p ≡ true → get first.values q ≡ Some x → Room x) → Room e
  has_room e h room = room (path_at first up) e (c.above (path_at first up) is_above_it) (unchanged e h)

  module _ (e : Entry) (there : get now.values (path_at first up) ≡ Some e) (next : Nodes Entry) (made : next ≡ with_value now (path_at now up) (change true e)) where
    written : (q : Path) → get next.values q ≡ get (set_at now.values (path_at first up) (Some (change true e))) q
    written q = ap (λ n. get n.values q) made ∙ ap (λ x. get (set_at now.values x (Some (change true e))) q) same_place

    own_test : is_above (path_at first up) p && not (is_above (path_at first up) (path_at first up)) ≡ true
    own_test = λ i. c.above (path_at first up) is_above_it i && not (not_above_itself (path_at first up) i)

    values_there : (q : Path) → get next.values q ≡ option_map (passed change p (path_at first up) q) (get first.values q)
    values_there q = elim (cases path_cmp_total path_cmp_exact q (path_at first up)) [
      | inl same ↦ subst (λ x. get next.values x ≡ option_map (passed change p (path_at first up) x) (get first.values x)) (sym same)
          (written (path_at first up)
          ∙ get_here path_cmp_total path_cmp_exact now.values (path_at first up) (Some (change true e))
          ∙ ap (λ b. Some (change b e)) (sym own_test)
          ∙ ap (option_map (passed change p (path_at first up) (path_at first up))) (sym (unchanged e there)))
      | inr ne ↦
          written q
          ∙ get_apart path_cmp_total path_cmp_exact now.values (path_at first up) (Some (change true e)) q ne
          ∙ c.values q
          ∙ (λ i. option_map (change (is_above q p && not (above_by_parent q (path_at first up) r is_its_parent ne i))) (get first.values q))
    ]

    above_there : (q : Path) → is_above q (path_at first up) ≡ true → is_above q p ≡ true
    above_there q h =
        let apart : q ≢ path_at first up = λ same. true≢false (sym h ∙ ap (λ x. is_above x (path_at first up)) same ∙ not_above_itself (path_at first up)) in
        c.above q (above_by_parent q (path_at first up) r is_its_parent apart ∙ h)

    pub climbed : HasClimbed change first next p up
    climbed = record {
      stays = c.stays;
      keys = ap (λ n. n.keys) made ∙ c.keys;
      one_path = c.one_path;
      key = up_key;
      above = above_there;
      values = values_there;
    }

-- what is said of the key's parent
module _ {change : Bool → Entry → Entry} {first now : Nodes Entry} {p : Path} {at : NodeKey} (c : HasClimbed change first now p at) (w : Option NodeKey)
    (root : (q : Path) → get now.keys q ≡ Some at → is_some w ≡ not (is_root q)) (value : (q : Path) → get now.keys q ≡ Some at → is_root q ≡ false → w ≡ get now.keys (parent_path q)) where
  own_now : get now.keys (path_at first at) ≡ Some at
  own_now = ap (λ k. get k (path_at first at)) c.keys ∙ at_own_path first at c.one_path c.key

  turned : (b : Bool) → true ≡ not b → b ≡ false
  turned true e = absurd (true≢false e)
  turned false e = refl

  ended : (b : Bool) → false ≡ not b → b ≡ true
  ended true e = refl
  ended false e = absurd (false≢true e)

  pub goes_on : (up : NodeKey) → w ≡ Some up → is_root (path_at first at) ≡ false
  goes_on up e = turned (is_root (path_at first at)) (sym (ap is_some e) ∙ root (path_at first at) own_now)

  pub goes_to : (up : NodeKey) → w ≡ Some up → Some up ≡ get first.keys (parent_path (path_at first at))
  goes_to up e = sym e ∙ value (path_at first at) own_now (goes_on up e) ∙ ap (λ k. get k (parent_path (path_at first at))) c.keys

  pub ends : w ≡ None → is_root (path_at first at) ≡ true
  ends e = ended (is_root (path_at first at)) (sym (ap is_some e) ∙ root (path_at first at) own_now)

-- the walk has come to the root: all that is above is changed
pub climbed_all : (change : Bool → Entry → Entry) (first now : Nodes Entry) (p : Path) (at : NodeKey) → HasClimbed change first now p at → is_root (path_at first at) ≡ true → (q : Path) → get now.values q ≡ option_map (change (is_above q p)) (get first.values q)
climbed_all change first now p at c top q =
    let none : is_above q (path_at first at) ≡ false = ap (is_above q) (root_only (path_at first at) top) in
    c.values q ∙ (λ i. option_map (change (both (is_above q p) (is_above q (path_at first at)) none i)) (get first.values q))
  where
    both : (a b : Bool) → b ≡ false → a && not b ≡ a
    both true b h = ap not h
    both false b h = refl

-- ---- the parent alone

module _ (change : Bool → Entry → Entry) (stays : (e : Entry) → change false e ≡ e) (a : Nodes Entry) (key : NodeKey) (one : HaveOnePath a.keys) (own : IsKey a.keys key) (w : Option NodeKey)
    (root : (q : Path) → get a.keys q ≡ Some key → is_some w ≡ not (is_root q)) (value : (q : Path) → get a.keys q ≡ Some key → is_root q ≡ false → w ≡ get a.keys (parent_path q)) where
  start : HasClimbed change a a (path_at a key) key
  start = not_climbed change a key stays one own

  left_alone : (q : Path) → is_parent q (path_at a key) ≡ false → get a.values q ≡ option_map (change (is_parent q (path_at a key))) (get a.values q)
  left_alone q none = same_entry (get a.values q) (change (is_parent q (path_at a key))) (λ x. ap (λ b. change b x) none ∙ stays x)

  pub no_parent : w ≡ None → (q : Path) → get a.values q ≡ option_map (change (is_parent q (path_at a key))) (get a.values q)
  no_parent e q = left_alone q (root_no_child q (path_at a key) (ends start w root value e))

  module _ (up : NodeKey) (is : w ≡ Some up) where
    parent_is_it : is_parent (path_at a up) (path_at a key) ≡ true
    parent_is_it = is_its_parent start (goes_on start w root value up is) up (goes_to start w root value up is)

    parent_place : path_at a up ≡ parent_path (path_at a key)
    parent_place = above_is start (goes_on start w root value up is) up (goes_to start w root value up is)

    pub has_room_right : {Room : Entry → Type 0} → (e : Entry) → entry_at a up ≡ Some e → ((q : Path) (x : Entry) → is_parent q (path_at a key) ≡ true → get a.values q ≡ Some x → Room x) → Room e
    has_room_right e there room = room (path_at a up) e parent_is_it there

    pub entry_of_parent : ((q : Path) → is_some (get a.values q) ≡ is_some (get a.keys q)) → (e : Entry) × (entry_at a up ≡ Some e)
    entry_of_parent both = entry_up start (goes_on start w root value up is) up (goes_to start w root value up is) both

    pub changed_at_parent : (e : Entry) → entry_at a up ≡ Some e → (next : Nodes Entry) → next ≡ with_value a (path_at a up) (change true e)
        → (q : Path) → get next.values q ≡ option_map (change (is_parent q (path_at a key))) (get a.values q)
    changed_at_parent e there next made q = ap (λ n. get n.values q) made ∙ (elim (cases path_cmp_total path_cmp_exact q (path_at a up)) [
      | inl same ↦ subst (λ x. get (set_at a.values (path_at a up) (Some (change true e))) x ≡ option_map (change (is_parent x (path_at a key))) (get a.values x)) (sym same)
          (get_here path_cmp_total path_cmp_exact a.values (path_at a up) (Some (change true e))
          ∙ (λ i. Some (change (sym parent_is_it i) e))
          ∙ ap (option_map (change (is_parent (path_at a up) (path_at a key)))) (sym there))
      | inr ne ↦
          get_apart path_cmp_total path_cmp_exact a.values (path_at a up) (Some (change true e)) q ne
          ∙ left_alone q (no_child q (path_at a key) (λ f. ne (f ∙ sym parent_place)))
    ])
