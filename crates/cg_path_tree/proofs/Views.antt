-- What is seen of a node, where the nodes are written.
use Rattle.std.proofs.Common.{◌≡◌, ◌≢◌, ℕ, List, Option, None, Some, IsSome, is_some, option_map, slice_get, refl, sym, ap, subst, ◌∙◌, inl, inr, true≢false}
use Rattle.std.proofs.lemmas.Bool.{cases_eq}
use Rattle.slab.specs.Slab as slab
use Rattle.slab.proofs.SlabLemmas.{Updates-with_value}
use Rattle.cg_path_tree.specs.declared.node.Node.{Node}
use Rattle.cg_path_tree.specs.declared.node.NodeKey.{NodeKey}
use Rattle.cg_path_tree.specs.Chains.{Link, link_of, link_in, SameLinks}
use Rattle.cg_path_tree.specs.Linked.{NodeView, node_view, node_in, Writes, TakesChild}
use Rattle.cg_path_tree.proofs.ListChanges.{same_some}

-- keys with another number are others
pub other_number : (i k : NodeKey) → i ≢ k → i.0 ≢ k.0
other_number i k ne same = ne (λ j. record { 0 = same j })

pub map_there : {A B : Type 0} (f : A → B) (o : Option A) → IsSome o → IsSome (option_map f o)
map_there f None h = h
map_there f (Some x) h = refl

pub there_mapped : {A B : Type 0} (f : A → B) (o : Option A) → IsSome (option_map f o) → IsSome o
there_mapped f None h = h
there_mapped f (Some x) h = refl

-- what is mapped to something is something
pub unmap : {A B : Type 0} (f : A → B) (o : Option A) (y : B) → option_map f o ≡ Some y → (x : A) × (o ≡ Some x) × (f x ≡ y)
unmap f None y e = absurd (cc)
unmap f (Some x) y e = (x, refl, cc)

pub unmapped : {A B : Type 0} (f : A → B) (o : Option A) → option_map f o ≡ None → o ≡ None
unmapped f None e = refl
unmapped f (Some x) e = absurd (cc)

module _ {V : Type 0} (old new : slab.Slab (Node V)) (k : NodeKey) where
  pub writes-updates : (slot : Option (Node V)) → slab.Updates old new k.0 slot → Writes old new k (option_map node_view slot)
  writes-updates slot up = record { changed = ap (option_map node_view) up.changed; others = λ i ne. ap (option_map node_view) (up.others i.0 (other_number i k ne)) }

module _ {V : Type 0} (old new : slab.Slab (Node V)) (k : NodeKey) where
  pub links-updates : (slot : Option (Node V)) → slab.Updates old new k.0 slot → (i : NodeKey) → i ≢ k → link_in new i ≡ link_in old i
  links-updates slot up i ne = ap (option_map link_of) (up.others i.0 (other_number i k ne))

  -- a node is written, and says the same of its chain
  pub same_links : (n m : Node V) → slab.get old k.0 ≡ Some n → slab.Updates old new k.0 (Some m) → link_of m ≡ link_of n → SameLinks old new
  same_links n m at up same i = elim (cases_eq i.0 k.0) [
    | inl is ↦ ap (λ x. option_map link_of (slab.get new x)) is ∙ ap (option_map link_of) up.changed ∙ ap Some same ∙ sym (ap (λ x. option_map link_of (slab.get old x)) is ∙ ap (option_map link_of) at)
    | inr ne ↦ ap (option_map link_of) (up.others i.0 ne)
  ]

  -- or the same of all else
  pub same_views : (n m : Node V) → slab.get old k.0 ≡ Some n → slab.Updates old new k.0 (Some m) → node_view m ≡ node_view n → (i : NodeKey) → node_in new i ≡ node_in old i
  same_views n m at up same i = elim (cases_eq i.0 k.0) [
    | inl is ↦ ap (λ x. option_map node_view (slab.get new x)) is ∙ ap (option_map node_view) up.changed ∙ ap Some same ∙ sym (ap (λ x. option_map node_view (slab.get old x)) is ∙ ap (option_map node_view) at)
    | inr ne ↦ ap (option_map node_view) (up.others i.0 ne)
  ]

-- a node is written in its slot
pub written_at : {V : Type 0} (nodes : slab.Slab (Node V)) (k : NodeKey) (number : ℕ) (n m : Node V) → number ≡ k.0 → slab.get nodes number ≡ Some n → slab.Updates nodes (slab.with_value nodes number m) k.0 (Some m)
written_at nodes k number n m is at = subst (λ i. slab.Updates nodes (slab.with_value nodes number m) i (Some m)) is (Updates-with_value nodes number m (ap is_some at))

pub link_at : {V : Type 0} (nodes : slab.Slab (Node V)) (k : NodeKey) (number : ℕ) (n : Node V) → number ≡ k.0 → slab.get nodes number ≡ Some n → link_in nodes k ≡ Some (link_of n)
link_at nodes k number n is at = ap (option_map link_of) (ap (slab.get nodes) (sym is) ∙ at)

pub link_slot : {V : Type 0} (nodes : slab.Slab (Node V)) (k : NodeKey) (number : ℕ) → number ≡ k.0 → (l : Link) → link_in nodes k ≡ Some l → IsSome (slab.get nodes number)
link_slot nodes k number is l there = there_mapped link_of (slab.get nodes number) (ap is_some (ap (λ i. option_map link_of (slab.get nodes i)) is ∙ there))

-- the node in the slot with a key's number
pub seen_at : {V : Type 0} (nodes : slab.Slab (Node V)) (k : NodeKey) (number : ℕ) (n : Node V) → number ≡ k.0 → slab.get nodes number ≡ Some n → node_in nodes k ≡ Some (node_view n)
seen_at nodes k number n is at = ap (option_map node_view) (ap (slab.get nodes) (sym is) ∙ at)

pub some_there : {A : Type 0} (o : Option A) → IsSome o → (x : A) × (o ≡ Some x)
some_there None h = absurd (true≢false (sym h))
some_there (Some x) h = (x, refl)

-- a child is taken out, and then the one that got its place learns of it
pub takes : {V : Type 0} (old mid new : slab.Slab (Node V)) (k d : NodeKey) (n m : NodeView V) (ys : List NodeKey) (place : ℕ) → d ≢ k → Writes old mid k (Some (record n { children = ys })) → slice_get ys place ≡ Some d → node_in old d ≡ Some m
    → ((x : NodeView V) → node_in mid d ≡ Some x → Writes mid new d (Some (record x { place = place }))) → TakesChild old new k n ys place
takes old mid new k d n m ys place ne taken at there set =
    let w = set m (taken.others d ne ∙ there) in
    record {
      listed = w.others k (λ same. ne (sym same)) ∙ taken.changed;
      moved = λ i x at_i there_i.
          let same : d ≡ i = same_some d i (sym at ∙ at_i) in
          ap (node_in new) (sym same) ∙ (set x (taken.others d ne ∙ ap (node_in old) same ∙ there_i)).changed;
      others = λ i apart no. w.others i (λ same. no (at ∙ ap Some (sym same))) ∙ taken.others i apart;
    }
