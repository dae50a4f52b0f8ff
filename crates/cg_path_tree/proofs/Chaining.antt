-- Chains of nodes stay chains as nodes come and go.
use Rattle.std.proofs.Common.{◌≡◌, ◌≢◌, ◌⊎◌, ℕ, zero, suc, ◌+◌, ◌-◌, ◌<◌, ◌≤◌, Bool, true, false, List, [], ◌∷◌, ◌++◌, map, length, get_or, set, take, Option, None, Some, refl, sym, ap, subst, ◌∙◌, inl, inr, arith, eqb, ◌||◌, replicate, length-take, true≢false}
use borrow.Author.Tests.{ne_eqb}
use Rattle.std.specs.List.{slice_get, IsDistinct, list_any}
use Rattle.std.proofs.lemmas.Bool.{cases_eq, eqb-true}
use Rattle.std.proofs.lemmas.List.{length-set, length-map, length-replicate, get_or-replicate}
use Rattle.std.proofs.lemmas.Map.Keys.{IsDistinct-from_apart}
use Rattle.std.proofs.lemmas.Map.Steps.{length-le_from_distinct_below}
use Rattle.std.proofs.lemmas.Nat.{and_le_r}
use Rattle.std.proofs.lemmas.Option.{slice_get_within, slice_get-get_or, get_or_from_slice_get}
use Rattle.slab.specs.Slab as slab
use Rattle.cg_path_tree.specs.declared.node.Node.{Node}
use Rattle.cg_path_tree.specs.declared.node.NodeKey.{NodeKey}
use Rattle.cg_path_tree.specs.Chains.{Link, link_in, SameLinks, slot_in, no_key, StandsIn, IsChain, IsOfSlot, IsChainOf, IsListed, AreChained, IsBehind, IsBefore}
use Rattle.cg_path_tree.proofs.ListChanges.{same_some, some_not_none, at_push, at_end, at_mapped, pushed_cases}

-- ---- one chain

module _ (link : NodeKey → Option Link) (ends : link no_key ≡ None) where
  -- a key with a node begins a chain that begins with it
  pub begins_with : (h : NodeKey) (l : Link) → link h ≡ Some l → (c : List NodeKey) → IsChain link h c → (d : List NodeKey) × (c ≡ h ∷ d) × IsChain link l.next d
  begins_with h l there [] is = absurd (some_not_none l (link h) there (ap link is ∙ ends))
  begins_with h l there (k ∷ c) is =
      let own : is.1.0 ≡ l = same_some is.1.0 l (sym is.1.1 ∙ ap link (sym is.0) ∙ there) in
      (c, ap (λ x. x ∷ c) (sym is.0), subst (λ (m : Link). IsChain link m.next c) own is.1.2)

  -- and one without begins none
  pub begins_none : (h : NodeKey) → link h ≡ None → (c : List NodeKey) → IsChain link h c → c ≡ []
  begins_none h none [] is = refl
  begins_none h none (k ∷ c) is = absurd (some_not_none is.1.0 (link k) is.1.1 (ap link (sym is.0) ∙ none))

  -- no key begins two chains
  pub one_chain : (h : NodeKey) (c d : List NodeKey) → IsChain link h c → IsChain link h d → c ≡ d
  one_chain h [] d a b = sym (begins_none h (ap link a ∙ ends) d b)
  one_chain h (k ∷ c) d a b =
      let x = begins_with h a.1.0 (ap link a.0 ∙ a.1.1) d b in
      ap (λ y. y ∷ c) (sym a.0) ∙ ap (λ z. h ∷ z) (one_chain a.1.0.next c x.0 a.1.2 x.2) ∙ sym x.1

  -- from each node of it on, a chain is one
  pub chain_from : (h : NodeKey) (c : List NodeKey) → IsChain link h c → (j : ℕ) (k : NodeKey) → slice_get c j ≡ Some k → (d : List NodeKey) × IsChain link k d × (length d + j ≡ length c)
  chain_from h [] is j k at = absurd (some_not_none k None at refl)
  chain_from h (x ∷ c) is zero k at =
      let same : h ≡ k = is.0 ∙ same_some x k at in
      (x ∷ c, subst (λ y. IsChain link y (x ∷ c)) same is, omega arith)
  chain_from h (x ∷ c) is (suc j) k at = let d = chain_from is.1.0.next c is.1.2 j k at in (d.0, d.1, omega (arith, d.2))

  -- no node stands twice
  pub stands_once : (h : NodeKey) (c : List NodeKey) → IsChain link h c → (i j : ℕ) (k : NodeKey) → slice_get c i ≡ Some k → slice_get c j ≡ Some k → i ≡ j
  stands_once h c is i j k a b =
      let x = chain_from h c is i k a in
      let y = chain_from h c is j k b in
      let same : length x.0 ≡ length y.0 = ap length (one_chain k x.0 y.0 x.1 y.1) in
      omega (arith, x.2, y.2, same)

  -- each node of a chain is there
  pub node_stands : (h : NodeKey) (c : List NodeKey) → IsChain link h c → (k : NodeKey) → StandsIn c k → (l : Link) × (link k ≡ Some l)
  node_stands h [] is k at = absurd (some_not_none k None at.1 refl)
  node_stands h (x ∷ c) is k (zero, at) = (is.1.0, ap link (sym (same_some x k at)) ∙ is.1.1)
  node_stands h (x ∷ c) is k (suc j, at) = node_stands is.1.0.next c is.1.2 k (j, at)

  -- what comes right after a node is the next that it names
  pub next_stands : (h : NodeKey) (c : List NodeKey) → IsChain link h c → (j : ℕ) (k n : NodeKey) (l m : Link) → slice_get c j ≡ Some k → link k ≡ Some l → l.next ≡ n → link n ≡ Some m → slice_get c (suc j) ≡ Some n
  next_stands h [] is j k n l m at there next after = absurd (some_not_none k None at refl)
  next_stands h (x ∷ c) is zero k n l m at there next after =
      let own : is.1.0 ≡ l = same_some is.1.0 l (sym is.1.1 ∙ ap link (same_some x k at) ∙ there) in
      let begins : is.1.0.next ≡ n = ap (λ (y : Link). y.next) own ∙ next in
      let y = begins_with n m after c (subst (λ z. IsChain link z c) begins is.1.2) in
      ap (λ z. slice_get z 0) y.1
  next_stands h (x ∷ c) is (suc j) k n l m at there next after = next_stands is.1.0.next c is.1.2 j k n l m at there next after

pub at_place : {A : Type 0} (xs : List A) (j : ℕ) → j < length xs → (x : A) × (slice_get xs j ≡ Some x)
at_place [] j low = absurd (omega arith)
at_place (x ∷ xs) zero low = (x, refl)
at_place (x ∷ xs) (suc j) low = at_place xs j (omega arith)

abbrev numbers : List NodeKey → List ℕ
numbers ks = map (λ k. k.0) ks

number_stands : (ks : List NodeKey) (q : ℕ) → list_any (eqb q) (numbers ks) ≡ true → (k : NodeKey) × StandsIn ks k × (k.0 ≡ q)
number_stands [] q h = absurd (true≢false (sym h))
number_stands (k ∷ ks) q h = by (eqb q k.0) refl (number_stands ks q)
  where
    by : (b : Bool) → eqb q k.0 ≡ b → (list_any (eqb q) (numbers ks) ≡ true → (i : NodeKey) × StandsIn ks i × (i.0 ≡ q)) → (i : NodeKey) × StandsIn (k ∷ ks) i × (i.0 ≡ q)
    by true e rest = (k, (0, refl), sym (eqb-true q k.0 e))
    by false e rest =
        let x = rest (sym (ap (λ b. b || list_any (eqb q) (numbers ks)) e) ∙ h) in
        (x.0, (suc x.1.0, x.1.1), x.2)

-- keys below the last, of which none stands twice, are not more than there are such numbers
few_keys : (ks : List NodeKey) → ((i j : ℕ) (k : NodeKey) → slice_get ks i ≡ Some k → slice_get ks j ≡ Some k → i ≡ j) → ((k : NodeKey) → StandsIn ks k → k.0 < 4294967295) → length ks ≤ 4294967295
few_keys ks once below =
    let len : length (numbers ks) ≡ length ks = length-map ks (λ (k : NodeKey). k.0) in
    let distinct : IsDistinct eqb (numbers ks) = IsDistinct-from_apart eqb (numbers ks) (λ i j d less low.
    let low' : j < length ks = omega arith in
    let x = at_place ks i (omega arith) in
    let y = at_place ks j low' in
    let a : get_or (numbers ks) i d ≡ x.0.0 = get_or_from_slice_get (numbers ks) i x.0.0 d (at_mapped (λ (k : NodeKey). k.0) ks i x.0 x.1) in
    let b : get_or (numbers ks) j d ≡ y.0.0 = get_or_from_slice_get (numbers ks) j y.0.0 d (at_mapped (λ (k : NodeKey). k.0) ks j y.0 y.1) in
    ne_eqb (get_or (numbers ks) i d) (get_or (numbers ks) j d) (λ same.
    let key : x.0 ≡ y.0 = λ t. record { 0 = (sym a ∙ same ∙ b) t } in
    let place : i ≡ j = once i j y.0 (x.1 ∙ ap Some key) y.1 in
    absurd (omega arith))) in
    let short : length (numbers ks) ≤ 4294967295 = length-le_from_distinct_below (numbers ks) 4294967295 distinct (λ q h.
    let k = number_stands ks q h in
    subst (λ n. n < 4294967295) k.2 (below k.0 k.1)) in
    omega arith

-- a chain is one where its nodes say the same
pub chain-same : (link later : NodeKey → Option Link) (h : NodeKey) (c : List NodeKey) → IsChain link h c → ((k : NodeKey) → StandsIn c k → later k ≡ link k) → IsChain later h c
chain-same link later h [] is same = is
chain-same link later h (x ∷ c) is same = (is.0, (is.1.0, same x (0, refl) ∙ is.1.1, chain-same link later is.1.0.next c is.1.2 (λ k at. same k (suc at.0, at.1))))

-- ---- all chains

pub slot_below : (chains hash : ℕ) → 0 < chains → slot_in chains hash < chains
slot_below chains hash some = let low : slot_in chains hash ≤ chains - 1 = and_le_r hash (chains - 1) in omega arith

module _ (ks heads : List NodeKey) (link : NodeKey → Option Link) (a : AreChained ks heads link) where
  -- a node stands in the chain for its hash
  pub own_chain : (k : NodeKey) → StandsIn ks k → (l : Link) → link k ≡ Some l → (h : NodeKey) → slice_get heads (slot_in (length heads) l.hash) ≡ Some h → (x : IsChainOf ks link (length heads) (slot_in (length heads) l.hash) h) × StandsIn x.chain k
  own_chain k at l there h begins =
      let e = a.each k at in
      let same : e.own ≡ l = same_some e.own l (sym e.there ∙ there) in
      let head : e.head ≡ h = same_some e.head h (sym e.begins ∙ ap (λ (m : Link). slice_get heads (slot_in (length heads) m.hash)) same ∙ begins) in
      let x = a.chains (slot_in (length heads) l.hash) h begins in
      let c = e.listed in
      let one : c.0 ≡ x.chain = one_chain link a.ends h c.0 x.chain (subst (λ y. IsChain link y c.0) head c.1) x.is in
      (x, subst (λ d. StandsIn d k) one c.2)

  -- no chain has as many nodes as there are keys
  pub chain_short : (s : ℕ) (h : NodeKey) (x : IsChainOf ks link (length heads) s h) → length x.chain ≤ 4294967295
  chain_short s h x = few_keys x.chain (stands_once link a.ends h x.chain x.is) (λ k at. (a.each k (x.each k at).among).below)

  -- the chains stay where their nodes say the same
  pub chained-same : (later : NodeKey → Option Link) → ((k : NodeKey) → StandsIn ks k → later k ≡ link k) → later no_key ≡ None → AreChained ks heads later
  chained-same later same ends = record {
    chains = λ slot head begins.
        let x = a.chains slot head begins in
        record {
          chain = x.chain;
          is = chain-same link later head x.chain x.is (λ k at. same k (x.each k at).among);
          each = λ k at. let e = x.each k at in record { among = e.among; own = e.own; there = same k e.among ∙ e.there; slot_is = e.slot_is };
        };
    each = λ k at.
        let e = a.each k at in
        let c = e.listed in
        let x = own_chain k at e.own e.there e.head e.begins in
        record {
          own = e.own;
          there = same k at ∙ e.there;
          below = e.below;
          head = e.head;
          begins = e.begins;
          listed = (x.0.chain, chain-same link later e.head x.0.chain x.0.is (λ i stands. same i (x.0.each i stands).among), x.1);
        };
    ends = ends;
  }

-- the head of the chain for a hash
pub head_at : (heads : List NodeKey) (len hash slot : ℕ) (d : NodeKey) → len ≡ length heads → slot ≡ slot_in len hash → slot < len → d ≡ get_or heads slot d → (slot ≡ slot_in (length heads) hash) × (slice_get heads (slot_in (length heads) hash) ≡ Some d)
head_at heads len hash slot d many is within at =
    let same : slot ≡ slot_in (length heads) hash = is ∙ ap (λ n. slot_in n hash) many in
    let low : slot < length heads = subst (λ n. slot < n) many within in
    (same, ap (slice_get heads) (sym same) ∙ slice_get-get_or heads slot d low ∙ ap Some (sym at))

-- no node, in chains of which none has begun
pub chained-none : (heads : List NodeKey) (link : NodeKey → Option Link) → link no_key ≡ None → ((s : ℕ) (h : NodeKey) → slice_get heads s ≡ Some h → h ≡ no_key) → AreChained [] heads link
chained-none heads link ends empty = record {
  chains = λ slot head begins. record { chain = []; is = empty slot head begins; each = λ k at. absurd (some_not_none k None at.1 refl) };
  each = λ k at. absurd (some_not_none k None at.1 refl);
  ends = ends;
}

-- what stands in a list that is written at a place
pub at_set : {A : Type 0} (xs : List A) (i j : ℕ) (x y : A) → slice_get (set xs i x) j ≡ Some y → ((j ≡ i) × (x ≡ y)) ⊎ ((j ≢ i) × (slice_get xs j ≡ Some y))
at_set [] i j x y h = absurd (some_not_none y None h refl)
at_set (z ∷ zs) zero zero x y h = inl (refl, same_some x y h)
at_set (z ∷ zs) zero (suc j) x y h = inr ((λ e. absurd (omega arith)), h)
at_set (z ∷ zs) (suc i) zero x y h = inr ((λ e. absurd (omega arith)), h)
at_set (z ∷ zs) (suc i) (suc j) x y h = elim (at_set zs i j x y h) [
  | inl a ↦ inl (ap suc a.0, a.1)
  | inr a ↦ inr ((λ e. a.0 (omega arith)), a.1)
]

pub set_here : {A : Type 0} (xs : List A) (i : ℕ) (x y : A) → slice_get xs i ≡ Some y → slice_get (set xs i x) i ≡ Some x
set_here [] i x y h = absurd (some_not_none y None h refl)
set_here (z ∷ zs) zero x y h = refl
set_here (z ∷ zs) (suc i) x y h = set_here zs i x y h

pub set_apart : {A : Type 0} (xs : List A) (i j : ℕ) (x : A) → j ≢ i → slice_get (set xs i x) j ≡ slice_get xs j
set_apart [] i j x ne = refl
set_apart (z ∷ zs) zero zero x ne = absurd (ne refl)
set_apart (z ∷ zs) zero (suc j) x ne = refl
set_apart (z ∷ zs) (suc i) zero x ne = refl
set_apart (z ∷ zs) (suc i) (suc j) x ne = set_apart zs i j x (λ e. ne (ap suc e))

-- ---- a node goes first in the chain for its hash

module _ (ks heads : List NodeKey) (link later : NodeKey → Option Link) (a : AreChained ks heads link) (k : NodeKey) (l : Link) (head : NodeKey) (absent : ¬ (StandsIn ks k)) (below : k.0 < 4294967295)
    (begins : slice_get heads (slot_in (length heads) l.hash) ≡ Some head) (own : later k ≡ Some (record { hash = l.hash; next = head })) (others : (i : NodeKey) → i ≢ k → later i ≡ link i) where
  abbrev slot : ℕ
  slot = slot_in (length heads) l.hash

  abbrev wider : List NodeKey
  wider = set heads slot k

  among : List NodeKey
  among = ks ++ k ∷ []

  unending : later no_key ≡ None
  unending = others no_key (λ same. absurd (omega (arith, below, ap (λ (x : NodeKey). x.0) same))) ∙ a.ends

  as_many : length wider ≡ length heads
  as_many = length-set heads slot k

  same_among : (i : NodeKey) → StandsIn ks i → later i ≡ link i
  same_among i at = others i (λ same. absent (subst (StandsIn ks) same at))

  more : (i : NodeKey) → StandsIn ks i → StandsIn (ks ++ k ∷ []) i
  more i at = (at.0, at_push ks k at.0 i at.1)

  -- a chain as it was
  kept_chain : (s : ℕ) (h : NodeKey) → slice_get heads s ≡ Some h → IsChainOf (ks ++ k ∷ []) later (length wider) s h
  kept_chain s h at =
      let x = a.chains s h at in
      record {
        chain = x.chain;
        is = chain-same link later h x.chain x.is (λ i stands. same_among i (x.each i stands).among);
        each = λ i stands.
            let e = x.each i stands in
            record { among = more i e.among; own = e.own; there = same_among i e.among ∙ e.there; slot_is = ap (λ n. slot_in n e.own.hash) as_many ∙ e.slot_is };
      }

  -- the chain that the node begins
  new_chain : IsChainOf (ks ++ k ∷ []) later (length wider) slot k
  new_chain =
      let x = kept_chain slot head begins in
      record {
        chain = k ∷ x.chain;
        is = (refl, (record { hash = l.hash; next = head }, own, x.is));
        each = λ i stands. first i stands.0 stands.1;
      }
    where
      first : (i : NodeKey) (j : ℕ) → slice_get (k ∷ (kept_chain slot head begins).chain) j ≡ Some i → IsOfSlot (ks ++ k ∷ []) later (length wider) slot i
      first i zero at = subst (IsOfSlot (ks ++ k ∷ []) later (length wider) slot) (same_some k i at) (record { among = (length ks, at_end ks k); own = record { hash = l.hash; next = head }; there = own; slot_is = ap (λ n. slot_in n l.hash) as_many })
      first i (suc j) at = (kept_chain slot head begins).each i (j, at)

  still_listed : (i : NodeKey) → StandsIn ks i → IsListed wider later i
  still_listed i at =
      let e = a.each i at in
      let x = own_chain ks heads link a i at e.own e.there e.head e.begins in
      elim (cases_eq (slot_in (length heads) e.own.hash) slot) [
        | inl same ↦
            let head_is : e.head ≡ head = same_some e.head head (sym e.begins ∙ ap (slice_get heads) same ∙ begins) in
            record {
              own = e.own;
              there = same_among i at ∙ e.there;
              below = e.below;
              head = k;
              begins = ap (λ n. slice_get wider (slot_in n e.own.hash)) as_many ∙ ap (slice_get wider) same ∙ set_here heads slot k head begins;
              listed = (
                k ∷ x.0.chain,
                (refl, (record { hash = l.hash; next = head }, own, subst (λ h. IsChain later h x.0.chain) head_is (chain-same link later e.head x.0.chain x.0.is (λ j stands. same_among j (x.0.each j stands).among)))),
                (suc x.1.0, x.1.1),
              );
            }
        | inr apart ↦ record {
          own = e.own;
          there = same_among i at ∙ e.there;
          below = e.below;
          head = e.head;
          begins = ap (λ n. slice_get wider (slot_in n e.own.hash)) as_many ∙ set_apart heads slot (slot_in (length heads) e.own.hash) k apart ∙ e.begins;
          listed = (x.0.chain, chain-same link later e.head x.0.chain x.0.is (λ j stands. same_among j (x.0.each j stands).among), x.1);
        }
      ]

  pub chained-linked : AreChained (ks ++ k ∷ []) wider later
  chained-linked = record {
    chains = λ s h at. elim (at_set heads slot s k h at) [
      | inl x ↦ subst (λ n. IsChainOf (ks ++ k ∷ []) later (length wider) n h) (sym x.0) (subst (IsChainOf (ks ++ k ∷ []) later (length wider) slot) x.1 new_chain)
      | inr x ↦ kept_chain s h x.1
    ];
    each = λ i at. elim (pushed_cases ks k at.0 i at.1) [
      | inl old ↦ still_listed i (at.0, old)
      | inr new ↦ subst (IsListed wider later) new.1 (record {
        own = record { hash = l.hash; next = head };
        there = own;
        below = below;
        head = k;
        begins = ap (λ n. slice_get wider (slot_in n l.hash)) as_many ∙ set_here heads slot k head begins;
        listed = (k ∷ (kept_chain slot head begins).chain, (refl, (record { hash = l.hash; next = head }, own, (kept_chain slot head begins).is)), (0, refl));
      })
    ];
    ends = unending;
  }

-- ---- a walk to the node before another

-- from this key on there is the rest of the chain, with that other behind its first node
pub record IsWalkTo (link : NodeKey → Option Link) (head key at : NodeKey) (steps : ℕ) : Type 0 where
  pub rest : List NodeKey
  pub is : IsChain link at rest
  pub place : ℕ
  pub behind : slice_get rest (suc place) ≡ Some key
  pub short : length rest + steps < 4294967296
  pub whole : List NodeKey
  pub begins : IsChain link head whole
  pub within : (k : NodeKey) → StandsIn rest k → StandsIn whole k

walk_list : (link : NodeKey → Option Link) (at key : NodeKey) (rest : List NodeKey) → IsChain link at rest → (place : ℕ) → slice_get rest (suc place) ≡ Some key → (l : Link) × (link at ≡ Some l)
walk_list link at key [] is place behind = absurd (some_not_none key None behind refl)
walk_list link at key (x ∷ c) is place behind = (is.1.0, ap link is.0 ∙ is.1.1)

module _ (link : NodeKey → Option Link) (head key at : NodeKey) (steps : ℕ) where
  pub walk_there : IsWalkTo link head key at steps → (l : Link) × (link at ≡ Some l)
  walk_there w = walk_list link at key w.rest w.is w.place w.behind

  first_stands : (c : List NodeKey) (j : ℕ) → IsChain link at c → slice_get c (suc j) ≡ Some key → StandsIn c at
  first_stands [] j is behind = absurd (some_not_none key None behind refl)
  first_stands (x ∷ c) j is behind = (0, ap Some (sym is.0))

  pub walk_found : IsWalkTo link head key at steps → (l : Link) → link at ≡ Some l → l.next ≡ key → IsBefore link head key at
  walk_found w l there next = record { listed = (w.whole, w.begins, w.within at (first_stands w.rest w.place w.is w.behind)); own = l; there = there; next = next }

  go_on : (l : Link) → link at ≡ Some l → l.next ≢ key → (c : List NodeKey) → IsChain link at c → (j : ℕ) → slice_get c (suc j) ≡ Some key
      → (d : List NodeKey) × (i : ℕ) × IsChain link l.next d × (slice_get d (suc i) ≡ Some key) × (length c ≡ suc (length d)) × ((k : NodeKey) → StandsIn d k → StandsIn c k)
  go_on l there ne [] is j behind = absurd (some_not_none key None behind refl)
  go_on l there ne (x ∷ []) is j behind = absurd (some_not_none key None behind refl)
  go_on l there ne (x ∷ (y ∷ c)) is zero behind =
      let own : is.1.0 ≡ l = same_some is.1.0 l (sym is.1.1 ∙ ap link (sym is.0) ∙ there) in
      absurd (ne (ap (λ (m : Link). m.next) (sym own) ∙ is.1.2.0 ∙ same_some y key behind))
  go_on l there ne (x ∷ (y ∷ c)) is (suc j) behind =
      let own : is.1.0 ≡ l = same_some is.1.0 l (sym is.1.1 ∙ ap link (sym is.0) ∙ there) in
      (y ∷ c, j, subst (λ (m : Link). IsChain link m.next (y ∷ c)) own is.1.2, behind, refl, λ k stands. (suc stands.0, stands.1))

  pub walk_on : IsWalkTo link head key at steps → (l : Link) → link at ≡ Some l → l.next ≢ key → IsWalkTo link head key l.next (steps + 1)
  walk_on w l there ne =
      let x = go_on l there ne w.rest w.is w.place w.behind in
      let shorter : length w.rest ≡ suc (length x.0) = x.4 in
      let fits : length w.rest + steps < 4294967296 = w.short in
      record { rest = x.0; is = x.2; place = x.1; behind = x.3; short = omega arith; whole = w.whole; begins = w.begins; within = λ k stands. w.within k (x.5 k stands) }

  pub walk_ends : IsWalkTo link head key at steps → 4294967295 ≤ steps → ⊥
  walk_ends w far =
      let some : suc w.place < length w.rest = slice_get_within w.rest (suc w.place) key w.behind in
      let fits : length w.rest + steps < 4294967296 = w.short in
      omega arith

pub walk_begins : (link : NodeKey → Option Link) (head key : NodeKey) → IsBehind link head key → IsWalkTo link head key head 0
walk_begins link head key b = record {
  rest = b.chain;
  is = b.is;
  place = b.place;
  behind = b.at;
  short = let fits : length b.chain < 4294967296 = b.short in omega arith;
  whole = b.chain;
  begins = b.is;
  within = λ k stands. stands;
}

-- ---- nodes that are linked one by one

-- an item of a list in which none stands twice isn't among those before it
pub not_taken : (ks : List NodeKey) → ((i j : ℕ) (k : NodeKey) → slice_get ks i ≡ Some k → slice_get ks j ≡ Some k → i ≡ j) → (i : ℕ) (k : NodeKey) → slice_get ks i ≡ Some k → ¬ (StandsIn (take i ks) k)
not_taken ks once i k at taken =
    let low : taken.0 < length (take i ks) = slice_get_within (take i ks) taken.0 k taken.1 in
    let early : taken.0 < i = omega (arith, length-take i ks) in
    let same : taken.0 ≡ i = once taken.0 i k (taken_at ks i taken.0 k taken.1) at in
    omega arith
  where
    taken_at : (xs : List NodeKey) (n j : ℕ) (x : NodeKey) → slice_get (take n xs) j ≡ Some x → slice_get xs j ≡ Some x
    taken_at xs zero j x h = absurd (some_not_none x None h refl)
    taken_at [] (suc n) j x h = absurd (some_not_none x None h refl)
    taken_at (y ∷ ys) (suc n) zero x h = h
    taken_at (y ∷ ys) (suc n) (suc j) x h = taken_at ys n j x h

pub all_none : (n : ℕ) (s : ℕ) (h : NodeKey) → slice_get (replicate n no_key) s ≡ Some h → h ≡ no_key
all_none n s h at =
    let low : s < length (replicate n no_key) = slice_get_within (replicate n no_key) s h at in
    let fits : s < n = omega (arith, length-replicate n no_key) in
    sym (get_or_from_slice_get (replicate n no_key) s h no_key at) ∙ get_or-replicate n s no_key no_key fits

-- ---- a search along a chain

-- from this key on there is what is left of the chain: each of these nodes that is sought stands there
pub record IsSearch (ks : List NodeKey) (link : NodeKey → Option Link) (at : NodeKey) (steps : ℕ) (sought : NodeKey → Type 0) : Type 0 where
  pub rest : List NodeKey
  pub is : IsChain link at rest
  pub short : length rest + steps < 4294967296
  pub left : (k : NodeKey) → StandsIn ks k → sought k → StandsIn rest k

pub search_begins : (ks heads : List NodeKey) (link : NodeKey → Option Link) (a : AreChained ks heads link) (s : ℕ) (head : NodeKey) → slice_get heads s ≡ Some head → (sought : NodeKey → Type 0)
    → ((k : NodeKey) → StandsIn ks k → sought k → (l : Link) → link k ≡ Some l → slot_in (length heads) l.hash ≡ s) → IsSearch ks link head 0 sought
search_begins ks heads link a s head begins sought own =
    let x = a.chains s head begins in
    let low : length x.chain ≤ 4294967295 = chain_short ks heads link a s head x in
    record {
      rest = x.chain;
      is = x.is;
      short = omega arith;
      left = λ k at so.
          let e = a.each k at in
          let y = own_chain ks heads link a k at e.own e.there head (ap (slice_get heads) (own k at so e.own e.there) ∙ begins) in
          subst (λ c. StandsIn c k) (one_chain link a.ends head y.0.chain x.chain y.0.is x.is) y.1;
    }

module _ (ks : List NodeKey) (link : NodeKey → Option Link) (at : NodeKey) (steps : ℕ) (sought : NodeKey → Type 0) (w : IsSearch ks link at steps sought) where
  pub search_none : link at ≡ None → (k : NodeKey) → StandsIn ks k → ¬ (sought k)
  search_none none k stands so = by w.rest w.is (w.left k stands so)
    where
      by : (c : List NodeKey) → IsChain link at c → StandsIn c k → ⊥
      by [] is x = some_not_none k None x.1 refl
      by (y ∷ c) is x = some_not_none is.1.0 (link at) (ap link is.0 ∙ is.1.1) none

  pub search_far : 4294967295 ≤ steps → (k : NodeKey) → StandsIn ks k → ¬ (sought k)
  search_far far k stands so =
      let x = w.left k stands so in
      let low : x.0 < length w.rest = slice_get_within w.rest x.0 k x.1 in
      let fits : length w.rest + steps < 4294967296 = w.short in
      omega arith

  pub search_on : link no_key ≡ None → (l : Link) → link at ≡ Some l → ¬ (sought at) → IsSearch ks link l.next (steps + 1) sought
  search_on ends l there differs =
      let x = begins_with link ends at l there w.rest w.is in
      let longer : length w.rest ≡ suc (length x.0) = ap length x.1 in
      let fits : length w.rest + steps < 4294967296 = w.short in
      record {
        rest = x.0;
        is = x.2;
        short = omega arith;
        left = λ k stands so. behind k x.0 so (subst (λ c. StandsIn c k) x.1 (w.left k stands so)).0 (subst (λ c. StandsIn c k) x.1 (w.left k stands so)).1;
      }
    where
      behind : (k : NodeKey) (d : List NodeKey) → sought k → (j : ℕ) → slice_get (at ∷ d) j ≡ Some k → StandsIn d k
      behind k d so zero h = absurd (differs (subst sought (sym (same_some at k h)) so))
      behind k d so (suc j) h = (j, h)

pub links-kept : {V : Type 0} (heads ks : List NodeKey) (nodes later : slab.Slab (Node V)) → SameLinks nodes later → AreChained ks heads (link_in nodes) → AreChained ks heads (link_in later)
links-kept heads ks nodes later same a = chained-same ks heads (link_in nodes) a (link_in later) (λ k at. same k) (same no_key ∙ a.ends)
