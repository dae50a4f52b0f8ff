-- A node is taken out of its chain.
use Rattle.std.proofs.Common.{◌≡◌, ◌≢◌, ℕ, zero, suc, ◌<◌, ◌≤◌, List, [], ◌∷◌, length, set, Option, None, Some, refl, sym, ap, subst, ◌∙◌, inl, inr, arith}
use Rattle.std.specs.List.{slice_get}
use Rattle.std.proofs.lemmas.Bool.{cases_eq}
use Rattle.std.proofs.lemmas.List.{length-set}
use Rattle.std.proofs.lemmas.Option.{slice_get_within}
use Rattle.cg_path_tree.specs.declared.node.NodeKey.{NodeKey}
use Rattle.cg_path_tree.specs.Chains.{Link, slot_in, no_key, StandsIn, AreLeft, IsChain, IsChainOf, IsListed, AreChained, IsBehind, IsBefore}
use Rattle.cg_path_tree.proofs.ListChanges.{same_some, some_not_none}
use Rattle.cg_path_tree.proofs.Linking.{cases_key}
use Rattle.cg_path_tree.proofs.Chaining.{begins_with, one_chain, stands_once, next_stands, own_chain, chain_short, at_place, set_here, set_apart}

-- another node names the same next, or the one behind where it named the one that goes
pub record Passes (later : NodeKey → Option Link) (gone to i : NodeKey) (m : Link) : Type 0 where
  pub own : Link
  pub there : later i ≡ Some own
  pub hash : own.hash ≡ m.hash
  pub kept : m.next ≢ gone → own.next ≡ m.next
  pub past : m.next ≡ gone → own.next ≡ to

module _ (link later : NodeKey → Option Link) (ends : link no_key ≡ None) (k : NodeKey) (l : Link) (there : link k ≡ Some l) where
  without : (h now : NodeKey) (c : List NodeKey) → IsChain link h c → (h ≢ k → now ≡ h) → (h ≡ k → now ≡ l.next) → ((i : NodeKey) → StandsIn c i → i ≢ k → (m : Link) → link i ≡ Some m → Passes later k l.next i m)
      → (d : List NodeKey) × IsChain later now d × AreLeft c k d
  without h now [] is kept past w = (
    [],
    kept (λ same. some_not_none l (link k) there (ap link (sym same ∙ is) ∙ ends)) ∙ is,
    λ i. ((λ at. absurd (some_not_none i None at.1 refl)), (λ x. x.0)),
  )
  without h now (x ∷ c) is kept past w = elim (cases_key x k) [
    | inl same ↦
        let own : is.1.0 ≡ l = same_some is.1.0 l (sym is.1.1 ∙ ap link same ∙ there) in
        let not_again : is.1.0.next ≢ k = λ again.
        let len = ap length (one_chain link ends k (x ∷ c) c (subst (λ y. IsChain link y (x ∷ c)) (is.0 ∙ same) is) (subst (λ y. IsChain link y c) again is.1.2)) in
        absurd (omega arith) in
        let r = without is.1.0.next is.1.0.next c is.1.2 (λ _. refl) (λ again. absurd (not_again again)) (λ i at. w i (suc at.0, at.1)) in (
          r.0,
          subst (λ y. IsChain later y r.0) (ap (λ (m : Link). m.next) own ∙ sym (past (is.0 ∙ same))) r.1,
          λ i. (
            (λ at. let y = (r.2 i).0 at in ((suc y.0.0, y.0.1), y.1)),
            (λ y. (r.2 i).1 (behind i same y.1 y.0.0 y.0.1, y.1)),
          ),
        )
    | inr apart ↦
        let p = w x (0, refl) apart is.1.0 is.1.1 in
        let r = without is.1.0.next p.own.next c is.1.2 p.kept p.past (λ i at. w i (suc at.0, at.1)) in (
          x ∷ r.0,
          (kept (λ e. apart (sym is.0 ∙ e)) ∙ is.0, (p.own, p.there, r.1)),
          λ i. ((λ at. stays i apart r.0 (λ z. (r.2 i).0 z) at.0 at.1), (λ y. back i r.0 (λ z. (r.2 i).1 z) y.1 y.0.0 y.0.1)),
        )
  ]
    where
      behind : (i : NodeKey) → x ≡ k → i ≢ k → (j : ℕ) → slice_get (x ∷ c) j ≡ Some i → StandsIn c i
      behind i same ne zero at = absurd (ne (sym (same_some x i at) ∙ same))
      behind i same ne (suc j) at = (j, at)

      stays : (i : NodeKey) → x ≢ k → (d : List NodeKey) → (StandsIn d i → StandsIn c i × (i ≢ k)) → (j : ℕ) → slice_get (x ∷ d) j ≡ Some i → StandsIn (x ∷ c) i × (i ≢ k)
      stays i apart d h zero at = ((0, at), λ e. apart (same_some x i at ∙ e))
      stays i apart d h (suc j) at = let y = h (j, at) in ((suc y.0.0, y.0.1), y.1)

      back : (i : NodeKey) (d : List NodeKey) → (StandsIn c i × (i ≢ k) → StandsIn d i) → i ≢ k → (j : ℕ) → slice_get (x ∷ c) j ≡ Some i → StandsIn (x ∷ d) i
      back i d h ne zero at = (0, at)
      back i d h ne (suc j) at = let y = h ((j, at), ne) in (suc y.0, y.1)

module _ (ks heads : List NodeKey) (link : NodeKey → Option Link) (a : AreChained ks heads link) (k : NodeKey) (at : StandsIn ks k) (l : Link) (there : link k ≡ Some l) where
  abbrev slot : ℕ
  slot = slot_in (length heads) l.hash

  -- a head that is the node's key stands at its slot
  head_slot : (s : ℕ) → slice_get heads s ≡ Some k → slot ≡ s
  head_slot s begins =
      let x = a.chains s k begins in
      let c = begins_with link a.ends k l there x.chain x.is in
      let e = x.each k (0, ap (λ z. slice_get z 0) c.1) in
      ap (λ (m : Link). slot_in (length heads) m.hash) (same_some l e.own (sym there ∙ e.there)) ∙ e.slot_is

  -- a node that names it as the next stands right before it
  before_stands : (h : NodeKey) → slice_get heads slot ≡ Some h → (i : NodeKey) → StandsIn ks i → (m : Link) → link i ≡ Some m → m.next ≡ k → (c : List NodeKey) × IsChain link h c × (j : ℕ) × (slice_get c j ≡ Some i) × (slice_get c (suc j) ≡ Some k)
  before_stands h begins i among m own next =
      let e = a.each i among in
      let x = own_chain ks heads link a i among e.own e.there e.head e.begins in
      let c = x.0.chain in
      let after = next_stands link a.ends e.head c x.0.is x.1.0 i k m l x.1.1 own next there in
      let o = x.0.each k (suc x.1.0, after) in
      let same : slot ≡ slot_in (length heads) e.own.hash = ap (λ (n : Link). slot_in (length heads) n.hash) (same_some l o.own (sym there ∙ o.there)) ∙ o.slot_is in
      let head : e.head ≡ h = same_some e.head h (sym e.begins ∙ ap (slice_get heads) (sym same) ∙ begins) in
      (c, subst (λ y. IsChain link y c) head x.0.is, x.1.0, x.1.1, after)

  -- it isn't the first, and comes behind one
  pub is_behind : (head : NodeKey) → slice_get heads slot ≡ Some head → head ≢ k → IsBehind link head k
  is_behind head begins ne =
      let x = own_chain ks heads link a k at l there head begins in
      let short : length x.0.chain ≤ 4294967295 = chain_short ks heads link a slot head x.0 in
      by x.0.chain x.0.is (omega arith) x.1.0 x.1.1
    where
      by : (c : List NodeKey) → IsChain link head c → length c < 4294967296 → (j : ℕ) → slice_get c j ≡ Some k → IsBehind link head k
      by [] is short j stands = absurd (some_not_none k None stands refl)
      by (y ∷ c) is short zero stands = absurd (ne (is.0 ∙ same_some y k stands))
      by (y ∷ c) is short (suc j) stands = record { chain = y ∷ c; is = is; place = j; at = stands; short = short }

  module _ (left fewer : List NodeKey) (later : NodeKey → Option Link) (are : AreLeft ks k left) (as_many : length fewer ≡ length heads)
      (head_kept : (s : ℕ) (h : NodeKey) → slice_get heads s ≡ Some h → (now : NodeKey) × (slice_get fewer s ≡ Some now) × (h ≢ k → now ≡ h) × (h ≡ k → now ≡ l.next))
      (written : (i : NodeKey) → StandsIn ks i → i ≢ k → (m : Link) → link i ≡ Some m → Passes later k l.next i m) (ends : later no_key ≡ None) where
    fewer_chain : (s : ℕ) (now : NodeKey) → slice_get fewer s ≡ Some now → IsChainOf left later (length fewer) s now
    fewer_chain s now begins =
        let low : s < length fewer = slice_get_within fewer s now begins in
        let h = at_place heads s (subst (λ n. s < n) as_many low) in
        let o = head_kept s h.0 h.1 in
        let same : o.0 ≡ now = same_some o.0 now (sym o.1 ∙ begins) in
        let x = a.chains s h.0 h.1 in
        let r = without link later a.ends k l there h.0 o.0 x.chain x.is o.2 o.3 (λ i stands. written i (x.each i stands).among) in
        record {
          chain = r.0;
          is = subst (λ y. IsChain later y r.0) same r.1;
          each = λ i stands.
              let y = (r.2 i).0 stands in
              let e = x.each i y.0 in
              let p = written i e.among y.1 e.own e.there in
              record { among = (are i).1 (e.among, y.1); own = p.own; there = p.there; slot_is = (λ t. slot_in (as_many t) (p.hash t)) ∙ e.slot_is };
        }

    fewer_listed : (i : NodeKey) → StandsIn left i → IsListed fewer later i
    fewer_listed i stands =
        let y = (are i).0 stands in
        let e = a.each i y.0 in
        let x = own_chain ks heads link a i y.0 e.own e.there e.head e.begins in
        let o = head_kept (slot_in (length heads) e.own.hash) e.head e.begins in
        let r = without link later a.ends k l there e.head o.0 x.0.chain x.0.is o.2 o.3 (λ j z. written j (x.0.each j z).among) in
        let p = written i y.0 y.1 e.own e.there in
        record {
          own = p.own;
          there = p.there;
          below = e.below;
          head = o.0;
          begins = (λ t. slice_get fewer (slot_in (as_many t) (p.hash t))) ∙ o.1;
          listed = (r.0, r.1, (r.2 i).1 (x.1, y.1));
        }

    chained-fewer : AreChained left fewer later
    chained-fewer = record { chains = fewer_chain; each = fewer_listed; ends = ends }

  module _ (left : List NodeKey) (are : AreLeft ks k left) (head : NodeKey) (begins : slice_get heads slot ≡ Some head) where
    -- the first of its chain
    pub chained-first : head ≡ k → AreChained left (set heads slot l.next) link
    chained-first first =
        chained-fewer left (set heads slot l.next) link are (length-set heads slot l.next)
        (λ s h was. elim (cases_eq s slot) [
          | inl same ↦
              let own : h ≡ k = same_some h k (sym was ∙ ap (slice_get heads) same ∙ begins ∙ ap Some first) in (
                l.next,
                ap (slice_get (set heads slot l.next)) same ∙ set_here heads slot l.next head begins,
                (λ no. absurd (no own)),
                (λ _. refl),
              )
          | inr apart ↦ (
            h,
            set_apart heads slot s l.next apart ∙ was,
            (λ _. refl),
            (λ own. absurd (apart (sym (head_slot s (was ∙ ap Some own))))),
          )
        ])
        (λ i among ne m own. record {
          own = m;
          there = own;
          hash = refl;
          kept = λ _. refl;
          past = λ next.
              let b = before_stands head begins i among m own next in
              let c = begins_with link a.ends k l there b.0 (subst (λ y. IsChain link y b.0) first b.1) in
              let place : 0 ≡ suc b.2 = stands_once link a.ends head b.0 b.1 0 (suc b.2) k (ap (λ z. slice_get z 0) c.1) b.4 in
              absurd (omega arith);
        })
        a.ends

    -- another, behind this one
    pub chained-behind : head ≢ k → (later : NodeKey → Option Link) (b : NodeKey) → IsBefore link head k b → ((m : Link) → link b ≡ Some m → later b ≡ Some (record { hash = m.hash; next = l.next })) → ((i : NodeKey) → i ≢ b → later i ≡ link i) → AreChained left heads later
    chained-behind ne later b before changed others =
        let x = a.chains slot head begins in
        let whole = before.listed in
        let one : whole.0 ≡ x.chain = one_chain link a.ends head whole.0 x.chain whole.1 x.is in
        let among_b : StandsIn ks b = (x.each b (subst (λ c. StandsIn c b) one whole.2)).among in
        chained-fewer left heads later are refl
        (λ s h was. (
          h,
          was,
          (λ _. refl),
          (λ own.
              let same : slot ≡ s = head_slot s (was ∙ ap Some own) in
              absurd (ne (same_some head k (sym begins ∙ ap (slice_get heads) same ∙ was ∙ ap Some own)))),
        ))
        (λ i among apart m own. elim (cases_key i b) [
          | inl same ↦
              let is_b : m ≡ before.own = same_some m before.own (sym own ∙ ap link same ∙ before.there) in
              record {
                own = record { hash = m.hash; next = l.next };
                there = ap later same ∙ changed m (ap link (sym same) ∙ own);
                hash = refl;
                kept = λ no. absurd (no (ap (λ (n : Link). n.next) is_b ∙ before.next));
                past = λ _. refl;
              }
          | inr not_b ↦ record {
            own = m;
            there = others i not_b ∙ own;
            hash = refl;
            kept = λ _. refl;
            past = λ next.
                let y = before_stands head begins i among m own next in
                let z = before_stands head begins b among_b before.own before.there before.next in
                let chain : z.0 ≡ y.0 = one_chain link a.ends head z.0 y.0 z.1 y.1 in
                let place : suc y.2 ≡ suc z.2 = stands_once link a.ends head y.0 y.1 (suc y.2) (suc z.2) k y.4 (ap (λ c. slice_get c (suc z.2)) (sym chain) ∙ z.4) in
                let even : z.2 ≡ y.2 = omega arith in
                absurd (not_b (same_some i b (sym y.3 ∙ ap (slice_get y.0) (sym even) ∙ ap (λ c. slice_get c z.2) (sym chain) ∙ z.3)));
          }
        ])
        (others no_key (λ same. some_not_none before.own (link b) before.there (ap link (sym same) ∙ a.ends)) ∙ a.ends)
