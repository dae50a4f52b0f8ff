-- What nodes are populated by changes, from one upward.
use Rattle.std.proofs.Common.{◌≡◌, ◌≢◌, ◌+◌, ◌-◌, ◌<◌, length, ◌&&◌, not, ℕ, Bool, true, false, cond, Option, Some, None, option_map, is_some, inl, inr, refl, sym, ap, subst, ◌∙◌, true≢false, arith}
use Rattle.std.proofs.Math.Bool.{and-false}
use Rattle.std.proofs.lemmas.Bool.{and_parts, and_from}
use Rattle.std.proofs.lemmas.Option.{same_Some}
use Rattle.cg_maps.specs.FiniteMap.{FiniteMap, get, set_at}
use Rattle.cg_maps.proofs.Maps.{cases, get_here, get_apart, same_map}
use Rattle.cg_name.specs.Order.{path_cmp_total, path_cmp_exact}
use Rattle.cg_name.specs.Path.{Path, path_cmp, is_above, is_parent, is_prefix, is_root}
use Rattle.cg_path_tree.specs.declared.node.NodeKey.{NodeKey}
use Rattle.cg_path_tree.specs.Nodes.{Nodes, parent_path, path_of, with_value, HaveOnePath, IsKey}
use Rattle.cg_path_tree.proofs.Parents.{below_parent}
use Rattle.cg_tree.specs.CountedUp.{IsCountedUp, IsOneMoreUp}
use Rattle.cg_tree.specs.declared.entry.Entry.{Entry}
use Rattle.cg_tree.specs.Entries.{counted, counted_if, groups_in, held_in, path_at, populated_by_of, settings_of, with_populated_by, AreCounted, CanCount, IsCounted}
use Rattle.cg_tree.proofs.Climbing.{at_own_path, at_path, ends, goes_on, goes_to, not_climbed, parent_is_above, HasClimbed}
use Rattle.cg_tree.proofs.Holding.{held_there}
use Rattle.cg_tree.proofs.Putting.{above_begins, entry_found, from_mapped}
use Rattle.cg_tree.proofs.Seeing.{get-seen}
use Rattle.cg_tree.proofs.Steps.{begins_by_above, begins_itself, below_is_from_child, none_between, parent_begins, shorter_above}

-- the count that a path has after it turned populated, and before it turned back
abbrev pub turning : Bool → ℕ
turning comes = cond comes 1 0

-- the entries at the paths that pass a test are changed
abbrev pub AreChanged : Bool → (Path → Bool) → FiniteMap path_cmp Entry → FiniteMap path_cmp Entry → Type 0
AreChanged comes test first now = (q : Path) → get now q ≡ option_map (with_populated_by comes (test q)) (get first q)

-- those below r on the way down to p turned
abbrev pub HaveTurned : Bool → Path → Path → FiniteMap path_cmp Entry → Type 0
HaveTurned comes p r first = (q : Path) (e : Entry) → is_above r q ≡ true → is_prefix q p ≡ true → get first q ≡ Some e → counted comes e.populated_by ≡ turning comes

-- the walk from p has come up to a node, which is not changed yet
pub record HasCome (comes : Bool) (first now : Nodes Entry) (p : Path) (at : NodeKey) : Type 0 where
  pub keys : now.keys ≡ first.keys
  pub key : IsKey first.keys at
  pub begins : is_prefix (path_at first at) p ≡ true
  pub values : AreChanged comes (λ q. is_above (path_at first at) q && is_prefix q p) first.values now.values
  pub turned : HaveTurned comes p (path_at first at) first.values

unchanged : (comes : Bool) (w : Option Entry) → option_map (with_populated_by comes false) w ≡ w
unchanged comes None = refl
unchanged comes (Some e) = refl

pub not_come : (comes : Bool) (first : Nodes Entry) (at : NodeKey) → IsKey first.keys at → HasCome comes first first (path_at first at) at
not_come comes first at key = record {
  keys = refl;
  key = key;
  begins = begins_itself (path_at first at);
  values = λ q. sym (ap (λ b. option_map (with_populated_by comes b) (get first.values q)) (none_between (path_at first at) q) ∙ unchanged comes (get first.values q));
  turned = λ q e above begins h. absurd (true≢false (sym (and_from _ _ above begins) ∙ none_between (path_at first at) q));
}

-- ---- what an entry's count tells

found_there : (m : FiniteMap path_cmp Entry) (q : Path) (n : ℕ) → get (held_in m) q ≡ Some n → (e : Entry) × (get m q ≡ Some e) × (e.populated_by ≡ n)
found_there m q n h = from_mapped populated_by_of (get m q) n (sym (get-seen populated_by_of m q) ∙ h)

abbrev pub HasRoom : Bool → Path → FiniteMap path_cmp Entry → Type 0
HasRoom comes p first = (q : Path) (n : ℕ) → is_prefix q p ≡ true → get (held_in first) q ≡ Some n → CanCount comes n

-- ---- the node is changed

module _ {comes : Bool} {first now : Nodes Entry} {p : Path} {at : NodeKey} (i : HasCome comes first now p at) where
  abbrev pub r : Path
  r = path_at first at

  pub same_place : path_at now at ≡ r
  same_place = ap (λ k. path_of k at) i.keys

  pub entry_there : HaveOnePath first.keys → ((q : Path) → is_some (get first.values q) ≡ is_some (get first.keys q)) → (e : Entry) × (get now.values r ≡ Some e)
  entry_there one both =
      let w = entry_found first at (at_own_path first at one i.key) both in
      (with_populated_by comes (is_above r r && is_prefix r p) w.0, i.values r ∙ ap (option_map (with_populated_by comes (is_above r r && is_prefix r p))) w.1)

  module _ (e : Entry) (there : get now.values r ≡ Some e) where
    pub before : get first.values r ≡ Some e
    before =
        sym (unchanged comes (get first.values r))
        ∙ ap (λ b. option_map (with_populated_by comes b) (get first.values r)) (sym (none_between r r ∙ refl) ∙ here)
        ∙ sym (i.values r)
        ∙ there
      where
        here : (is_above r r && is_prefix r r) ≡ is_above r r && is_prefix r p
        here = ap (λ b. is_above r r && b) (begins_itself r ∙ sym i.begins)

    pub room_there : HasRoom comes p first.values → CanCount comes e.populated_by
    room_there room = room r e.populated_by i.begins (held_there first.values r e before)

    pub changed_there : (next : Nodes Entry) → next ≡ with_value now (path_at now at) (with_populated_by comes true e) → AreChanged comes (λ q. is_prefix r q && is_prefix q p) first.values next.values
    changed_there next made q = ap (λ n. get n.values q) made ∙ ap (λ x. get (set_at now.values x (Some (with_populated_by comes true e))) q) same_place ∙ elim (cases path_cmp_total path_cmp_exact q r) [
      | inl same ↦ subst (λ x. get (set_at now.values r (Some (with_populated_by comes true e))) x ≡ option_map (with_populated_by comes (is_prefix r x && is_prefix x p)) (get first.values x)) (sym same)
          (get_here path_cmp_total path_cmp_exact now.values r (Some (with_populated_by comes true e))
          ∙ ap (λ b. Some (with_populated_by comes b e)) (sym (and_from _ _ (begins_itself r) i.begins))
          ∙ ap (option_map (with_populated_by comes (is_prefix r r && is_prefix r p))) (sym before))
      | inr ne ↦
          get_apart path_cmp_total path_cmp_exact now.values r (Some (with_populated_by comes true e)) q ne
          ∙ i.values q
          ∙ ap (λ b. option_map (with_populated_by comes (b && is_prefix q p)) (get first.values q)) (sym (begins_by_above r q (λ is. ne (sym is))))
    ]

    -- and then the one above it is come to
    module _ (next : Nodes Entry) (made : next ≡ with_value now (path_at now at) (with_populated_by comes true e)) (it : counted comes e.populated_by ≡ turning comes)
        (one : HaveOnePath first.keys) (up : NodeKey) (deep : is_root r ≡ false) (is : Some up ≡ get first.keys (parent_path r)) where
      up_is : path_at first up ≡ parent_path r
      up_is = at_path first up (parent_path r) one (sym is)

      right_above : is_parent (path_at first up) r ≡ true
      right_above = ap (λ x. is_parent x r) up_is ∙ below_parent r deep

      from_here : (q : Path) (b : Bool) → is_prefix q p ≡ b → (is_prefix r q && b) ≡ is_above (path_at first up) q && b
      from_here q true h = ap (λ a. a && true) (sym (below_is_from_child q (path_at first up) r p right_above i.begins h))
      from_here q false h = and-false (is_prefix r q) ∙ sym (and-false (is_above (path_at first up) q))

      pub come_up : HasCome comes first next p up
      come_up = record {
        keys = ap (λ n. n.keys) made ∙ i.keys;
        key = (parent_path r, sym is);
        begins = parent_begins (path_at first up) r p right_above i.begins;
        values = λ q. changed_there next made q ∙ ap (λ b. option_map (with_populated_by comes b) (get first.values q)) (from_here q (is_prefix q p) refl);
        turned = λ q x above begins h. elim (cases path_cmp_total path_cmp_exact q r) [
          | inl same ↦
              let own : e ≡ x = same_Some _ _ (sym before ∙ ap (get first.values) (sym same) ∙ h) in
              subst (λ (y : Entry). counted comes y.populated_by ≡ turning comes) own it
          | inr ne ↦ i.turned q x (sym (begins_by_above r q (λ is. ne (sym is))) ∙ sym (below_is_from_child q (path_at first up) r p right_above i.begins begins) ∙ above) begins h
        ];
      }

      pub shorter_up : length (path_at first up) < length r
      shorter_up = shorter_above (path_at first up) r (parent_is_above (path_at first up) r right_above)

-- ---- the walk has ended

above_none : (n : ℕ) → n ≢ 0 → 0 < n
above_none n ne = omega (arith, ne)

module _ (p r : Path) (begins : is_prefix r p ≡ true) (first last : FiniteMap path_cmp Entry) where
  abbrev on : Path → Bool
  on q = is_prefix r q && is_prefix q p

  module _ (comes : Bool) (changed : AreChanged comes on first last) where
    same_settings : (b : Bool) (w : Option Entry) → option_map settings_of (option_map (with_populated_by comes b) w) ≡ option_map settings_of w
    same_settings b None = refl
    same_settings b (Some x) = refl

    pub same_groups : groups_in last ≡ groups_in first
    same_groups = same_map path_cmp_total path_cmp_exact (groups_in last) (groups_in first) (λ q.
        get-seen settings_of last q ∙ ap (option_map settings_of) (changed q) ∙ same_settings (on q) (get first q) ∙ sym (get-seen settings_of first q))

    pub still_counted : AreCounted first → AreCounted last
    still_counted counts q x h =
        let before = from_mapped (with_populated_by comes (on q)) (get first q) x (sym (changed q) ∙ h) in
        let old = counts q before.0 before.1 in
        subst (λ m. IsCounted m q x) (sym same_groups)
        (subst (λ (y : Entry). IsCounted (groups_in first) q y) before.2 (record { groups = record { below = old.groups.below; right_below = old.groups.right_below }; passing = old.passing }))

    counts_seen : (b : Bool) (w : Option Entry) → option_map populated_by_of (option_map (with_populated_by comes b) w) ≡ option_map (counted_if comes b) (option_map populated_by_of w)
    counts_seen b None = refl
    counts_seen b (Some x) = refl

    held_counted : (q : Path) → get (held_in last) q ≡ option_map (counted_if comes (on q)) (get (held_in first) q)
    held_counted q =
        get-seen populated_by_of last q
        ∙ ap (option_map populated_by_of) (changed q)
        ∙ counts_seen (on q) (get first q)
        ∙ ap (option_map (counted_if comes (on q))) (sym (get-seen populated_by_of first q))

  -- the last one did not turn
  abbrev pub HasStopped : Bool → Type 0
  HasStopped comes = is_root r ≡ false → (e : Entry) → get first r ≡ Some e → counted comes e.populated_by ≢ turning comes

  more_up : AreChanged true on first last → HaveTurned true p r first → HasStopped true → IsOneMoreUp p (held_in first) (held_in last)
  more_up changed turned stopped = record {
    last = r;
    begins = begins;
    counts = held_counted true changed;
    none_before = λ q n above down h.
        let w = found_there first q n h in
        let it : w.0.populated_by + 1 ≡ 1 = turned q w.0 above down w.1 in
        omega (arith, it, w.2);
    some_before = λ n deep h.
        let w = found_there first r n h in
        let ne : w.0.populated_by + 1 ≢ 1 = stopped deep w.0 w.1 in
        above_none n (λ z. ne (omega (arith, w.2, z)));
  }

  less_up : HasRoom false p first → AreChanged false on first last → HaveTurned false p r first → HasStopped false → IsOneMoreUp p (held_in last) (held_in first)
  less_up room changed turned stopped = record {
    last = r;
    begins = begins;
    counts = λ q. back (on q) (get (held_in first) q) (λ n here h. room q n (and_parts (is_prefix r q) (is_prefix q p) here).1 h) ∙ ap (option_map (counted_if true (on q))) (sym (held_counted false changed q));
    none_before = λ q n above down h.
        let w = from_mapped (counted_if false (on q)) (get (held_in first) q) n (sym (held_counted false changed q) ∙ h) in
        let e = found_there first q w.0 w.1 in
        let it : e.0.populated_by - 1 ≡ 0 = turned q e.0 above down e.1 in
        let here : w.0 - 1 ≡ n = ap (λ b. counted_if false b w.0) (sym (and_from _ _ (above_begins r q above) down)) ∙ w.2 in
        omega (arith, it, here, e.2);
    some_before = λ n deep h.
        let w = from_mapped (counted_if false (on r)) (get (held_in first) r) n (sym (held_counted false changed r) ∙ h) in
        let e = found_there first r w.0 w.1 in
        let ne : e.0.populated_by - 1 ≢ 0 = stopped deep e.0 e.1 in
        let here : w.0 - 1 ≡ n = ap (λ b. counted_if false b w.0) (sym (and_from _ _ (begins_itself r) begins)) ∙ w.2 in
        above_none n (λ z. ne (omega (arith, here, e.2, z)));
  }
    where
      back : (b : Bool) (w : Option ℕ) → ((n : ℕ) → b ≡ true → w ≡ Some n → 0 < n) → w ≡ option_map (counted_if true b) (option_map (counted_if false b) w)
      back true None room = refl
      back true (Some n) room = ap Some (let some = room n refl refl in omega (arith, some))
      back false None room = refl
      back false (Some n) room = refl

  pub counted_up : (comes : Bool) → HasRoom comes p first → AreChanged comes on first last → HaveTurned comes p r first → HasStopped comes → IsCountedUp comes p (held_in first) (held_in last)
  counted_up true room changed turned stopped = more_up changed turned stopped
  counted_up false room changed turned stopped = less_up room changed turned stopped

-- ---- what is said of the node's parent

module _ (a : Nodes Entry) (at : NodeKey) (one : HaveOnePath a.keys) (key : IsKey a.keys at) (w : Option NodeKey)
    (root : (q : Path) → get a.keys q ≡ Some at → is_some w ≡ not (is_root q)) (value : (q : Path) → get a.keys q ≡ Some at → is_root q ≡ false → w ≡ get a.keys (parent_path q)) where
  start : HasClimbed (λ b e. e) a a (path_at a at) at
  start = not_climbed (λ b e. e) a at (λ e. refl) one key

  pub has_parent : (up : NodeKey) → w ≡ Some up → is_root (path_at a at) ≡ false
  has_parent up is = goes_on start w root value up is

  pub parent_is : (up : NodeKey) → w ≡ Some up → Some up ≡ get a.keys (parent_path (path_at a at))
  parent_is up is = goes_to start w root value up is

  pub is_top : w ≡ None → is_root (path_at a at) ≡ true
  is_top is = ends start w root value is
