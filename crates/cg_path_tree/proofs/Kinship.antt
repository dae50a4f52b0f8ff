-- Parents' lists and their children's places, as nodes come and go.
use Rattle.std.proofs.Common.{◌≡◌, ◌≢◌, ◌⊎◌, ℕ, suc, ◌<◌, List, [], ◌∷◌, ◌++◌, length, cond, Option, None, Some, refl, sym, ap, subst, ◌∙◌, inl, inr, arith, length-append}
use Rattle.std.specs.List.{slice_get, swap_remove}
use Rattle.std.specs.FinMap.Entries.{find}
use Rattle.std.proofs.lemmas.Bool.{cases_eq}
use Rattle.std.proofs.lemmas.Option.{slice_get_within}
use Rattle.cg_name.specs.Path.{Path, path_cmp}
use Rattle.cg_path_tree.specs.declared.node.NodeKey.{NodeKey}
use Rattle.cg_path_tree.specs.Linked.{Kin, IsChildAt, AreKin}
use Rattle.cg_path_tree.proofs.ListChanges.{same_some, some_not_none, at_push, at_end, pushed_cases, LosesAt, loses-swap_remove, left_cases}
use Rattle.cg_path_tree.proofs.Finding.{itself, differs, find-push}
use Rattle.cg_path_tree.proofs.Linking.{cases_key}

module _ (es : List (Path × NodeKey)) (kin : NodeKey → Option Kin) (t : AreKin es kin) where
  -- a child is not its parent
  pub not_itself : (k c : NodeKey) (n : Kin) (j : ℕ) → kin k ≡ Some n → slice_get n.children j ≡ Some c → c ≢ k
  not_itself k c n j h at same =
      let x = t.child k c n j h at in
      let own : n.depth ≡ x.own.depth = ap (λ (y : Kin). y.depth) (same_some n x.own (sym h ∙ ap kin (sym same) ∙ x.there)) in
      absurd (omega (arith, own, x.depth))

  -- none stands twice, nor in two lists
  pub one_place : (k c : NodeKey) (n : Kin) (i j : ℕ) → kin k ≡ Some n → slice_get n.children i ≡ Some c → slice_get n.children j ≡ Some c → i ≡ j
  one_place k c n i j h a b =
      let x = t.child k c n i h a in
      let y = t.child k c n j h b in
      sym x.place ∙ ap (λ (z : Kin). z.place) (same_some x.own y.own (sym x.there ∙ y.there)) ∙ y.place

  pub one_parent : (k l c : NodeKey) (n m : Kin) (i j : ℕ) → kin k ≡ Some n → slice_get n.children i ≡ Some c → kin l ≡ Some m → slice_get m.children j ≡ Some c → k ≡ l
  one_parent k l c n m i j h a g b =
      let x = t.child k c n i h a in
      let y = t.child l c m j g b in
      sym x.parent ∙ ap (λ (z : Kin). z.parent) (same_some x.own y.own (sym x.there ∙ y.there)) ∙ y.parent

  -- ---- a node comes in

  module _ (later : NodeKey → Option Kin) (p : Path) (k : NodeKey) (a : Kin) (vacant : kin k ≡ None) (absent : find path_cmp p es ≡ None) (childless : a.children ≡ []) (put : later k ≡ Some a) where
    not_new : (i : NodeKey) (n : Kin) → kin i ≡ Some n → i ≢ k
    not_new i n h same = some_not_none n (kin k) (ap kin (sym same) ∙ h) vacant

    owned_pushed : (i : NodeKey) → (i ≢ k → (n : Kin) × (kin i ≡ Some n)) → (q : Path) × (find path_cmp q (es ++ (p, k) ∷ []) ≡ Some i)
    owned_pushed i was = elim (cases_key i k) [
      | inl new ↦ (p, find-push es p k absent p ∙ ap (λ b. cond b (Some k) (find path_cmp p es)) (itself p) ∙ ap Some (sym new))
      | inr old ↦
          let before = was old in
          let own = t.owned i before.0 before.1 in
          let ne : own.0 ≢ p = λ same. some_not_none i (find path_cmp p es) (ap (λ q. find path_cmp q es) (sym same) ∙ own.1) absent in
          (own.0, find-push es p k absent own.0 ∙ ap (λ b. cond b (Some k) (find path_cmp own.0 es)) (differs own.0 p ne) ∙ own.1)
    ]

    no_child_yet : (n : Kin) (j : ℕ) (c : NodeKey) → a ≡ n → slice_get n.children j ≡ Some c → ⊥
    no_child_yet n j c own at = some_not_none c (slice_get n.children j) at (ap (λ (x : Kin). slice_get x.children j) (sym own) ∙ ap (λ xs. slice_get xs j) childless)

    -- the root
    module _ (same : (i : NodeKey) → i ≢ k → later i ≡ kin i) (depth : a.depth ≡ 0) where
      was_root : (i : NodeKey) (n : Kin) → later i ≡ Some n → i ≢ k → kin i ≡ Some n
      was_root i n h ne = sym (same i ne) ∙ h

      child_root : (i c : NodeKey) (n : Kin) (j : ℕ) → later i ≡ Some n → slice_get n.children j ≡ Some c → IsChildAt later i n.depth j c
      child_root i c n j h at = elim (cases_key i k) [
        | inl new ↦ absurd (no_child_yet n j c (same_some a n (sym put ∙ ap later (sym new) ∙ h)) at)
        | inr old ↦
            let x = t.child i c n j (was_root i n h old) at in
            record { own = x.own; there = same c (not_new c x.own x.there) ∙ x.there; depth = x.depth; parent = x.parent; place = x.place }
      ]

      listed_root : (c : NodeKey) (m : Kin) → later c ≡ Some m → m.depth ≢ 0 → (n : Kin) × (later m.parent ≡ Some n) × (slice_get n.children m.place ≡ Some c)
      listed_root c m h deep = elim (cases_key c k) [
        | inl new ↦ absurd (deep (ap (λ (x : Kin). x.depth) (sym (same_some a m (sym put ∙ ap later (sym new) ∙ h))) ∙ depth))
        | inr old ↦
            let y = t.listed c m (was_root c m h old) deep in
            (y.0, same m.parent (not_new m.parent y.0 y.1) ∙ y.1, y.2)
      ]

      fits_root : (i : NodeKey) (n : Kin) → later i ≡ Some n → length n.children < 4294967296
      fits_root i n h = elim (cases_key i k) [
        | inl new ↦ omega (arith, ap (λ (x : Kin). length x.children) (same_some a n (sym put ∙ ap later (sym new) ∙ h)), ap length childless)
        | inr old ↦ t.fits i n (was_root i n h old)
      ]

      pub kin-root : AreKin (es ++ (p, k) ∷ []) later
      kin-root = record {
        owned = λ i n h. owned_pushed i (λ old. (n, was_root i n h old));
        child = child_root;
        listed = listed_root;
        fits = fits_root;
      }

    -- below another
    module _ (kp : NodeKey) (b : Kin) (there : kin kp ≡ Some b) (grown : later kp ≡ Some (record b { children = b.children ++ k ∷ [] })) (others : (i : NodeKey) → i ≢ k → i ≢ kp → later i ≡ kin i)
        (parent : a.parent ≡ kp) (depth : a.depth ≡ suc b.depth) (place : a.place ≡ length b.children) (room : length b.children < 4294967295) where
      abbrev grown_kin : Kin
      grown_kin = record b { children = b.children ++ k ∷ [] }

      was : (i : NodeKey) (n : Kin) → later i ≡ Some n → i ≢ k → (m : Kin) × (kin i ≡ Some m)
      was i n h ne = elim (cases_key i kp) [
        | inl is ↦ (b, ap kin is ∙ there)
        | inr other ↦ (n, sym (others i ne other) ∙ h)
      ]

      -- who stood somewhere stands there
      still : (i : NodeKey) (d j : ℕ) (c : NodeKey) → IsChildAt kin i d j c → IsChildAt later i d j c
      still i d j c x = elim (cases_key c kp) [
        | inl is ↦
            let own : b ≡ x.own = same_some b x.own (sym there ∙ ap kin (sym is) ∙ x.there) in
            record {
              own = grown_kin;
              there = ap later is ∙ grown;
              depth = ap (λ (y : Kin). y.depth) own ∙ x.depth;
              parent = ap (λ (y : Kin). y.parent) own ∙ x.parent;
              place = ap (λ (y : Kin). y.place) own ∙ x.place;
            }
        | inr other ↦ record { own = x.own; there = others c (not_new c x.own x.there) other ∙ x.there; depth = x.depth; parent = x.parent; place = x.place }
      ]

      child_below : (i c : NodeKey) (n : Kin) (j : ℕ) → later i ≡ Some n → slice_get n.children j ≡ Some c → IsChildAt later i n.depth j c
      child_below i c n j h at = elim (cases_key i k) [
        | inl new ↦ absurd (no_child_yet n j c (same_some a n (sym put ∙ ap later (sym new) ∙ h)) at)
        | inr old ↦ elim (cases_key i kp) [
          | inl is ↦
              let own : grown_kin ≡ n = same_some grown_kin n (sym grown ∙ ap later (sym is) ∙ h) in
              let deep : b.depth ≡ n.depth = ap (λ (y : Kin). y.depth) own in
              elim (pushed_cases b.children k j c (ap (λ (y : Kin). slice_get y.children j) own ∙ at)) [
                | inl before ↦ subst (λ x. IsChildAt later x n.depth j c) (sym is) (subst (λ d. IsChildAt later kp d j c) deep (still kp b.depth j c (t.child kp c b j there before)))
                | inr last ↦ record { own = a; there = ap later (sym last.1) ∙ put; depth = depth ∙ ap suc deep; parent = parent ∙ sym is; place = place ∙ sym last.0 }
              ]
          | inr other ↦ still i n.depth j c (t.child i c n j (sym (others i old other) ∙ h) at)
        ]
      ]

      -- who was listed is listed
      lists : (i c : NodeKey) (n : Kin) (j : ℕ) → kin i ≡ Some n → slice_get n.children j ≡ Some c → (m : Kin) × (later i ≡ Some m) × (slice_get m.children j ≡ Some c)
      lists i c n j h at = elim (cases_key i kp) [
        | inl is ↦
            let own : n ≡ b = same_some n b (sym h ∙ ap kin is ∙ there) in
            (grown_kin, ap later is ∙ grown, at_push b.children k j c (ap (λ (y : Kin). slice_get y.children j) (sym own) ∙ at))
        | inr other ↦ (n, others i (not_new i n h) other ∙ h, at)
      ]

      listed_below : (c : NodeKey) (m : Kin) → later c ≡ Some m → m.depth ≢ 0 → (n : Kin) × (later m.parent ≡ Some n) × (slice_get n.children m.place ≡ Some c)
      listed_below c m h deep = elim (cases_key c k) [
        | inl new ↦
            let own : m ≡ a = same_some m a (sym h ∙ ap later new ∙ put) in (
              grown_kin,
              ap (λ (y : Kin). later y.parent) own ∙ ap later parent ∙ grown,
              ap (λ (y : Kin). slice_get (b.children ++ k ∷ []) y.place) own ∙ ap (slice_get (b.children ++ k ∷ [])) place ∙ at_end b.children k ∙ ap Some (sym new),
            )
        | inr old ↦ elim (cases_key c kp) [
          | inl is ↦
              let own : grown_kin ≡ m = same_some grown_kin m (sym grown ∙ ap later (sym is) ∙ h) in
              let y = t.listed kp b there (λ none. deep (ap (λ (z : Kin). z.depth) (sym own) ∙ none)) in
              let z = lists b.parent kp y.0 b.place y.1 y.2 in
              (z.0, ap (λ (x : Kin). later x.parent) (sym own) ∙ z.1, ap (λ (x : Kin). slice_get z.0.children x.place) (sym own) ∙ z.2 ∙ ap Some (sym is))
          | inr other ↦
              let y = t.listed c m (sym (others c old other) ∙ h) deep in
              lists m.parent c y.0 m.place y.1 y.2
        ]
      ]

      fits_below : (i : NodeKey) (n : Kin) → later i ≡ Some n → length n.children < 4294967296
      fits_below i n h = elim (cases_key i k) [
        | inl new ↦ omega (arith, ap (λ (x : Kin). length x.children) (same_some a n (sym put ∙ ap later (sym new) ∙ h)), ap length childless)
        | inr old ↦ elim (cases_key i kp) [
          | inl is ↦ omega (arith, ap (λ (x : Kin). length x.children) (same_some grown_kin n (sym grown ∙ ap later (sym is) ∙ h)), length-append b.children (k ∷ []))
          | inr other ↦ t.fits i n (sym (others i old other) ∙ h)
        ]
      ]

      pub kin-below : AreKin (es ++ (p, k) ∷ []) later
      kin-below = record {
        owned = λ i n h. owned_pushed i (was i n h);
        child = child_below;
        listed = listed_below;
        fits = fits_below;
      }

  -- ---- a node goes

  module _ (fs : List (Path × NodeKey)) (later : NodeKey → Option Kin) (p : Path) (k : NodeKey) (a : Kin) (here : kin k ≡ Some a) (childless : a.children ≡ []) (gone : later k ≡ None)
      (own_path : find path_cmp p es ≡ Some k) (left : (q : Path) (i : NodeKey) → q ≢ p → find path_cmp q es ≡ Some i → find path_cmp q fs ≡ Some i) where
    not_gone : (i : NodeKey) (n : Kin) → later i ≡ Some n → i ≢ k
    not_gone i n h same = some_not_none n (later k) (ap later (sym same) ∙ h) gone

    owned_left : (i : NodeKey) (n : Kin) → i ≢ k → kin i ≡ Some n → (q : Path) × (find path_cmp q fs ≡ Some i)
    owned_left i n ne h =
        let own = t.owned i n h in
        (own.0, left own.0 i (λ same. ne (same_some i k (sym own.1 ∙ ap (λ q. find path_cmp q es) same ∙ own_path))) own.1)

    -- the node that goes has no child
    not_parent : (i c : NodeKey) (n : Kin) (j : ℕ) → kin i ≡ Some n → slice_get n.children j ≡ Some c → i ≢ k
    not_parent i c n j h at same =
        let own : n ≡ a = same_some n a (sym h ∙ ap kin same ∙ here) in
        some_not_none c (slice_get n.children j) at (ap (λ (x : Kin). slice_get x.children j) own ∙ ap (λ xs. slice_get xs j) childless)

    -- the root
    module _ (same : (i : NodeKey) → i ≢ k → later i ≡ kin i) (depth : a.depth ≡ 0) where
      was_there : (i : NodeKey) (n : Kin) → later i ≡ Some n → kin i ≡ Some n
      was_there i n h = sym (same i (not_gone i n h)) ∙ h

      pub kin-root_gone : AreKin fs later
      kin-root_gone = record {
        owned = λ i n h. owned_left i n (not_gone i n h) (was_there i n h);
        child = λ i c n j h at.
            let x = t.child i c n j (was_there i n h) at in
            let ne : c ≢ k = λ is. absurd (omega (arith, x.depth, depth, ap (λ (y : Kin). y.depth) (same_some x.own a (sym x.there ∙ ap kin is ∙ here)))) in
            record { own = x.own; there = same c ne ∙ x.there; depth = x.depth; parent = x.parent; place = x.place };
        listed = λ c m h deep.
            let y = t.listed c m (was_there c m h) deep in
            (y.0, same m.parent (not_parent m.parent c y.0 m.place y.1 y.2) ∙ y.1, y.2);
        fits = λ i n h. t.fits i n (was_there i n h);
      }

    -- below another
    module _ (kp : NodeKey) (b : Kin) (there : kin kp ≡ Some b) (is_parent : a.parent ≡ kp) (at_place : slice_get b.children a.place ≡ Some k) where
      abbrev pub ys : List NodeKey
      ys = swap_remove b.children a.place k

      loses : LosesAt b.children ys a.place
      loses = loses-swap_remove b.children a.place k at_place

      -- where one that is left stood
      pub stood : (j : ℕ) (c : NodeKey) → slice_get ys j ≡ Some c → (i : ℕ) × (i ≢ a.place) × (slice_get b.children i ≡ Some c)
      stood j c h = elim (left_cases b.children ys a.place loses j c h) [
        | inl x ↦ (length ys, (λ same. let low = x.1 in absurd (omega arith)), x.2)
        | inr x ↦ (j, x.0, x.2)
      ]

      pub left_is_other : (j : ℕ) (c : NodeKey) → slice_get ys j ≡ Some c → c ≢ k
      left_is_other j c h same =
          let x = stood j c h in
          x.1 (one_place kp k b x.0 a.place there (x.2 ∙ ap Some same) at_place)

      pub left_is_below : (j : ℕ) (c : NodeKey) → slice_get ys j ≡ Some c → c ≢ kp
      left_is_below j c h = let x = stood j c h in not_itself kp c b x.0 there x.2

      pub left_there : (j : ℕ) (c : NodeKey) → slice_get ys j ≡ Some c → (m : Kin) × (kin c ≡ Some m)
      left_there j c h = let x = stood j c h in let y = t.child kp c b x.0 there x.2 in (y.own, y.there)

      module _ (took : later kp ≡ Some (record b { children = ys })) (moved : (d : NodeKey) (m : Kin) → d ≢ k → slice_get ys a.place ≡ Some d → kin d ≡ Some m → later d ≡ Some (record m { place = a.place }))
          (others : (i : NodeKey) → i ≢ k → i ≢ kp → slice_get ys a.place ≢ Some i → later i ≡ kin i) where
        abbrev short_kin : Kin
        short_kin = record b { children = ys }

        -- whether a node is the one that moved
        is_moved : (i : NodeKey) → (slice_get ys a.place ≡ Some i) ⊎ (slice_get ys a.place ≢ Some i)
        is_moved i = by (slice_get ys a.place) refl
          where
            by : (o : Option NodeKey) → slice_get ys a.place ≡ o → (slice_get ys a.place ≡ Some i) ⊎ (slice_get ys a.place ≢ Some i)
            by None none = inr (λ some. some_not_none i (slice_get ys a.place) some none)
            by (Some d) some = elim (cases_key d i) [
              | inl same ↦ inl (some ∙ ap Some same)
              | inr ne ↦ inr (λ other. ne (same_some d i (sym some ∙ other)))
            ]

        -- what any other node but the parent is afterwards: the place may be another
        other_after : (i : NodeKey) (n : Kin) → i ≢ k → i ≢ kp → kin i ≡ Some n → (j : ℕ) × (later i ≡ Some (record n { place = j })) × (slice_get ys a.place ≢ Some i → j ≡ n.place) × (slice_get ys a.place ≡ Some i → j ≡ a.place)
        other_after i n ne apart h = elim (is_moved i) [
          | inl is_so ↦ (a.place, moved i n ne is_so h, (λ no. absurd (no is_so)), λ _. refl)
          | inr isnt ↦ (n.place, others i ne apart isnt ∙ h, (λ _. refl), λ yes. absurd (isnt yes))
        ]

        -- what a node was before
        before : (i : NodeKey) (n : Kin) → later i ≡ Some n → i ≢ kp → (m : Kin) × (kin i ≡ Some m) × (n.parent ≡ m.parent) × (n.depth ≡ m.depth) × (n.children ≡ m.children) × (slice_get ys a.place ≢ Some i → n.place ≡ m.place) × (slice_get ys a.place ≡ Some i → n.place ≡ a.place)
        before i n h apart =
            let ne = not_gone i n h in
            elim (is_moved i) [
              | inl is_so ↦
                  let x = left_there a.place i is_so in
                  let own : n ≡ record x.0 { place = a.place } = same_some n (record x.0 { place = a.place }) (sym h ∙ moved i x.0 ne is_so x.1) in (
                    x.0,
                    x.1,
                    ap (λ (y : Kin). y.parent) own,
                    ap (λ (y : Kin). y.depth) own,
                    ap (λ (y : Kin). y.children) own,
                    (λ no. absurd (no is_so)),
                    λ _. ap (λ (y : Kin). y.place) own,
                  )
              | inr isnt ↦ (n, sym (others i ne apart isnt) ∙ h, refl, refl, refl, (λ _. refl), λ yes. absurd (isnt yes))
            ]

        -- a child of another node is where it was
        still_elsewhere : (i : NodeKey) (d j : ℕ) (c : NodeKey) → i ≢ kp → IsChildAt kin i d j c → IsChildAt later i d j c
        still_elsewhere i d j c apart x =
            let ne : c ≢ k = λ same. apart (sym x.parent ∙ ap (λ (y : Kin). y.parent) (same_some x.own a (sym x.there ∙ ap kin same ∙ here)) ∙ is_parent) in
            elim (cases_key c kp) [
              | inl is ↦
                  let own : b ≡ x.own = same_some b x.own (sym there ∙ ap kin (sym is) ∙ x.there) in
                  record {
                    own = short_kin;
                    there = ap later is ∙ took;
                    depth = ap (λ (y : Kin). y.depth) own ∙ x.depth;
                    parent = ap (λ (y : Kin). y.parent) own ∙ x.parent;
                    place = ap (λ (y : Kin). y.place) own ∙ x.place;
                  }
              | inr other ↦
                  let unmoved : slice_get ys a.place ≢ Some c = λ yes.
                  let s = stood a.place c yes in
                  let y = t.child kp c b s.0 there s.2 in
                  apart (sym x.parent ∙ ap (λ (z : Kin). z.parent) (same_some x.own y.own (sym x.there ∙ y.there)) ∙ y.parent) in
                  record { own = x.own; there = others c ne other unmoved ∙ x.there; depth = x.depth; parent = x.parent; place = x.place }
            ]

        -- a child that is left
        child_left : (j : ℕ) (c : NodeKey) → slice_get ys j ≡ Some c → IsChildAt later kp b.depth j c
        child_left j c h = elim (left_cases b.children ys a.place loses j c h) [
          | inl x ↦
              let y = t.child kp c b (length ys) there x.2 in
              let yes : slice_get ys a.place ≡ Some c = ap (slice_get ys) (sym x.0) ∙ h in
              record { own = record y.own { place = a.place }; there = moved c y.own (left_is_other j c h) yes y.there; depth = y.depth; parent = y.parent; place = sym x.0 }
          | inr x ↦
              let y = t.child kp c b j there x.2 in
              let no : slice_get ys a.place ≢ Some c = λ yes. elim (left_cases b.children ys a.place loses a.place c yes) [
                | inl z ↦ let same : j ≡ length ys = one_place kp c b j (length ys) there x.2 z.2 in let low = x.1 in absurd (omega arith)
                | inr z ↦ absurd (z.0 refl)
              ] in
              record { own = y.own; there = others c (left_is_other j c h) (left_is_below j c h) no ∙ y.there; depth = y.depth; parent = y.parent; place = y.place }
        ]

        child_after : (i c : NodeKey) (n : Kin) (j : ℕ) → later i ≡ Some n → slice_get n.children j ≡ Some c → IsChildAt later i n.depth j c
        child_after i c n j h at = elim (cases_key i kp) [
          | inl is ↦
              let own : short_kin ≡ n = same_some short_kin n (sym took ∙ ap later (sym is) ∙ h) in
              subst (λ x. IsChildAt later x n.depth j c) (sym is)
              (subst (λ d. IsChildAt later kp d j c) (ap (λ (y : Kin). y.depth) own) (child_left j c (ap (λ (y : Kin). slice_get y.children j) own ∙ at)))
          | inr apart ↦
              let x = before i n h apart in
              subst (λ d. IsChildAt later i d j c) (sym x.3)
              (still_elsewhere i x.0.depth j c apart (t.child i c x.0 j x.1 (ap (λ xs. slice_get xs j) (sym x.4) ∙ at)))
        ]

        -- who is left in a list
        lists_left : (i c : NodeKey) (n : Kin) (j : ℕ) → c ≢ k → kin i ≡ Some n → slice_get n.children j ≡ Some c
            → (m : Kin) × (later i ≡ Some m) × ((slice_get ys a.place ≢ Some c → slice_get m.children j ≡ Some c) × (slice_get ys a.place ≡ Some c → slice_get m.children a.place ≡ Some c))
        lists_left i c n j ne h at = elim (cases_key i kp) [
          | inl is ↦
              let own : n ≡ b = same_some n b (sym h ∙ ap kin is ∙ there) in
              let at' : slice_get b.children j ≡ Some c = ap (λ (y : Kin). slice_get y.children j) (sym own) ∙ at in
              let apart : j ≢ a.place = λ same. ne (same_some c k (sym at' ∙ ap (slice_get b.children) same ∙ at_place)) in
              let within : j < length b.children = slice_get_within b.children j c at' in (
                short_kin,
                ap later is ∙ took,
                (
                  (λ no. elim (cases_eq j (length ys)) [
                    | inl last ↦
                        let low : a.place < length ys = omega (arith, loses.within) in
                        absurd (no (loses.moved low ∙ ap (slice_get b.children) (sym last) ∙ at'))
                    | inr kept ↦ loses.kept j (omega (arith, loses.len)) apart ∙ at'
                  ]),
                  λ yes. yes,
                ),
              )
          | inr apart ↦
              let unmoved : slice_get ys a.place ≢ Some c = λ yes. let s = stood a.place c yes in apart (one_parent i kp c n b j s.0 h at there s.2) in
              let x = other_after i n (not_parent i c n j h at) apart h in
              (record n { place = x.0 }, x.1, ((λ no. at), λ yes. absurd (unmoved yes)))
        ]

        listed_after : (c : NodeKey) (m : Kin) → later c ≡ Some m → m.depth ≢ 0 → (n : Kin) × (later m.parent ≡ Some n) × (slice_get n.children m.place ≡ Some c)
        listed_after c m h deep = elim (cases_key c kp) [
          | inl is ↦
              let own : short_kin ≡ m = same_some short_kin m (sym took ∙ ap later (sym is) ∙ h) in
              let y = t.listed kp b there (λ none. deep (ap (λ (z : Kin). z.depth) (sym own) ∙ none)) in
              let z = lists_left b.parent kp y.0 b.place (λ same. not_gone c m h (is ∙ same)) y.1 y.2 in
              let no : slice_get ys a.place ≢ Some kp = λ yes. left_is_below a.place kp yes refl in
              (z.0, ap (λ (x : Kin). later x.parent) (sym own) ∙ z.1, ap (λ (x : Kin). slice_get z.0.children x.place) (sym own) ∙ z.2.0 no ∙ ap Some (sym is))
          | inr apart ↦
              let x = before c m h apart in
              let y = t.listed c x.0 x.1 (λ none. deep (x.3 ∙ none)) in
              let z = lists_left x.0.parent c y.0 x.0.place (not_gone c m h) y.1 y.2 in (
                z.0,
                ap later x.2 ∙ z.1,
                (elim (is_moved c) [
                  | inl is_so ↦ ap (slice_get z.0.children) (x.6 is_so) ∙ z.2.1 is_so
                  | inr isnt ↦ ap (slice_get z.0.children) (x.5 isnt) ∙ z.2.0 isnt
                ]),
              )
        ]

        fits_after : (i : NodeKey) (n : Kin) → later i ≡ Some n → length n.children < 4294967296
        fits_after i n h = elim (cases_key i kp) [
          | inl is ↦ omega (arith, ap (λ (x : Kin). length x.children) (same_some short_kin n (sym took ∙ ap later (sym is) ∙ h)), loses.len, t.fits kp b there)
          | inr apart ↦ let x = before i n h apart in omega (arith, ap length x.4, t.fits i x.0 x.1)
        ]

        owned_after : (i : NodeKey) (n : Kin) → later i ≡ Some n → (q : Path) × (find path_cmp q fs ≡ Some i)
        owned_after i n h = elim (cases_key i kp) [
          | inl is ↦ owned_left i b (not_gone i n h) (ap kin is ∙ there)
          | inr apart ↦ let x = before i n h apart in owned_left i x.0 (not_gone i n h) x.1
        ]

        pub kin-gone : AreKin fs later
        kin-gone = record { owned = owned_after; child = child_after; listed = listed_after; fits = fits_after }
