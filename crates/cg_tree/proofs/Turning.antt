-- A process comes or goes: from its path upward the counts change as long as a path turns populated or back.
use Rattle.std.proofs.Common.{◌≡◌, ◌≢◌, ◌+◌, ◌<◌, ◌≤◌, ◌^◌, ◌&&◌, ℕ, zero, suc, Bool, true, false, ◌∷◌, [], length, Some, None, option_map, is_some, inl, inr, refl, sym, ap, subst, ◌∙◌, arith, true≢false}
use Rattle.std.proofs.lemmas.List.{length-append}
use Rattle.std.specs.Ordering.{nat_cmp}
use Rattle.cg_maps.specs.FiniteMap.{FiniteMap, get, len, set_at}
use Rattle.cg_maps.proofs.Maps.{cases}
use Rattle.cg_name.specs.Order.{path_cmp_total, path_cmp_exact}
use Rattle.cg_name.specs.Path.{Path, path_cmp, is_above, is_parent, is_prefix, is_root}
use Rattle.cg_name.proofs.Packing.{prefix_rest}
use Rattle.cg_model.specs.Derived.{is_in_subtree}
use Rattle.cg_tree.specs.Contents.{counted_at, own_count, populated, process_count, AreHeld}
use Rattle.cg_tree.specs.CountedUp.{IsOneMoreUp}
use Rattle.cg_tree.specs.Entries.{counted_if, CanCount}
use Rattle.cg_tree.proofs.Climbing.{some_of}
use Rattle.cg_tree.proofs.Counts.{few_pass, passing_alike}
use Rattle.cg_tree.proofs.Populated.{HaveCounts, counts_above, few_counted, is_told, never_less, one_more, one_more_above, one_more_there, once, same_above, same_elsewhere}
use Rattle.cg_tree.proofs.Putting.{above_begins, from_mapped}
use Rattle.cg_tree.proofs.Seeing.{is_some-part}
use Rattle.cg_tree.proofs.Steps.{above_child_of, begins_by_above, begins_itself, longer_next, next, next_begins, next_child, next_on_way, shorter_above}

zero_if : (n : ℕ) → (0 < n → ⊥) → n ≡ 0
zero_if zero h = refl
zero_if (suc n) h = absurd (h (omega arith))

-- what is counted at a path, by another map that has the same paths
told_alike : (a b : FiniteMap path_cmp ℕ) → ((q : Path) → is_some (get a q) ≡ is_some (get b q)) → (places : FiniteMap nat_cmp Path) (p : Path) → counted_at a places p ≡ counted_at b places p
told_alike a b same places p = ap (λ n. own_count places p + n) (passing_alike path_cmp_total path_cmp_exact a b same (λ q. is_parent p q && populated places q))

counted_once : (b : Bool) (n : ℕ) → counted_if true b n ≡ n + once b
counted_once true n = refl
counted_once false n = omega arith

no_root : (s q : Path) → is_prefix s q ≡ false → is_root s ≡ false
no_root [] q e = absurd (true≢false e)
no_root (k ∷ s) q e = refl

pub same_paths : (p : Path) (low high : FiniteMap path_cmp ℕ) → IsOneMoreUp p low high → (q : Path) → is_some (get low q) ≡ is_some (get high q)
same_paths p low high up q = sym (ap is_some (up.counts q) ∙ is_some-part (counted_if true (is_prefix up.last q && is_prefix q p)) (get low q))

module _ (less : FiniteMap nat_cmp Path) (pid : ℕ) (p : Path) (absent : get less pid ≡ None) where
  abbrev more : FiniteMap nat_cmp Path
  more = set_at less pid (Some p)

  counts_there : (q : Path) → is_prefix q p ≡ true → 0 < process_count more q
  counts_there q begins =
      let all : process_count more q ≡ process_count less q + once (is_prefix q p) = one_more less pid p absent q in
      let it : once (is_prefix q p) ≡ 1 = ap once begins in
      omega (arith, all, it)

  -- ---- there is room for one more, and for one less

  pub room_to_come : (held : FiniteMap path_cmp ℕ) → AreHeld held less → (most : ℕ) → len more ≡ most → most < 2 ^ 32 → (q : Path) (n : ℕ) → is_prefix q p ≡ true → get held q ≡ Some n → CanCount true n
  room_to_come held counts most many fits q n begins h =
      let is : n ≡ counted_at held less q = counts q n h in
      let few = few_counted held q less in
      let all : process_count more q ≡ process_count less q + once (is_prefix q p) = one_more less pid p absent q in
      let it : once (is_prefix q p) ≡ 1 = ap once begins in
      let some : process_count more q ≤ len more = few_pass more (λ k. is_in_subtree q (get more k)) in
      omega (arith, is, few, all, it, some, many, fits)

  pub room_to_go : (held : FiniteMap path_cmp ℕ) → HaveCounts held more → AreHeld held more → (q : Path) (n : ℕ) → is_prefix q p ≡ true → get held q ≡ Some n → CanCount false n
  room_to_go held there counts q n begins h =
      let is : n ≡ counted_at held more q = counts q n h in
      let told = is_told held more there q (counts_there q begins) in
      omega (arith, is, told)

  -- ---- how all counts change

  module _ (low high : FiniteMap path_cmp ℕ) (up : IsOneMoreUp p low high) (there : HaveCounts low more) where
    abbrev on : Path → Bool
    on q = is_prefix up.last q && is_prefix q p

    there_less : HaveCounts low less
    there_less q some = let all : process_count less q ≤ process_count more q = never_less less pid p absent q in there q (omega (arith, all, some))

    on_way : (q : Path) → is_prefix q p ≡ true → (n : ℕ) × (get low q ≡ Some n)
    on_way q begins = some_of (get low q) (there q (counts_there q begins))

    next_there : (q : Path) → is_some (get low (next q p)) ≡ true
    next_there q = there (next q p) (counts_there (next q p) (next_begins q p))

    module _ (none : (c : Path) → is_above up.last c ≡ true → is_prefix c p ≡ true → process_count less c ≡ 0) (some : is_root up.last ≡ false → 0 < process_count less up.last) where
      shift : (q : Path) → counted_at low more q ≡ counted_at low less q + once (on q)
      shift q = elim (cases path_cmp_total path_cmp_exact q p) [
        | inl own ↦ subst (λ x. counted_at low more x ≡ counted_at low less x + once (on x)) (sym own)
            (let all : counted_at low more p ≡ counted_at low less p + 1 = one_more_there less pid p absent low in let it : once (on p) ≡ 1 = (λ i. once (up.begins i && begins_itself p i)) in omega (arith, all, it))
        | inr ne ↦ by ne (is_prefix up.last q) (is_prefix q p) refl refl
      ]
        where
          by : q ≢ p → (a b : Bool) → is_prefix up.last q ≡ a → is_prefix q p ≡ b → counted_at low more q ≡ counted_at low less q + once (a && b)
          by ne true false f e = let same : counted_at low more q ≡ counted_at low less q = same_elsewhere less pid p absent low q e in omega (arith, same)
          by ne false false f e = let same : counted_at low more q ≡ counted_at low less q = same_elsewhere less pid p absent low q e in omega (arith, same)
          by ne true true f e =
              let above : is_above q p ≡ true = sym (begins_by_above q p ne) ∙ e in
              one_more_above less pid p absent low q above (none (next q p) (above_child_of up.last q (next q p) f (next_child q p above)) (next_begins q p)) (next_there q)
          by ne false true f e =
              let above : is_above q p ≡ true = sym (begins_by_above q p ne) ∙ e in
              let low_there = counts_above less (next q p) up.last (next_on_way q up.last p e up.begins f) (some (no_root up.last q f)) in
              let same : counted_at low more q ≡ counted_at low less q = same_above less pid p absent low q above low_there in
              omega (arith, same)

      comes : AreHeld low less → AreHeld high more
      comes counts q n h =
          let old = from_mapped (counted_if true (on q)) (get low q) n (sym (up.counts q) ∙ h) in
          let is : old.0 ≡ counted_at low less q = counts q old.0 old.1 in
          let all = shift q in
          let alike = told_alike low high (same_paths p low high up) more q in
          let it = counted_once (on q) old.0 in
          omega (arith, is, all, alike, it, old.2)

      goes : AreHeld high more → AreHeld low less
      goes counts q n h =
          let is : counted_if true (on q) n ≡ counted_at high more q = counts q (counted_if true (on q) n) (up.counts q ∙ ap (option_map (counted_if true (on q))) h) in
          let all = shift q in
          let alike = told_alike low high (same_paths p low high up) more q in
          let it = counted_once (on q) n in
          omega (arith, is, all, alike, it)

    -- ---- as told by the counts without it

    module _ (counts : AreHeld low less) where
      none_by_less : (c : Path) → is_above up.last c ≡ true → is_prefix c p ≡ true → process_count less c ≡ 0
      none_by_less c above begins =
          let w = on_way c begins in
          let zero_there : w.0 ≡ 0 = up.none_before c w.0 above begins w.1 in
          let is : w.0 ≡ counted_at low less c = counts c w.0 w.1 in
          zero_if (process_count less c) (λ l. let told = is_told low less there_less c l in omega (arith, zero_there, is, told))

      some_by_less : is_root up.last ≡ false → 0 < process_count less up.last
      some_by_less deep =
          let w = on_way up.last up.begins in
          let some = up.some_before w.0 deep w.1 in
          let is : w.0 ≡ counted_at low less up.last = counts up.last w.0 w.1 in
          let few = few_counted low up.last less in
          omega (arith, some, is, few)

      pub held_with_it : AreHeld high more
      held_with_it = comes none_by_less some_by_less counts

    -- ---- as told by the counts with it

    module _ (counts : AreHeld high more) where
      one_at : (c : Path) → is_prefix c p ≡ true → (is_above c p ≡ true → process_count less (next c p) ≡ 0) → counted_at low more c ≡ counted_at low less c + 1
      one_at c begins rest = elim (cases path_cmp_total path_cmp_exact c p) [
        | inl own ↦ subst (λ x. counted_at low more x ≡ counted_at low less x + 1) (sym own) (one_more_there less pid p absent low)
        | inr ne ↦ (let above : is_above c p ≡ true = sym (begins_by_above c p ne) ∙ begins in one_more_above less pid p absent low c above (rest above) (next_there c))
      ]

      told : (c : Path) → is_prefix up.last c ≡ true → is_prefix c p ≡ true → counted_at low more c ≡ counted_at low less c + 1 → (n : ℕ) → get low c ≡ Some n → n ≡ counted_at low less c
      told c from begins one n h =
          let is : counted_if true (on c) n ≡ counted_at high more c = counts c (counted_if true (on c) n) (up.counts c ∙ ap (option_map (counted_if true (on c))) h) in
          let alike = told_alike low high (same_paths p low high up) more c in
          let it : counted_if true (on c) n ≡ n + 1 = (λ i. counted_if true (from i && begins i) n) in
          omega (arith, one, is, alike, it)

      none_if : (c : Path) → is_above up.last c ≡ true → is_prefix c p ≡ true → (is_above c p ≡ true → process_count less (next c p) ≡ 0) → process_count less c ≡ 0
      none_if c above begins rest =
          let w = on_way c begins in
          let zero_there : w.0 ≡ 0 = up.none_before c w.0 above begins w.1 in
          let is = told c (above_begins up.last c above) begins (one_at c begins rest) w.0 w.1 in
          zero_if (process_count less c) (λ l. let more_there = is_told low less there_less c l in omega (arith, zero_there, is, more_there))

      -- from the path itself upward
      none_up : (k : ℕ) (c : Path) → length p ≡ k + length c → is_above up.last c ≡ true → is_prefix c p ≡ true → process_count less c ≡ 0
      none_up zero c long above begins = none_if c above begins (λ up_there. let short = shorter_above c p up_there in absurd (omega (arith, long, short)))
      none_up (suc k) c long above begins =
          none_if c above begins (λ up_there.
          let longer = longer_next c p up_there in
          none_up k (next c p) (omega (arith, long, longer)) (above_child_of up.last c (next c p) (above_begins up.last c above) (next_child c p up_there)) (next_begins c p))

      none_by_more : (c : Path) → is_above up.last c ≡ true → is_prefix c p ≡ true → process_count less c ≡ 0
      none_by_more c above begins = let rest = prefix_rest c p begins in none_up (length rest.0) c (omega (arith, ap length rest.1, length-append c rest.0)) above begins

      some_by_more : is_root up.last ≡ false → 0 < process_count less up.last
      some_by_more deep =
          let w = on_way up.last up.begins in
          let some = up.some_before w.0 deep w.1 in
          let one = one_at up.last up.begins (λ above. none_by_more (next up.last p) (above_child_of up.last up.last (next up.last p) (begins_itself up.last) (next_child up.last p above)) (next_begins up.last p)) in
          let is = told up.last (begins_itself up.last) up.begins one w.0 w.1 in
          let few = few_counted low up.last less in
          omega (arith, some, is, few)

      pub held_without_it : AreHeld low less
      held_without_it = goes none_by_more some_by_more counts
