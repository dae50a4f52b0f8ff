-- The entries of two maps, side by side, as a loop is given them.
use Rattle.std.proofs.Common.{◌≡◌, List, [], ◌∷◌, ◌++◌, map, refl, sym, ap, ap₂, ◌∙◌, Ordering, Less, Equal, Greater}
use Rattle.std.specs.BTreeMap.{BTreeMap, IsOrdered}
use Rattle.std.specs.Cmp.{IsTotalOrder}
use Rattle.std.specs.FinMap.{IsAntisymmetric}
use Rattle.std.specs.Iterator.Runs.{SomeRun, EachRunFrom}
use Rattle.std.specs.List.{flat_map}
use Rattle.std.specs.Map.Iter.{TakesFirst, deref_pair}
use Rattle.std.proofs.lemmas.Iterator.{YieldsList}
use Rattle.std.proofs.lemmas.Iterator.Consumers.{YieldsList-from_rest}
use Rattle.itertools.specs.Adaptor.{GivesFrontOfBoth}
use Rattle.itertools.specs.List.{by_ordering, merge_join_by}
use Rattle.itertools.specs.declared.either_or_both.EitherOrBoth.{EitherOrBoth}
use Rattle.itertools.specs.declared.either_or_both.EitherOrBoth.TheVariants.{Both, Left, Right}
use Rattle.itertools.proofs.AdaptorLemmas.{ref_to}
use Rattle.itertools.proofs.TwoLemmas.{YieldsList-from_front_of_both}
use Rattle.cg_maps.specs.FiniteMap.{FiniteMap, entries, from_entries, get}
use Rattle.cg_maps.proofs.TreeMaps.{entries-view}
use Rattle.cg_diff.specs.Difference.{keys_of_either}
use Rattle.cg_diff.specs.Sides.{Entry}
use Rattle.cg_diff.proofs.Merged.{Side, Telling, entry_of, merged, told_of, told_sides}

module _ {K X : Type 0} where
  -- what the references show
  abbrev pub shown : EitherOrBoth (Entry K X) (Entry K X) → Side K X
  shown (Left e) = Left (deref_pair e)
  shown (Right e) = Right (deref_pair e)
  shown (Both e f) = Both (deref_pair e) (deref_pair f)

  -- what is told of the sides that were passed is what is told of their entries
  pub all_told : {A : Type 0} (tell : EitherOrBoth (Entry K X) (Entry K X) → List A) (told : Telling K X A) → ((s : EitherOrBoth (Entry K X) (Entry K X)) → tell s ≡ told_of told (entry_of (shown s)))
      → (ss : List (EitherOrBoth (Entry K X) (Entry K X))) → flat_map tell ss ≡ flat_map (λ s. told_of told (entry_of s)) (map shown ss)
  all_told tell told same [] = refl
  all_told tell told same (s ∷ ss) = ap₂ (λ xs ys. xs ++ ys) (same s) (all_told tell told same ss)

  module _ (R : K → K → Ordering) where
    -- as the code compares two entries
    abbrev pub by_keys : Entry K X → Entry K X → Ordering
    by_keys e f = R e.0.now f.0.now

    shown_left : (us : List (Entry K X)) → map shown (map (λ u. Left u) us) ≡ map (λ e. Left e) (map deref_pair us)
    shown_left [] = refl
    shown_left (u ∷ us) = ap (λ ss. Left (deref_pair u) ∷ ss) (shown_left us)

    shown_right : (vs : List (Entry K X)) → map shown (map (λ v. Right v) vs) ≡ map (λ e. Right e) (map deref_pair vs)
    shown_right [] = refl
    shown_right (v ∷ vs) = ap (λ ss. Right (deref_pair v) ∷ ss) (shown_right vs)

    abbrev Natural : List (Entry K X) → List (Entry K X) → Type 0
    Natural us vs = map shown (merge_join_by by_keys us vs) ≡ merged R (map deref_pair us) (map deref_pair vs)

    natural_at : (u : Entry K X) (us : List (Entry K X)) → ((vs : List (Entry K X)) → Natural us vs) → (vs : List (Entry K X)) → Natural (u ∷ us) vs
    natural_at u us after [] = ap (λ ss. Left (deref_pair u) ∷ ss) (shown_left us)
    natural_at u us after (v ∷ vs) =
        let e = deref_pair u in
        let f = deref_pair v in
        let es = map deref_pair us in
        let fs = map deref_pair vs in
        elim (R u.0.now v.0.now) as (λ r. map shown (by_ordering r (Left u ∷ merge_join_by by_keys us (v ∷ vs)) (Both u v ∷ merge_join_by by_keys us vs) (Right v ∷ merge_join_by by_keys (u ∷ us) vs))
        ≡ by_ordering r (Left e ∷ merged R es (f ∷ fs)) (Both e f ∷ merged R es fs) (Right f ∷ merged R (e ∷ es) fs)) [
          | Less ↦ ap (λ ss. Left e ∷ ss) (after (v ∷ vs))
          | Equal ↦ ap (λ ss. Both e f ∷ ss) (after vs)
          | Greater ↦ ap (λ ss. Right f ∷ ss) (natural_at u us after vs)
        ]

    natural : (us vs : List (Entry K X)) → Natural us vs
    natural [] vs = shown_right vs
    natural (u ∷ us) vs = natural_at u us (natural us) vs

    -- an adaptor that merges the entries of two maps gives them side by side
    pub yields_sides : {U : Type 0} {steps : U → _ → U → Type 0} {s : U} {x y : List (K × X)} (es fs : List (K × X))
        → EachRunFrom steps s (λ p. SomeRun (TakesFirst deref_pair) x (λ a. SomeRun (TakesFirst deref_pair) y (λ b. GivesFrontOfBoth p a b (merge_join_by by_keys))))
        → x ≡ es → y ≡ fs → YieldsList steps shown s (merged R es fs)
    yields_sides es fs runs e f =
        YieldsList-from_front_of_both shown (merge_join_by by_keys) (merged R) (λ d. (ref_to d.0, ref_to d.1)) (λ d. (ref_to d.0, ref_to d.1)) (λ _. refl) (λ _. refl) natural runs
        (YieldsList-from_rest es e) (YieldsList-from_rest fs f)

module _ {K X A : Type 0} {R : K → K → Ordering} (o : IsTotalOrder R) (same : IsAntisymmetric R) where
  -- what is told of all sides of two maps is what is told of the keys of either
  pub told_of_keys : (tell : EitherOrBoth (Entry K X) (Entry K X) → List A) (told : Telling K X A) → ((s : EitherOrBoth (Entry K X) (Entry K X)) → tell s ≡ told_of told (entry_of (shown s)))
      → (m n : FiniteMap R X) (t u : BTreeMap K X) → from_entries R t.entries ≡ m → from_entries R u.entries ≡ n → IsOrdered R t → IsOrdered R u
      → (ss : List (EitherOrBoth (Entry K X) (Entry K X))) → map shown ss ≡ merged R t.entries u.entries
      → flat_map tell ss ≡ flat_map (λ k. told k (get m k) (get n k)) (keys_of_either m n)
  told_of_keys tell told alike m n t u e f h k ss passed =
      let first : entries m ≡ t.entries = ap entries (sym e) ∙ entries-view o same t h in
      let second : entries n ≡ u.entries = ap entries (sym f) ∙ entries-view o same u k in
      all_told tell told alike ss
      ∙ ap (flat_map (λ s. told_of told (entry_of s))) (passed ∙ ap₂ (merged R) (sym first) (sym second))
      ∙ told_sides o same told m n
