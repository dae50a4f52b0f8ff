-- Parts of what the keys of a map hold, as the map is read and written.
use Rattle.std.proofs.Common.{◌≡◌, Bool, true, false, cond, List, [], ◌∷◌, Option, Some, None, option_map, is_some, length, suc, refl, sym, ap, ◌∙◌, Ordering}
use Rattle.std.specs.Ordering.{eq_by_cmp}
use Rattle.std.specs.Cmp.{IsTotalOrder}
use Rattle.std.specs.FinMap.{IsAntisymmetric}
use Rattle.std.specs.FinMap.Entries.{find}
use Rattle.cg_maps.specs.FiniteMap.{FiniteMap, get, set_at, empty, entries, len}
use Rattle.cg_maps.proofs.Maps.{same_map, set_same, get-set_at}
use Rattle.cg_name.specs.Order.{path_cmp_total, path_cmp_exact}
use Rattle.cg_name.specs.Path.{Path, path_cmp}
use Rattle.cg_tree.specs.Seen.{seen, seen_map}

part_cond : {X Y : Type 0} (part : X → Y) (b : Bool) (w x : Option X) → option_map part (cond b w x) ≡ cond b (option_map part w) (option_map part x)
part_cond part true w x = refl
part_cond part false w x = refl

pub is_some-part : {X Y : Type 0} (part : X → Y) (w : Option X) → is_some (option_map part w) ≡ is_some w
is_some-part part None = refl
is_some-part part (Some x) = refl

module _ {K X Y : Type 0} (part : X → Y) where
  length-seen : (es : List (K × X)) → length (seen part es) ≡ length es
  length-seen [] = refl
  length-seen (e ∷ es) = ap suc (length-seen es)

  find-seen : (R : K → K → Ordering) (q : K) (es : List (K × X)) → find R q (seen part es) ≡ option_map part (find R q es)
  find-seen R q [] = refl
  find-seen R q (e ∷ es) =
      let rest = find-seen R q es in
      elim (eq_by_cmp R q e.0) as (λ b. cond b (Some (part e.1)) (find R q (seen part es)) ≡ option_map part (cond b (Some e.1) (find R q es))) [
        | true ↦ refl
        | false ↦ rest
      ]

module _ {K X Y : Type 0} (part : X → Y) {R : K → K → Ordering} where
  pub seen-empty : seen_map part (empty {X = X} {R = R}) ≡ empty
  unfolding empty seen_map
  seen-empty = refl

  pub entries-seen : (m : FiniteMap R X) → entries (seen_map part m) ≡ seen part (entries m)
  unfolding entries seen_map
  entries-seen m = refl

  pub len-seen : (m : FiniteMap R X) → len (seen_map part m) ≡ len m
  unfolding len seen_map
  len-seen m = length-seen part m.list

  pub get-seen : (m : FiniteMap R X) (q : K) → get (seen_map part m) q ≡ option_map part (get m q)
  unfolding get seen_map
  get-seen m q = find-seen part R q m.list

  pub there-seen : (m : FiniteMap R X) (q : K) → is_some (get (seen_map part m) q) ≡ is_some (get m q)
  there-seen m q = ap is_some (get-seen m q) ∙ is_some-part part (get m q)

  pub seen-set : IsTotalOrder R → IsAntisymmetric R → (m : FiniteMap R X) (k : K) (w : Option X) → seen_map part (set_at m k w) ≡ set_at (seen_map part m) k (option_map part w)
  seen-set o same m k w = same_map o same _ _ (λ q.
      get-seen (set_at m k w) q
      ∙ ap (option_map part) (get-set_at o same m k w q)
      ∙ part_cond part (eq_by_cmp R q k) w (get m q)
      ∙ ap (cond (eq_by_cmp R q k) (option_map part w)) (sym (get-seen m q))
      ∙ sym (get-set_at o same (seen_map part m) k (option_map part w) q))

-- ---- what is read and written of a map with that part

module _ {X Y : Type 0} (part : X → Y) (m : FiniteMap path_cmp X) (n : FiniteMap path_cmp Y) (is : seen_map part m ≡ n) where
  pub got : (q : Path) (w : Option X) → w ≡ get m q → option_map part w ≡ get n q
  got q w h = ap (option_map part) h ∙ sym (get-seen part m q) ∙ ap (λ k. get k q) is

  pub there : (q : Path) → is_some (get m q) ≡ is_some (get n q)
  there q = sym (there-seen part m q) ∙ ap (λ k. is_some (get k q)) is

  pub set_so : (k : Path) (w : Option X) (l : FiniteMap path_cmp X) → l ≡ set_at m k w → seen_map part l ≡ set_at n k (option_map part w)
  set_so k w l h = ap (seen_map part) h ∙ seen-set part path_cmp_total path_cmp_exact m k w ∙ ap (λ j. set_at j k (option_map part w)) is

-- ---- what keeps that part

module _ {X Y : Type 0} (part : X → Y) where
  -- each value is changed, and keeps it
  pub same_seen : (new old : FiniteMap path_cmp X) (f : Path → X → X) → ((q : Path) (x : X) → part (f q x) ≡ part x) → ((q : Path) → get new q ≡ option_map (f q) (get old q)) → seen_map part new ≡ seen_map part old
  same_seen new old f alike is = same_map path_cmp_total path_cmp_exact (seen_map part new) (seen_map part old) (λ q.
      get-seen part new q
      ∙ ap (option_map part) (is q)
      ∙ by q (get old q)
      ∙ sym (get-seen part old q))
    where
      by : (q : Path) (w : Option X) → option_map part (option_map (f q) w) ≡ option_map part w
      by q None = refl
      by q (Some x) = ap Some (alike q x)

  -- one is written over one with the same
  pub seen_in_place : (m : FiniteMap path_cmp X) (p : Path) (e : X) → get m p ≡ Some e → (x : X) → part x ≡ part e → seen_map part (set_at m p (Some x)) ≡ seen_map part m
  seen_in_place m p e here x alike =
      seen-set part path_cmp_total path_cmp_exact m p (Some x)
      ∙ ap (set_at (seen_map part m) p) (ap Some alike ∙ sym (get-seen part m p ∙ ap (option_map part) here))
      ∙ set_same path_cmp_total path_cmp_exact (seen_map part m) p
