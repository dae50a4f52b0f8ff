-- Entries and maps with a part of what each key holds.
use Rattle.std.specs.Prelude.{◌≡◌, ◌&&◌, T, List, [], ◌∷◌}
use mathlib.Core.Path.{refl, sym, ap, subst}
use Rattle.std.specs.declared.cmp.Ordering.{Ordering}
use Rattle.std.specs.Ordering.{is_lt}
use Rattle.std.specs.FinMap.Entries.{is_sorted, below_all}
use Rattle.cg_maps.specs.FiniteMap.{FiniteMap}

module _ {K X Y : Type 0} (part : X → Y) where
  -- the entries with that part
  abbrev pub seen : List (K × X) → List (K × Y)
  seen [] = []
  seen (e ∷ es) = (e.0, part e.1) ∷ seen es

  below-seen : (R : K → K → Ordering) (k : K) (es : List (K × X)) → below_all R k (seen es) ≡ below_all R k es
  below-seen R k [] = refl
  below-seen R k (e ∷ es) = ap (λ b. is_lt (R k e.0) && b) (below-seen R k es)

  pub is_sorted-seen : (R : K → K → Ordering) (es : List (K × X)) → is_sorted R (seen es) ≡ is_sorted R es
  is_sorted-seen R [] = refl
  is_sorted-seen R (e ∷ es) = λ i. below-seen R e.0 es i && is_sorted-seen R es i

  -- the map with that part
  unfoldable pub seen_map : {R : K → K → Ordering} → FiniteMap R X → FiniteMap R Y
  seen_map {R} m = record { list = seen m.list; sorted = subst T (sym (is_sorted-seen R m.list)) m.sorted }
