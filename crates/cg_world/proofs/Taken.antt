-- Maps that take the entries of a list from its end.
use Rattle.std.proofs.Common.{◌≡◌, List, [], ◌∷◌, ◌++◌, Some, ap, ◌∙◌}
use Rattle.std.proofs.lemmas.List.{append_assoc}
use Rattle.std.specs.BTreeMap.{BTreeMap, Updates}
use Rattle.std.specs.Cmp.{IsTotalOrder}
use Rattle.std.specs.declared.cmp.Ordering.{Ordering}
use Rattle.std.specs.FinMap.{IsAntisymmetric}
use Rattle.cg_maps.specs.FiniteMap.{from_entries, set_at}
use Rattle.cg_maps.proofs.TreeMaps.{view-insert}

-- these are left of all entries, and the map has what was taken
abbrev pub IsTaken : {K X : Type 0} → (K → K → Ordering) → List (K × X) → List (K × X) → BTreeMap K X → Type 0
IsTaken {K} {X} R all left m = (taken : List (K × X)) × (all ≡ left ++ taken) × (IsAntisymmetric R → from_entries R m.entries ≡ from_entries R taken)

pub one_more : {K X : Type 0} {R : K → K → Ordering} (o : IsTotalOrder R) (all left rest : List (K × X)) (m n : BTreeMap K X) (k : K) (v : X) → left ≡ rest ++ (k, v) ∷ [] → Updates R m n k (Some v) → IsTaken R all left m → IsTaken R all rest n
one_more o all left rest m n k v last updates taken = (
  (k, v) ∷ taken.0,
  taken.1 ∙ ap (λ es. es ++ taken.0) last ∙ append_assoc rest ((k, v) ∷ []) taken.0,
  λ same. view-insert o same m n k v updates ∙ ap (λ f. set_at f k (Some v)) (taken.2 same),
)
