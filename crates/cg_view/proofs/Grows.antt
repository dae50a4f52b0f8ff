-- A step that only adds operations keeps the rule.
use Rattle.std.proofs.Common.{◌≡◌, ℕ, ◌≢◌, List, [], ◌∷◌, ◌++◌, refl, sym, subst, ⊎_elim}
use mathlib.Core.Option.{some, some-ne-none}
use lib.ListN.{get_elem?}
use Rattle.left_right.specs.Register.{Admits, TurnsAt}
use Rattle.atomic_table.proofs.Lists.{at_set, at_snoc}
use Rattle.cg_view.specs.declared.operation.Operation.{Operation}
use Rattle.cg_view.specs.declared.rule.View.{View}
use Rattle.cg_view.specs.declared.shown.Shown.{Shown}
use Rattle.cg_view.specs.Views.{newcomer, Begins, Keeps, Publishes}
use Rattle.cg_view.specs.Operations.{StartsWith}
use Rattle.cg_view.proofs.Operations.{whole, longer}

nothing_seen : (x : Shown) → Begins x newcomer
nothing_seen x = ((x.opening ∷ [], refl), (x.operations.items, refl))

pub admits : Admits Keeps newcomer
admits x views h seat v at = ⊎_elim (h seat v) (λ (e : newcomer ≡ v). subst (Begins x) e (nothing_seen x)) (at_snoc views newcomer v seat at)

pub grows : (seat : ℕ) (v : View) (x y : Shown) (rest : List Operation) → y.opening ≡ x.opening → y.operations.items ≡ x.operations.items ++ rest → TurnsAt Keeps seat v x y Publishes
grows seat v x y rest same up views h at =
    let w : View = record { opening = y.opening ∷ []; seen = y.operations.items } in
    let later : (u : View) → Begins x u → Begins y u = λ u b. (subst (λ o. StartsWith (o ∷ []) u.opening) (sym same) b.0, longer x.operations.items y.operations.items u.seen rest up b.1) in
    let own : Begins y w = (whole (y.opening ∷ []), whole y.operations.items) in (
      w,
      (λ j u e. ⊎_elim (λ (t : (j ≡ seat) × (w ≡ u)). subst (Begins y) t.1 own) (λ (t : (j ≢ seat) × (get_elem? views j ≡ some u)). later u (h j u t.1)) (at_set views seat j w u e)),
      (later v (h seat v at), refl, refl),
    )

pub first : (x : Shown) → Keeps x (newcomer ∷ [])
first x = admits x [] (λ j v e. absurd (some-ne-none v (sym e)))
