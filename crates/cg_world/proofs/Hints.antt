-- Iterators that have another within them, and give what that gives.
use Rattle.std.proofs.Common.{◌≡◌, List, [], ◌∷◌, Option, map, sym, subst}
use Rattle.std.specs.Iterator.{AlwaysYields, DrainsIf}
use Rattle.std.proofs.lemmas.Iterator.{YieldsList, items_from_drains}

module _ {S T A B : Type 0} (steps : S → Option A → S → Type 0) (v : A → B) (inner : T → S) where
  given : (ys : List B) (t : T) → AlwaysYields steps v (inner t) ys → AlwaysYields (λ u o w. steps (inner u) o (inner w)) v t ys
  given [] t all = λ x u. all x (inner u)
  given (y ∷ ys) t all = ((λ u. all.0 (inner u)), λ x u step. let next = all.1 x (inner u) step in (next.0, given ys u next.1))

-- what was taken of it is all that the inner one gives
pub items_from_inner : {S T A B : Type 0} {steps : S → Option A → S → Type 0} {v : A → B} (t : T) (inner : T → S) (s : S) (xs : List A) (all : List B) → inner t ≡ s → DrainsIf (λ u o w. steps (inner u) o (inner w)) (Unit {0}) t xs → YieldsList steps v s all → map v xs ≡ all
items_from_inner {steps = steps} {v = v} t inner s xs all is drains yields =
    items_from_drains {steps = λ u o w. steps (inner u) o (inner w)} {s = t} xs drains (record { runs = given steps v inner all t (subst (λ j. AlwaysYields steps v j all) (sym is) yields.runs) })
