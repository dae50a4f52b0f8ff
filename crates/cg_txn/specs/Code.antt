-- A stack is data: the code by which a proof tells two apart.
use Rattle.std.specs.Prelude.{◌≡◌, ◌⊎◌, ℕ, Bool, List, refl}
use Rattle.std.specs.Coded.{Coded, code_by, coded×, coded⊎, coded_ℕ, coded_bool, coded_list}
use mathlib.Core.Logic.{inl, inr}
use Rattle.cg_inverse.specs.Code.{change_code}
use Rattle.cg_locks.specs.Marks.{mark_code}
use Rattle.cg_name.specs.Name.{Name}
use Rattle.cg_model.specs.Change.{Change}
use Rattle.cg_model.specs.Footprint.{Mark}
use Rattle.cg_txn.specs.Stack.{StackItem, Command, Savepoint, Stack}

abbrev Shape : Type 0
Shape = (ℕ × (List Change × List Mark)) ⊎ Name

abbrev shape : StackItem → Shape
shape (Command k d f) = inl (k, (d, f))
shape (Savepoint n) = inr n

abbrev of_shape : Shape → StackItem
of_shape (inl x) = Command x.0 x.1.0 x.1.1
of_shape (inr n) = Savepoint n

pub shape_back : (i : StackItem) → of_shape (shape i) ≡ i
shape_back (Command k d f) = refl
shape_back (Savepoint n) = refl

abbrev pub item_code : Coded StackItem
item_code = code_by Shape (coded⊎ (coded× coded_ℕ (coded× (coded_list change_code) (coded_list mark_code))) (coded_list coded_ℕ)) shape of_shape shape_back

abbrev pub stack_code : Coded Stack
stack_code = code_by (ℕ × (List StackItem × Bool)) (coded× coded_ℕ (coded× (coded_list item_code) coded_bool)) (λ s. (s.number, (s.items, s.reserved))) (λ p. record { number = p.0; items = p.1.0; reserved = p.1.1 }) (λ _. refl)
