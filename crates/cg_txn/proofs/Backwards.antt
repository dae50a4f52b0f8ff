-- Commands in the order in which they come off.
use Rattle.std.proofs.Common.{◌≤◌, true, false, cond, List, [], ◌∷◌, length, arith}
use Rattle.cg_name.specs.Name.{Name, same_name}
use Rattle.cg_txn.specs.Laws.{commands_above}
use Rattle.cg_txn.specs.Stack.{StackItem, Command, Savepoint}

-- no more commands come off than items stand
pub few_above : (n : Name) (l : List StackItem) → length (commands_above n l) ≤ length l
few_above n [] = omega arith
few_above n (Command k d f ∷ l) = let rest : length (commands_above n l) ≤ length l = few_above n l in omega (arith, rest)
few_above n (Savepoint m ∷ l) =
    elim (same_name m n) as (λ b. length (cond b [] (commands_above n l)) ≤ length (Savepoint m ∷ l)) [
      | true ↦ omega arith
      | false ↦ (let rest : length (commands_above n l) ≤ length l = few_above n l in omega (arith, rest))
    ]
