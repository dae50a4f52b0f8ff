-- The items of the definitions, as they stand on the stack of the code.
use Rattle.std.proofs.Common.{◌≡◌, ℕ, ◌+◌, ◌||◌, Bool, true, false, cond, [], ◌∷◌, length, map, refl, ap, arith}
use Rattle.cg_name.specs.Name.{Name, same_name}
use Rattle.cg_model.specs.Tree.{Tree}
use Rattle.cg_model.specs.Cgroups.{cgroups}
use Rattle.cg_model.specs.Live as live
use Rattle.cg_model.specs.Live.{Item, Ran, AtSavepoint, Items}
use Rattle.cg_model.specs.Reply as reply
use Rattle.cg_txn.specs.Stack.{has_savepoint, commands}
use Rattle.cg_txn.specs.Laws.{commands_above, below}
use Rattle.cg_core.specs.Parts.{stack_item}
use Rattle.cg_core.proofs.Stages.Items.{above}

module _ (O : Tree) (n : Name) where
  -- the same savepoints are there
  pub same_savepoints : (l : Items cgroups) → has_savepoint n (map (stack_item O) l) ≡ reply.has_savepoint n l
  same_savepoints [] = refl
  same_savepoints (Ran t h c a ∷ l) = same_savepoints l
  same_savepoints (AtSavepoint t h m ∷ l) = ap (λ b. same_name m n || b) (same_savepoints l)

  -- the same items stand below a savepoint
  pub same_below : (l : Items cgroups) → below n (map (stack_item O) l) ≡ map (stack_item O) (live.below n l)
  same_below [] = refl
  same_below (Ran t h c a ∷ l) = same_below l
  same_below (AtSavepoint t h m ∷ l) = at (same_name m n) (same_below l)
    where
      at : (b : Bool) → below n (map (stack_item O) l) ≡ map (stack_item O) (live.below n l)
          → cond b (map (stack_item O) l) (below n (map (stack_item O) l)) ≡ map (stack_item O) (cond b l (live.below n l))
      at true rest = refl
      at false rest = rest

  -- the same commands stand above it
  pub same_above : (l : Items cgroups) → commands_above n (map (stack_item O) l) ≡ commands (map (stack_item O) (above n l))
  same_above [] = refl
  same_above (Ran t h c a ∷ l) = ap (λ r. stack_item O (Ran t h c a) ∷ r) (same_above l)
  same_above (AtSavepoint t h m ∷ l) = at (same_name m n) (same_above l)
    where
      at : (b : Bool) → commands_above n (map (stack_item O) l) ≡ commands (map (stack_item O) (above n l))
          → cond b [] (commands_above n (map (stack_item O) l)) ≡ commands (map (stack_item O) (cond b [] (AtSavepoint t h m ∷ above n l)))
      at true rest = refl
      at false rest = rest

  -- so many of them are taken off
  pub same_count : (k : ℕ) (l : Items cgroups) → reply.commands_above n k l ≡ k + length (commands_above n (map (stack_item O) l))
  same_count k [] = omega arith
  same_count k (Ran t h c a ∷ l) =
      let rest : reply.commands_above n (k + 1) l ≡ (k + 1) + length (commands_above n (map (stack_item O) l)) = same_count (k + 1) l in
      omega (arith, rest)
  same_count k (AtSavepoint t h m ∷ l) = at (same_name m n) (same_count k l)
    where
      at : (b : Bool) → reply.commands_above n k l ≡ k + length (commands_above n (map (stack_item O) l))
          → cond b k (reply.commands_above n k l) ≡ k + length (cond b [] (commands_above n (map (stack_item O) l)))
      at true rest = omega arith
      at false rest = rest
