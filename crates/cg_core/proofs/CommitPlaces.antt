-- The places on a stack of the code are those of what stands, and no command's answer commits.
use Rattle.std.proofs.Common.{◌≡◌, ℕ, false, [], ◌∷◌, ◌++◌, length, map, refl, ap, inl, inr}
use Rattle.cg_model.specs.Cgroups.{cgroups}
use Rattle.cg_model.specs.Command.{Command}
use Rattle.cg_model.specs.History.{Answer, History}
use Rattle.cg_model.specs.Live.{Ran, AtSavepoint, Items}
use Rattle.cg_model.specs.Tree.{Tree}
use Rattle.cg_core_laws.specs.CommittedCommands.{places}
use Rattle.cg_commits.specs.Answers.{is_commit}
use Rattle.cg_locks.specs.Holdings.{Holdings}
use Rattle.cg_tree.specs.Room.{TreeWithRoom}
use Rattle.cg_txn.specs.Places.{places_on}
use Rattle.cg_txn.specs.Stack.{Stack}
use Rattle.cg_core.specs.Parts.{stack_item}
use Rattle.cg_core.specs.Settled.{IsSettled}

pub places_are : (O : Tree) (l : Items cgroups) → places_on (map (stack_item O) l) ≡ places l
places_are O [] = refl
places_are O (Ran t h c a ∷ l) = ap (λ ns. ns ++ length h ∷ []) (places_are O l)
places_are O (AtSavepoint t h n ∷ l) = places_are O l

-- the answer to a command that is settled
pub settled_other : {c : Command} {R : TreeWithRoom} {H : Holdings} {s : Stack} {k : History cgroups × ℕ} {a : Answer} {R' : TreeWithRoom} {H' : Holdings} {s' : Stack} {k' : History cgroups × ℕ}
    → IsSettled c R H s k a R' H' s' k' → is_commit a ≡ false
settled_other (inl refused) = ap is_commit refused.answer
settled_other (inr granted) = ap is_commit granted.carried.applied.answer
