-- What stands by a session's calls, and what stands of its transaction in the history that has them.
use Rattle.std.specs.Prelude.{◌≡◌, ℕ, List, [], Option, Some, None, map}
use Rattle.cg_model.specs.Tree.{Tree}
use Rattle.cg_model.specs.Cgroups.{cgroups}
use Rattle.cg_name.specs.Name.{Name}
use Rattle.cg_name.specs.declared.refusal.Refusal.TheVariants.{NoSavepoint, NothingToUndo}
use Rattle.cg_model.specs.History.{Back, History, Refused, Undo}
use Rattle.cg_model.specs.Live as model
use Rattle.cg_model.specs.Live.{live}
use Rattle.cg_model.specs.Opens.{opens, transaction_in}
use Rattle.cg_model.specs.Reply.{reply, Legal}
use Rattle.cg_log.specs.Call.{calls_of}
use Rattle.cg_log.specs.Standing.{Command, Item, Savepoint, standing}

-- an item of a stack, as calls tell it
abbrev pub told_item : model.Item cgroups → Item
told_item (model.Ran t h c a) = Command
told_item (model.AtSavepoint t h n) = Savepoint n

-- the stack of a transaction in a history, as calls tell it; nothing where there is none
abbrev pub told_stack : Option ℕ → History cgroups → List Item
told_stack None h = []
told_stack (Some t) h = map told_item (live t h)

-- The law of logs: by the calls of a session that a legal history has there stands what stands of its open transaction in that history
abbrev pub CallsTellStacks : Type 0
CallsTellStacks =
    (O : Tree) (bound : ℕ) (h : History cgroups) (s : ℕ) → Legal cgroups O bound h → standing (calls_of s h) ≡ told_stack (transaction_in s (opens h)) h

-- where nothing stands by them, the history has nothing to go back to for a session with an open transaction
abbrev pub NothingToGoBackTo : Type 0
NothingToGoBackTo =
    (O : Tree) (bound : ℕ) (h : History cgroups) (s t : ℕ) → Legal cgroups O bound h → transaction_in s (opens h) ≡ Some t → standing (calls_of s h) ≡ []
    → (reply cgroups O bound h s Undo ≡ Refused NothingToUndo) × ((n : Name) → reply cgroups O bound h s (Back n) ≡ Refused NoSavepoint)
