-- What stands of a session's transaction, by the session's calls: its accepted commands and its savepoints that no later call took off.
use Rattle.std.specs.Prelude.{cond, List, [], ◌∷◌, Bool, true, false, drop}
use Rattle.cg_name.specs.Name.{Name, same_name}
use Rattle.cg_model.specs.Cgroups.{cgroups}
use Rattle.cg_model.specs.History.{Request, Begin, Do, Save, Back, Undo, Commit, Abort, Answer, Refused}
use Rattle.cg_log.specs.Call.{Call}

pub data Item : Type 0 where
  Command : Item
  Savepoint : Name → Item

-- what came before the newest savepoint with this name
abbrev pub before_savepoint : Name → List Item → List Item
before_savepoint n [] = []
before_savepoint n (Command ∷ items) = before_savepoint n items
before_savepoint n (Savepoint m ∷ items) = cond (same_name m n) items (before_savepoint n items)

-- what stands after an accepted request
abbrev pub left_by : Request cgroups → List Item → List Item
left_by Begin items = []
left_by (Do c) items = Command ∷ items
left_by (Save n) items = Savepoint n ∷ items
left_by (Back n) items = before_savepoint n items
left_by Undo items = drop 1 items
left_by Commit items = []
left_by Abort items = []

abbrev pub is_refused : Answer → Bool
is_refused (Refused r) = true
is_refused _ = false

-- what stands after a call
abbrev pub stands_after : Call → List Item → List Item
stands_after c items = cond (is_refused c.answer) items (left_by c.request items)

-- what stands after further calls
abbrev pub standing_from : List Item → List Call → List Item
standing_from items [] = items
standing_from items (c ∷ calls) = standing_from (stands_after c items) calls

-- what stands after all calls, the oldest of them first: the newest item first
abbrev pub standing : List Call → List Item
standing calls = standing_from [] calls

-- the request takes off what stands, and adds nothing
abbrev pub goes_back : Request cgroups → Bool
goes_back (Back n) = true
goes_back Undo = true
goes_back _ = false
