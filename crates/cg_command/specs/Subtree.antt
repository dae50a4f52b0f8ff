-- Many changes of settings, made one after another.
use Rattle.std.specs.Prelude.{List}
use Rattle.std.specs.List.{AllByRecursion}
use Rattle.cg_inverse.specs.Meaning.{HasRoomToMake, LeavesNoCpus}
use Rattle.cg_model.specs.Change.{Change}
use Rattle.cg_tree.specs.Room.{TreeWithRoom}

-- none of the changes needs an entry
abbrev pub NeedNoEntry : List Change → Type 0
NeedNoEntry cs = AllByRecursion (λ c. (t : TreeWithRoom) → HasRoomToMake t c) cs

-- none of the changes leaves CPUs that a group asks for
abbrev pub LeaveNoCpus : List Change → Type 0
LeaveNoCpus cs = AllByRecursion LeavesNoCpus cs
