-- What a Publisher shows, and what it has appended.
use Rattle.std.specs.Prelude.{◌≡◌, List, ◌++◌, drop, map}
use Rattle.cg_core.specs.State.{CoreState}
use Rattle.cg_model.specs.Tree.{Tree}
use Rattle.cg_view.specs.Committed.{meant, operations_of}
use Rattle.cg_view.specs.Operations.{StartsWith}
use Rattle.cg_view.specs.declared.operation.Operation.{Operation}
use Rattle.cg_view.specs.declared.publisher.Publisher.{Publisher}

-- the world that it began with
abbrev pub opening : Publisher → Tree
opening p = p.writer.desk.shown.value.opening

-- the operations that are published, the first one first
abbrev pub published : Publisher → List Operation
published p = p.writer.desk.shown.value.operations.items

-- those that are appended and not published
abbrev pub appended : Publisher → List Operation
appended p = drop p.writer.behind p.writer.log.items

-- it began with the machine's opening world, and the operations of the machine's commits begin with what is published, and then
-- with what is appended
pub record IsFrontOf (c : CoreState) (p : Publisher) : Type 0 where
  pub opened : opening p ≡ c.opening
  pub front : StartsWith (operations_of c.history) (map meant (published p ++ appended p))
