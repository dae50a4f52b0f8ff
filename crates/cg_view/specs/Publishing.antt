-- One publishing.
use Rattle.std.specs.Prelude.{◌≡◌, List, [], ◌++◌, Result, OnErr, OnOk}
use Rattle.cg_view.specs.declared.operation.Operation.{Operation}
use Rattle.cg_view.specs.declared.shown.Shown.{Shown}

-- what waited is published behind what was, and nothing waits any more; or an error, and all is as it was
pub record IsPublished {T E : Type 0} (before : Shown) (waiting : List Operation) (result : Result T E) (after : Shown) (left : List Operation) : Type 0 where
  pub ok : OnOk result (after.operations.items ≡ before.operations.items ++ waiting)
  pub spent : OnOk result (left ≡ [])
  pub opening : after.opening ≡ before.opening
  pub err : OnErr result (after ≡ before)
  pub kept : OnErr result (left ≡ waiting)
