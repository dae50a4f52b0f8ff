-- A core is data: the code by which a proof tells two apart.
use Rattle.std.specs.Prelude.{ℕ, refl}
use Rattle.std.specs.Coded.{Coded, code_by, coded×, coded_ℕ}
use Rattle.cg_model.specs.Cgroups.{cgroups}
use Rattle.cg_model.specs.Code.{tree_code}
use Rattle.cg_model.specs.History.{History}
use Rattle.cg_model.specs.Tree.{Tree}
use Rattle.cg_history.specs.Code.{history_code}
use Rattle.cg_core.specs.State.{CoreState}

abbrev pub core_code : Coded CoreState
core_code =
    code_by (Tree × (ℕ × History cgroups)) (coded× tree_code (coded× coded_ℕ history_code))
    (λ c. (c.opening, (c.bound, c.history)))
    (λ p. record { opening = p.0; bound = p.1.0; history = p.1.1 })
    (λ _. refl)
