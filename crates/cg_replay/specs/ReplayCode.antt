-- A schedule so far is data: the code by which a proof tells two apart.
use Rattle.std.specs.Prelude.{ℕ, List, refl}
use Rattle.std.specs.Coded.{Coded, code_by, coded×, coded_ℕ, coded_list}
use Rattle.cg_core.specs.Code.{core_code}
use Rattle.cg_core.specs.State.{CoreState}
use Rattle.cg_replay.specs.Replay.{Replay}

abbrev pub replay_code : Coded Replay
replay_code =
    code_by (List (List ℕ) × CoreState) (coded× (coded_list (coded_list coded_ℕ)) core_code)
    (λ s. (s.names, s.core))
    (λ p. record { names = p.0; core = p.1 })
    (λ _. refl)
