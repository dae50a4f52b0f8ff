-- PIDs: from 1 to 4,194,303.
use Rattle.std.specs.Prelude.{◌≡◌, ℕ, ◌<◌, ◌⊎◌, Result, Ok, Err}
use Rattle.cg_name.specs.declared.refusal.Refusal.{Refusal}
use Rattle.cg_name.specs.declared.refusal.Refusal.TheVariants.{Syntax}
use Rattle.cg_command.specs.declared.pid.Pid.{Pid}

-- a number from 1 to 4,194,303 is a PID; another one is Syntax
abbrev pub TellsPid : ℕ → Result Pid Refusal → Type 0
TellsPid number (Ok pid) = pid.number ≡ number
TellsPid number (Err e) = (e ≡ Syntax) × ((number ≡ 0) ⊎ (4194303 < number))
