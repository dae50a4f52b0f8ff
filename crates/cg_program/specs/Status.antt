-- The exit statuses, and the line that tells why a run is refused.
use Rattle.std.specs.Prelude.{ℕ, List, [], ◌∷◌, ◌++◌}
use Rattle.cg_name.specs.Refusal.{refusal_text}
use Rattle.cg_name.specs.declared.refusal.Refusal.{Refusal}
use Rattle.cg_name.specs.declared.refusal.Refusal.TheVariants.{Syntax, NoGroup, NoFile}
use Rattle.cg_program.specs.declared.status.Status.{Status}
use Rattle.cg_program.specs.declared.status.Status.TheVariants.{Done, Refused, Failed}

abbrev pub code_of : Status → ℕ
code_of Done = 0
code_of Refused = 2
code_of Failed = 3

-- the exit status of a run that is refused as a whole
abbrev pub status_where : Refusal → ℕ
status_where Syntax = 2
status_where NoGroup = 2
status_where NoFile = 2
status_where _ = 3

-- the line that tells of it
abbrev pub refusal_line : Refusal → List ℕ
refusal_line refusal = refusal_text refusal ++ 10 ∷ []
