-- How the lines of a schedule are checked.
use Rattle.std.specs.Prelude.{◌⊎◌, ℕ, List}
use Rattle.cg_text.specs.Words.{Line}
use Rattle.cg_model.specs.Cgroups.{cgroups}
use Rattle.cg_model.specs.History.{Request}
use Rattle.cg_script.specs.Turns.{Skip, Ask, IsTurn}

-- the names of sessions, in the order of their first lines
abbrev pub Names : Type 0
Names = List (List ℕ)

-- a line says nothing, or asks, where sessions have these names so far; and the names behind it
abbrev pub Passes : Names → Line → Names → Type 0
Passes names line behind = IsTurn names line Skip behind ⊎ ((k : ℕ) × (r : Request cgroups) × IsTurn names line (Ask k r) behind)
