-- A run whose inputs are named by words.
use Rattle.std.specs.Prelude.{ℕ, ◌&&◌, ◌==◌, Bool, false, cond, List, [], ◌∷◌, Option, IfSome}
use Rattle.cg_model.specs.Tree.{Tree}
use Rattle.cg_program.specs.declared.inputs.OpenFault.{OpenFault}
use Rattle.cg_program.specs.declared.inputs.OpenFault.TheVariants as open_faults
use Rattle.cg_script.specs.WorldPart.{ReadsWorld}
use Rattle.cg_script.specs.declared.fault.ScriptFault.{ScriptFault}
use Rattle.cg_script.specs.declared.fault.ScriptFault.TheVariants as faults

-- the word is a minus, which names standard input
abbrev pub is_standard : List ℕ → Bool
is_standard (b ∷ []) = b == 45
is_standard _ = false

-- the bytes that a word names, where they are known: those of standard input, or of the file of this name
abbrev pub named : Option (List ℕ) → (List ℕ → Option (List ℕ)) → List ℕ → Option (List ℕ)
named standard file word = cond (is_standard word) standard (file word)

-- the schedule: what stands behind the world where both are standard input
abbrev pub schedule_named : Option (List ℕ) → (List ℕ → Option (List ℕ)) → List ℕ → List ℕ → Option (List ℕ) → Option (List ℕ)
schedule_named standard file world schedule rest = cond (is_standard world && is_standard schedule) rest (named standard file schedule)

-- the world that a word names was read, where its bytes are known, and this was done over it with the schedule
abbrev pub DoneOverNamed : (Tree → Option (List ℕ) → Type 0) → Option (List ℕ) → (List ℕ → Option (List ℕ)) → List ℕ → List ℕ → Type 0
DoneOverNamed P standard file world schedule =
    IfSome (named standard file world) (λ text. (T : Tree) × (rest : Option (List ℕ)) × ReadsWorld text T rest × P T (schedule_named standard file world schedule rest))

-- the fault of a run whose input was not opened
abbrev pub of_open_fault : OpenFault → ScriptFault
of_open_fault open_faults.Memory = faults.Memory
of_open_fault open_faults.Unreadable = faults.ReadFault
