-- The files that a run writes, and those that these may not take the place of.
use Rattle.std.specs.Prelude.{◌≡◌, ◌≢◌, ◌⊎◌, ℕ, Bool, true, cond, List, Option, Some, None, ⊤}
use Rattle.std.specs.Io.KnownBytes.{Appends}
use Rattle.cg_script.specs.declared.fault.ScriptFault.{ScriptFault}
use Rattle.cg_script.specs.declared.fault.ScriptFault.TheVariants as faults
use Rattle.cg_program.specs.Named.{is_standard}
use Rattle.cg_program.specs.declared.outputs.CreateFault.{CreateFault}
use Rattle.cg_program.specs.declared.outputs.CreateFault.TheVariants as create_faults

-- the file of a name holds these bytes and no more, where that is known: `nothing` is no byte, or None where it isn't known
abbrev pub IsFileNamed : Option (List ℕ) → (List ℕ → Option (List ℕ)) → Option (List ℕ) → List ℕ → Type 0
IsFileNamed nothing file None bytes = ⊤
IsFileNamed nothing file (Some name) bytes = Appends nothing (file name) bytes

-- another name than that which is given, where one is
abbrev pub IsNotNamed : Option (List ℕ) → List ℕ → Type 0
IsNotNamed None other = ⊤
IsNotNamed (Some name) other = other ≢ name

-- a file is known to be that which a word names: that which standard input reads, or one of the same name
abbrev pub IsOfWord : Bool → (List ℕ → Bool) → List ℕ → Type 0
IsOfWord is_read is_same word = cond (is_standard word) is_read (is_same word) ≡ true

-- it is known to be that of the world or of the schedule
abbrev pub IsOfWords : Bool → (List ℕ → Bool) → List ℕ → List ℕ → Type 0
IsOfWords is_read is_same world schedule = IsOfWord is_read is_same world ⊎ IsOfWord is_read is_same schedule

-- the fault of a run whose file was not made
abbrev pub of_create_fault : CreateFault → ScriptFault
of_create_fault create_faults.Memory = faults.Memory
of_create_fault create_faults.Unwritable = faults.WriteFault
