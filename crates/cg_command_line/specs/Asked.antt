-- What the words of a command line ask for.
use Rattle.std.specs.Prelude.{◌≡◌, ℕ, false, List, None}
use Rattle.cg_command_line.specs.declared.Asked.{Asked}
use Rattle.cg_command_line.specs.declared.Asked.TheVariants as asked
use Rattle.cg_command_line.specs.declared.replays.ReplayForm.TheVariants.{Plain}

-- a replay of what these two words name is asked for, and nothing beside it
abbrev pub AsksForReplay : List ℕ → List ℕ → Asked → Type 0
AsksForReplay world schedule (asked.Replay r) = (r.world.now ≡ world) × (r.schedule.now ≡ schedule) × (r.form ≡ Plain) × (r.history ≡ None) × (r.is_strict ≡ false)
AsksForReplay world schedule _ = ⊥
