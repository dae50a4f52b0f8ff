-- What is written where a schedule is told as JSON, and what history results.
use Rattle.std.specs.Prelude.{◌≡◌, ℕ, Bool, List}
use Rattle.cg_json_program.specs.Output.{opened_reporter, IsToldFrom, TellsThePlain}
use Rattle.cg_json_program.specs.declared.reporter.Reporter.{Reporter}
use Rattle.cg_model.specs.Cgroups.{cgroups}
use Rattle.cg_model.specs.History.{History}
use Rattle.cg_model.specs.Tree.{Tree}
use Rattle.cg_replay.specs.Replay.{IsOutputFrom}

-- this is written for a schedule's text from here on, whether a request was refused is this, and this history results, with the
-- aborts at the end; and it tells of what the plain output has
abbrev pub PlaysToldFrom : Reporter → List ℕ → Bool → List ℕ → History cgroups → Type 0
PlaysToldFrom s text is_refused out h =
    (o : IsToldFrom s text is_refused out) × (h ≡ o.last.core.history) × (plain : List ℕ) × IsOutputFrom s.player text plain × TellsThePlain out plain

abbrev pub PlaysTold : Tree → ℕ → List ℕ → Bool → List ℕ → History cgroups → Type 0
PlaysTold T limit = PlaysToldFrom (opened_reporter T limit)
