use Rattle.std.specs.Prelude.{◌≡◌, ◌++◌, List, length}
use Rattle.std.specs.List.{flat_map}
use Rattle.cg_model.specs.Opens.{opens}
use Rattle.cg_replay.specs.Replay.{ending_text}
use Rattle.cg_json_program.specs.Steps.{Aborts}
use Rattle.cg_json_program.specs.Report.{Report, plain_line, told_line}
use Rattle.cg_json_program.proofs.reporter.ending.Given as goal

-- the aborts so far are told
abbrev pub invariant-ends : goal.invariant-ends
invariant-ends l = record {
  told : (ends : List Report) × Aborts l.fn.player ends l.player × (l.out.items ≡ flat_map told_line ends) × (ending_text l.fn.player.core ≡ flat_map plain_line ends ++ ending_text l.player.core);
}

abbrev pub decreases-ends : goal.decreases-ends
decreases-ends l = length (opens l.player.core.history)
