use Rattle.std.proofs.Common.{◌≡◌, ℕ, List, ◌++◌, length}
use Rattle.cg_model.specs.Opens.{opens}
use Rattle.cg_replay.specs.Replay.{core_ended, ending_text}
use Rattle.cg_replay.proofs.player.Player.append_aborts.Given as goal

-- what was appended, and what the end is from here on, are the end from the first on
abbrev pub invariant-ends : goal.invariant-ends
invariant-ends l = record {
  told : (lines : List ℕ) × (l.out.items ≡ l.fn.out.items ++ lines) × (ending_text l.fn.self.core ≡ lines ++ ending_text l.self.core);
  same : core_ended l.fn.self.core ≡ core_ended l.self.core;
}

abbrev pub decreases-ends : goal.decreases-ends
decreases-ends l = length (opens l.self.core.history)
