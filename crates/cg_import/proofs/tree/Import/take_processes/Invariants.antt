use Rattle.std.proofs.Common.{◌≡◌, ℕ, ◌<◌, [], get_or}
use Rattle.std.specs.Prelude.{IsSome}
use Rattle.cg_model.specs.Tree.{place_of}
use Rattle.cg_text.specs.Reading.{SpellsPid}
use Rattle.cg_import.specs.Taking.{PutsProcesses}
use Rattle.cg_import.specs.Values.{ListsPid, filled_lines}
use Rattle.cg_import.proofs.tree.Import.take_processes.Given as goal

-- what was put in stands on the lines, and that of each line so far is in
abbrev pub invariant-loop-line : goal.invariant-loop-line
invariant-loop-line l = record {
  same : l.self.left_out ≡ l.fn.self.left_out;
  puts : PutsProcesses l.path (ListsPid l.pids) l.fn.self.tree l.self.tree;
  all : (j : ℕ) → j < l.line-index → (k : ℕ) → SpellsPid (get_or (filled_lines l.pids) j []) k → IsSome (place_of l.self.tree k);
}
