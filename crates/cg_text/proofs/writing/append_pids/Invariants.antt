use Rattle.std.proofs.Common.{◌≡◌, ◌++◌, take, length}
use Rattle.cg_text.specs.FileText.{pids_text}
use Rattle.cg_text.proofs.writing.append_pids.Given as goal

-- the lines so far
abbrev pub invariant-loop-pid : goal.invariant-loop-pid
invariant-loop-pid l = record {
  text : l.out.items ≡ l.fn.out.items ++ pids_text (take l.pid-index l.pids);
  kept : take (length l.fn.out.items) l.out.items ≡ l.fn.out.items;
}
