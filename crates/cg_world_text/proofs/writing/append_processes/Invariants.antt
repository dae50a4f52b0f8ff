use Rattle.std.proofs.Common.{◌≡◌, ◌++◌, take, length}
use Rattle.std.specs.List.{flat_map}
use Rattle.cg_world_text.specs.World.{process_line}
use Rattle.cg_world_text.proofs.writing.append_processes.Given as goal

-- the lines so far and those of the entries that are left are all of them
abbrev pub invariant-loop-pid : goal.invariant-loop-pid
invariant-loop-pid l = record {
  text : l.out.items ++ flat_map process_line l.pid-iterator ≡ l.fn.out.items ++ flat_map process_line l.places.entries;
  kept : take (length l.fn.out.items) l.out.items ≡ l.fn.out.items;
}
