use Rattle.std.specs.Prelude.{◌≡◌, ◌++◌, map, take}
use Rattle.cg_checked_files.specs.Told.{fault_value, lines_of_values}
use Rattle.cg_checked_files.proofs.as_json.append_told.Given as goal

-- the faults so far are told
abbrev pub invariant-loop-fault : goal.invariant-loop-fault
invariant-loop-fault l = l.out.items ≡ l.fn.out.items ++ lines_of_values (map (fault_value l.name) (take l.fault-index l.fault-items))
