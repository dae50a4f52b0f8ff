use Rattle.std.proofs.Common.{◌≡◌, ◌++◌, ◌-◌, ◌≤◌, length, take, nat_lt}
use Rattle.cg_cpus.specs.Ascending.{runs_from, text_behind}
use Rattle.cg_cpus.specs.CpuList.{cpus_text}
use Rattle.cg_cpus.proofs.list.append_runs.Given as goal

abbrev pub invariant-loop-first : goal.invariant-loop-first
invariant-loop-first l = record {
  bound : l.next ≤ 1024;
  kept : take (length l.fn.out.items) l.out.items ≡ l.fn.out.items;
  text : l.out.items ++ text_behind (nat_lt 0 l.next) (runs_from l.set l.next) ≡ l.fn.out.items ++ cpus_text l.set;
}

abbrev pub decreases-loop-first : goal.decreases-loop-first
decreases-loop-first l = 1024 - l.next
