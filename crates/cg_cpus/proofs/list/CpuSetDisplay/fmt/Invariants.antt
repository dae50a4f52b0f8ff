use Rattle.std.proofs.Common.{◌≡◌, ℕ, List, ◌++◌, ◌-◌, ◌≤◌, nat_lt}
use Rattle.std.specs.Fmt.{HasWritten, IsPlainFormatter}
use Rattle.cg_cpus.specs.Ascending.{runs_from, text_behind}
use Rattle.cg_cpus.specs.CpuList.{cpus_text}
use Rattle.cg_cpus.proofs.list.CpuSetDisplay.fmt.Given as goal

-- what is shown and the runs that are left are the whole list
abbrev pub invariant-loop-first : goal.invariant-loop-first
invariant-loop-first g l = record {
  bound : l.next ≤ 1024;
  shown : IsPlainFormatter l.fn.f → (text : List ℕ) × HasWritten g.W.Write.write_str_gives l.fn.f text l.f × (text ++ text_behind (nat_lt 0 l.next) (runs_from l.self l.next) ≡ cpus_text l.self);
}

abbrev pub decreases-loop-first : goal.decreases-loop-first
decreases-loop-first g l = 1024 - l.next
