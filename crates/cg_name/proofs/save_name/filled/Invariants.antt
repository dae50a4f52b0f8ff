use Rattle.std.proofs.Common.{◌≡◌, ◌-◌, ◌++◌, take, replicate}
use Rattle.std.specs.List.{AllByRecursion}
use Rattle.cg_name.specs.SaveName.{IsSaveNameByte}
use Rattle.cg_name.proofs.save_name.filled.Given as goal

-- the bytes so far may stand in a name, and zeros are left behind them
abbrev pub invariant-loop-i : goal.invariant-loop-i
invariant-loop-i l = record {
  tested : AllByRecursion IsSaveNameByte (take l.i l.name);
  bytes : l.bytes ≡ take l.i l.name ++ replicate (16 - l.i) 0;
}
