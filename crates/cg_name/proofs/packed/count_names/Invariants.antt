use Rattle.std.proofs.Common.{◌≡◌, take}
use Rattle.std.specs.List.{count_by}
use Rattle.cg_name.proofs.Packing.{is_zero}
use Rattle.cg_name.proofs.packed.count_names.Given as goal

abbrev pub invariant-loop-byte : goal.invariant-loop-byte
invariant-loop-byte l = l.count ≡ count_by is_zero (take l.byte-index l.bytes)
