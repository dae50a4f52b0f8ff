use Rattle.std.proofs.Common.{◌≡◌, ◌++◌, take}
use Rattle.std.specs.List.{flat_map}
use Rattle.cg_plan.specs.ShellWord.{shell_byte}
use Rattle.cg_plan.proofs.quoting.append_word.Given as goal

-- the bytes so far are written
abbrev pub invariant-loop-byte : goal.invariant-loop-byte
invariant-loop-byte l = l.out.items ≡ l.initial.out.items ++ flat_map shell_byte (take l.byte-index l.bytes)
