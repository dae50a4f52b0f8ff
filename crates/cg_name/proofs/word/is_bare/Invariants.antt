use Rattle.std.proofs.Common.{◌≡◌, cond, take}
use Rattle.std.specs.List.{list_all}
use Rattle.cg_name.specs.Word.{is_bare_byte}
use Rattle.cg_name.proofs.word.is_bare.Given as goal

abbrev pub invariant-loop-byte : goal.invariant-loop-byte
invariant-loop-byte l = l.others ≡ cond (list_all is_bare_byte (take l.byte-index l.word)) 0 1
