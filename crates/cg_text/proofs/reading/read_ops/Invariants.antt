use Rattle.std.proofs.Common.{◌↔◌, length, drop, filter}
use Rattle.std.specs.List.{slice_split}
use Rattle.cg_digits.specs.WhiteSpace.{is_white_space}
use Rattle.cg_text.specs.Reading.{SpellsOpsAfter, SpellsOps}
use Rattle.cg_text.specs.Words.{is_filled}
use Rattle.cg_text.specs.declared.control_ops.ControlOps.{ControlOps}
use Rattle.cg_text.proofs.reading.read_ops.Given as goal

-- the parts that are left, after what was read, are what the text is
abbrev pub invariant-loop-word : goal.invariant-loop-word
invariant-loop-word l = (all : ControlOps) → SpellsOps l.text all ↔ SpellsOpsAfter l.ops (filter is_filled (drop (length l.yielded) (slice_split is_white_space l.text))) all
