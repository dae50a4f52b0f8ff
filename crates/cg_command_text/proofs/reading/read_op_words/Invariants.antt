use Rattle.std.proofs.Common.{◌↔◌, map, drop}
use Rattle.cg_text.specs.Reading.{SpellsOpsAfter, no_ops}
use Rattle.cg_text.specs.declared.control_ops.ControlOps.{ControlOps}
use Rattle.cg_command_text.proofs.reading.read_op_words.Given as goal

-- what is left, behind what was read, is what all words are
abbrev pub invariant-loop-word : goal.invariant-loop-word
invariant-loop-word l = (all : ControlOps) → SpellsOpsAfter no_ops (map (λ w. w.now) l.words) all ↔ SpellsOpsAfter l.ops (map (λ w. w.now) (drop l.word-index l.words)) all
