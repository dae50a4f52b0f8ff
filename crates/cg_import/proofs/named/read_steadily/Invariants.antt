use Rattle.cg_import.specs.Imported.{IsWorldOf}
use Rattle.cg_import.proofs.named.read_steadily.Given as goal

-- what was read last is a world's text
abbrev pub invariant-loop-try : goal.invariant-loop-try
invariant-loop-try g l = IsWorldOf (g.P.Inputs.file l.inputs) (g.P.Inputs.is_missing l.inputs) l.root l.online l.last.text.items l.last.left_out.lines.items
