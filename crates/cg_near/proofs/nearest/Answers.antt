use Rattle.std.proofs.Common.{◌≤◌, sym, ap, ◌∙◌, arith, below_more}
use Rattle.cg_near.specs.Near.{edits_to}
use Rattle.cg_near.proofs.Files.{of_each}
use Rattle.cg_near.proofs.nearest.Goals as goal
use Rattle.cg_near.proofs.nearest.Goals.{then-edits-fewest, else-edits-fewest}

pub loop-file-preserved : goal.loop-file-preserved
loop-file-preserved c =
    let before = c.loop-file.invariant.others in
    elim c.if-edits-fewest.branch [
      | then-edits-fewest w ↦ record {
        edits = w.fewest-is ∙ c.in_ok-edits.ensures ∙ ap (edits_to c.args.word.now) (sym w.nearest-is);
        first = omega arith;
        others = below_more _ _ (λ k h. omega (arith, before k h)) (omega arith);
      }
      | else-edits-fewest w ↦ record {
        edits = w.fewest-is ∙ c.loop-file.invariant.edits ∙ ap (edits_to c.args.word.now) (sym w.nearest-is);
        first = omega arith;
        others = below_more _ _ (λ k h. omega (arith, before k h)) (omega arith);
      }
    ]

pub returns-clause-least : goal.returns-clause-least
returns-clause-least c = of_each (λ file. c.loop-file.fewest ≤ edits_to c.args.word.now file) c.loop-file.invariant.first (λ k h. c.loop-file.invariant.others k (omega arith))
