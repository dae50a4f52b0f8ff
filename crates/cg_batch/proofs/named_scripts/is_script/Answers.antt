use Rattle.std.proofs.Common.{true≢false, [], arith, ap, sym, ◌∙◌}
use Rattle.std.proofs.lemmas.List.{take_all}
use Rattle.std.specs.List.{list_any}
use Rattle.cg_batch.proofs.HistoryFile.{any_made, none_more}
use Rattle.cg_batch.proofs.named_scripts.is_script.Goals as goal

pub loop-script-preserved : goal.loop-script-preserved
loop-script-preserved g c =
    none_more (λ script. g.P.Outputs.is_same c.args.files.now c.args.name.now script.now) c.args.scripts.now c.loop-script.script-index record { ref_ptr = (0, 0); now = [] } (omega arith) c.loop-script.invariant
    (λ known. true≢false (sym (c.is_same.ensures known) ∙ c.if-is_same.false))

pub returns : goal.returns
returns g c = λ some.
    let is_same = g.P.Outputs.is_same c.args.files.now c.args.name.now in
    absurd (c.loop-script.invariant
    (ap (list_any (λ script. is_same script.now)) (take_all c.loop-script.script-index c.args.scripts.now c.loop-script-test.false)
    ∙ sym (any_made is_same (λ script. script.now) c.args.scripts.now) ∙ some))
