use Rattle.std.proofs.Common.{[], ◌∷◌, sym, subst, take}
use Rattle.std.proofs.lemmas.List.{take_more}
use Rattle.cg_runner.specs.Workers.{ArePut}
use Rattle.cg_runner.proofs.Placing.{put_more}
use Rattle.cg_runner.proofs.gathering.put_all.Goals as goal

-- one end more is put behind the others
pub loop-one-preserved : goal.loop-one-preserved
loop-one-preserved c =
    let i = c.loop-one.one-index in
    subst
    (λ finished. ArePut finished c.args.places.now c.put.new.places)
    (sym (take_more c.args.finished.now i _ c.loop-one-test.true))
    (put_more (take i c.args.finished.now) (_ ∷ []) c.args.places.now c.loop-one.places c.put.new.places c.loop-one.invariant c.in_ok-put.ensures.put)
