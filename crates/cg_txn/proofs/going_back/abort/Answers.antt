-- Each turn takes the newest command off that stands.
use Rattle.std.proofs.Common.{sym, subst}
use Rattle.cg_txn.specs.TakingOff.{AllMayComeOff, ComesOff, MayComeOff}
use Rattle.cg_txn.proofs.Steps.{sets_out, steps_on}
use Rattle.cg_txn.specs.Stack.{commands}
use Rattle.cg_txn.proofs.going_back.abort.Goals as goal

pub loop-entry-init : goal.loop-entry-init
loop-entry-init c =
    let t = c.number-number.result.0 in
    sets_out (MayComeOff t) (ComesOff t) c.args.txn.items c.args.tree.now c.args.locks.now
    (subst (λ n. AllMayComeOff n c.args.txn.items c.args.tree.now c.args.locks.now) (sym c.number-number.ensures) c.requires)

pub loop-entry-preserved : goal.loop-entry-preserved
loop-entry-preserved c =
    let e = c.in-Some.entry in
    steps_on c.loop-entry.invariant e.place e.inverse e.footprint (commands c.drain_newest_first.new.self.items) c.in-Some.ensures.value c.take_off.new.tree c.take_off.new.locks c.take_off.ensures
