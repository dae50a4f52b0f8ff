use Rattle.std.proofs.Common.{◌≡◌, ◌-◌, ◌≤◌, arith, subst, sym}
use Rattle.cg_runner.specs.Trying.{TriedLast, TriedSoOften}
use Rattle.cg_runner.proofs.Tries.{can_end, last_can_end, last_ran, not_given_up, ran_so, vain_so_far}
use Rattle.cg_runner.proofs.running.run_script.Goals as goal

-- one try more was in vain
pub loop-tried-preserved : goal.loop-tried-preserved
loop-tried-preserved g c =
    vain_so_far c.args.script.now c.loop-tried.tried c.in-GaveUp.line c.in-GaveUp.tries c.in-GaveUp.holder c.args.session.now c.loop-tried.session
    c.try_script.new.session c.loop-tried.invariant.0 c.loop-tried.invariant.1
    (subst (TriedLast c.args.script.now c.loop-tried.session c.try_script.new.session) c.in-GaveUp.is c.in_ok-end.ensures.last)

-- a try before the last was not in vain
pub returns-in_default : goal.returns-in_default
returns-in_default g c =
    let script = c.args.script.now in
    let s = c.args.session.now in
    let t = c.loop-tried.session in
    let u = c.try_script.new.session in
    let end = c.in_ok-end.end in
    let is = c.in_ok-end.ensures.tries in
    record {
      can = can_end script end c.args.tries t u (subst (λ n. 1 ≤ n) (sym is) c.loop-tried.invariant.0)
          (subst (λ n. n ≤ c.args.tries) (sym is) (omega (arith, c.loop-tried-test.true))) (not_given_up c.args.tries end c.in_default.not-GaveUp)
          c.in_ok-end.ensures.last;
      ran = ran_so script end s t u (subst (λ n. TriedSoOften script (n - 1) s t) (sym is) c.loop-tried.invariant.1) c.in_ok-end.ensures.last;
    }

-- the last try
pub returns-clause-can : goal.returns-clause-can
returns-clause-can g c =
    last_can_end c.args.script.now c.args.tries c.loop-tried.session c.try_script-2.new.session c.try_script-2.result c.requires c.try_script-2.ensures.tries
    c.try_script-2.ensures.last

pub returns-clause-ran : goal.returns-clause-ran
returns-clause-ran g c =
    let all : c.loop-tried.tried ≡ c.args.tries = omega (arith, c.loop-tried-test.false, c.loop-tried.auto.tried-end c.requires) in
    last_ran c.args.script.now c.args.tries c.loop-tried.tried c.args.session.now c.loop-tried.session c.try_script-2.new.session c.try_script-2.result all
    c.loop-tried.invariant.1 c.try_script-2.ensures.tries c.try_script-2.ensures.last
