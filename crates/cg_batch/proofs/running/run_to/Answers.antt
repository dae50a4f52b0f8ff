use Rattle.std.proofs.Common.{arith, inr, map, subst}
use Rattle.cg_batch.specs.Batch.{EndSo}
use Rattle.cg_batch.proofs.running.run_to.Goals as goal

pub returns-in-Ok-clause-done : goal.returns-in-Ok-clause-done
returns-in-Ok-clause-done g c = λ zero.
    let report = c.in-Ok.report in (
      record {
        ends = report.ends.items;
        opening = report.core.opening;
        history = report.core.history;
        so = subst (λ texts. EndSo c.args.workers c.args.tries (map (λ t. t.items) texts) report.ends.items report.core.history) c.as_slice.ensures.value c.in-Ok.ensures.ends;
        closed = c.in-Ok.ensures.closed;
        sound = c.in-Ok.ensures.sound;
        bound = report.core.bound;
        low = c.in-Ok.ensures.low;
        within = c.in-Ok.ensures.within;
        reached = c.in-Ok.ensures.reached;
      },
      (c.finish.ensures.told zero, c.finish.ensures.past zero),
    )

pub returns-in-Ok-clause-front : goal.returns-in-Ok-clause-front
returns-in-Ok-clause-front g c = λ three.
    let report = c.in-Ok.report in
    inr (
      record {
        ends = report.ends.items;
        opening = report.core.opening;
        history = report.core.history;
        so = subst (λ texts. EndSo c.args.workers c.args.tries (map (λ t. t.items) texts) report.ends.items report.core.history) c.as_slice.ensures.value c.in-Ok.ensures.ends;
        closed = c.in-Ok.ensures.closed;
        sound = c.in-Ok.ensures.sound;
        bound = report.core.bound;
        low = c.in-Ok.ensures.low;
        within = c.in-Ok.ensures.within;
        reached = c.in-Ok.ensures.reached;
      },
      c.finish.ensures.front (λ zero. omega (arith, zero, three)),
    )
