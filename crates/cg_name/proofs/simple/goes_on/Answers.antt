use Rattle.std.proofs.Common.{refl}
use Rattle.cg_name.proofs.SimpleLanes.{last_step, one_step}
use Rattle.cg_name.proofs.simple.goes_on.Goals as goal

pub loop-front-preserved : goal.loop-front-preserved
loop-front-preserved c =
    let l = c.loop-front in
    let step = one_step c.args.text.now l.rest.now c.in-Some.front.now _ l.invariant.within l.invariant.rest l.invariant.tested c.in-Some.ensures.cases.enough c.in-Some.ensures.cases.same (c.front_goes_on.ensures (c.if-not-front_goes_on.false)) refl in
    record { within = step.0; rest = step.1; tested = step.2 }

pub returns-in-Some-last_chunk : goal.returns-in-Some-last_chunk
returns-in-Some-last_chunk c = λ on.
    let l = c.loop-front in
    let last = c.in-Some-last_chunk in
    last_step c.args.text.now l.rest.now last.last.now l.invariant.within l.invariant.tested c.in_default.ensures.cases last.ensures.cases.0 last.ensures.cases.1.same (c.front_goes_on-in-Some-last_chunk.ensures on)
