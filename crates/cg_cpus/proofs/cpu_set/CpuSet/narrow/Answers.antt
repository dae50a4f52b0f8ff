use Rattle.cg_cpus.proofs.Intersection.{none_so_far, one_more, narrowed_words, narrowed_some, narrowed_none}
use Rattle.cg_cpus.proofs.cpu_set.CpuSet.narrow.Goals as goal

pub loop-i-init : goal.loop-i-init
loop-i-init c = none_so_far c.by.inside.words c.self.inside.words c.by.invariant.count

pub loop-i-preserved : goal.loop-i-preserved
loop-i-preserved c = one_more c.loop-i.bits c.loop-i.common c.by.inside.words c.self.inside.words c.loop-i.i c.loop-i-test.true c.loop-i.invariant

pub invariant_of-self : goal.invariant_of-self
invariant_of-self c =
    narrowed_words c.loop-i.bits c.loop-i.common c.by.inside.words c.self.inside.words c.loop-i.i c.loop-i-test.false c.loop-i.invariant c.by.invariant c.self.invariant

pub returns-then-bits-ne0 : goal.returns-then-bits-ne0
returns-then-bits-ne0 c =
    narrowed_some c.loop-i.bits c.loop-i.common c.by.inside.words c.self.inside.words c.loop-i.i c.loop-i-test.false c.loop-i.invariant c.by.invariant c.self.invariant
    c.args.by.now c.args.self.now c.by.view_is c.self.view_is c.if-bits-ne0.true

pub returns-else-bits-ne0 : goal.returns-else-bits-ne0
returns-else-bits-ne0 c =
    narrowed_none c.loop-i.bits c.loop-i.common c.by.inside.words c.self.inside.words c.loop-i.i c.loop-i-test.false c.loop-i.invariant c.by.invariant c.self.invariant
    c.args.by.now c.args.self.now c.by.view_is c.self.view_is c.if-bits-ne0.false
