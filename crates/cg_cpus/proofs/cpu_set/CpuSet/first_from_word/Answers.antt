use Rattle.std.proofs.Common.{◌*◌, arith}
use Rattle.cg_cpus.proofs.Words.{all_passed, first_here, first_passed, on_either_side}
use Rattle.cg_cpus.proofs.cpu_set.CpuSet.first_from_word.Goals as goal

pub returns-then-found-ne0-clause-before : goal.returns-then-found-ne0-clause-before
returns-then-found-ne0-clause-before c = λ n from below. let bits = c.bits_from-found.ensures in
    on_either_side n (c.loop-index.index * 64) (c.loop-index.invariant.before n from)
    (λ behind. first_passed c.args.self.now c.args.present (c.loop-index.index * 64) c.bits_from-found.result bits.found bits.passed bits.rest
    (omega (arith, c.if-found-ne0.true)) c.bits_from-found.type_inv n behind below)

pub returns-then-found-ne0-clause-here : goal.returns-then-found-ne0-clause-here
returns-then-found-ne0-clause-here c = λ within. let bits = c.bits_from-found.ensures in
    first_here c.args.self.now c.args.present (c.loop-index.index * 64) c.bits_from-found.result bits.found bits.passed bits.rest
    (omega (arith, c.if-found-ne0.true)) c.bits_from-found.type_inv

pub loop-index-preserved : goal.loop-index-preserved
loop-index-preserved c =
    let bits = c.bits_from-found.ensures in
    let from = c.loop-index.invariant.bounds in
    let within = c.loop-index-test.true in
    record {
      bounds = (omega arith, omega arith);
      before = λ n start below. on_either_side n (c.loop-index.index * 64) (c.loop-index.invariant.before n start)
          (λ behind. all_passed c.args.self.now c.args.present (c.loop-index.index * 64) c.bits_from-found.result bits.found bits.passed bits.rest
          c.if-found-ne0.false n behind (omega (arith, below)));
    }
