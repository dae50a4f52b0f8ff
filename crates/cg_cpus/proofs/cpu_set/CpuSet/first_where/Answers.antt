use Rattle.std.proofs.Common.{◌*◌, ◌+◌, ◌/◌, arith}
use Rattle.cg_cpus.proofs.Words.{all_passed, first_here, first_passed, first_within, on_either_side}
use Rattle.cg_cpus.proofs.cpu_set.CpuSet.first_where.Goals as goal

pub returns-then-found-ne0-clause-bounds : goal.returns-then-found-ne0-clause-bounds
returns-then-found-ne0-clause-bounds c =
    let bits = c.bits_from-found.ensures in
    let within = first_within c.args.self.now c.args.present c.args.from c.bits_from-found.result bits.found bits.passed bits.rest
    (omega (arith, c.if-found-ne0.true)) c.bits_from-found.type_inv in
    let known = c.requires in
    let more = c.if-from-eq-LIMIT.false in
    (omega arith, omega arith)

pub returns-then-found-ne0-clause-before : goal.returns-then-found-ne0-clause-before
returns-then-found-ne0-clause-before c = let bits = c.bits_from-found.ensures in
    first_passed c.args.self.now c.args.present c.args.from c.bits_from-found.result bits.found bits.passed bits.rest
    (omega (arith, c.if-found-ne0.true)) c.bits_from-found.type_inv

pub returns-then-found-ne0-clause-here : goal.returns-then-found-ne0-clause-here
returns-then-found-ne0-clause-here c = λ within. let bits = c.bits_from-found.ensures in
    first_here c.args.self.now c.args.present c.args.from c.bits_from-found.result bits.found bits.passed bits.rest
    (omega (arith, c.if-found-ne0.true)) c.bits_from-found.type_inv

pub returns-clause-before : goal.returns-clause-before
returns-clause-before c = λ n from below. let bits = c.bits_from-found.ensures in
    on_either_side n ((c.args.from / 64 + 1) * 64)
    (λ here. all_passed c.args.self.now c.args.present c.args.from c.bits_from-found.result bits.found bits.passed bits.rest c.if-found-ne0.false n from (omega (arith, here)))
    (λ behind. c.first_from_word.ensures.before n behind below)
