use Rattle.std.proofs.Common.{arith}
use Rattle.cg_cpus.proofs.FewDigits.{next_digit, one_digit}
use Rattle.cg_cpus.proofs.list.few_digits.Goals as goal

pub returns : goal.returns
returns c =
    let first = one_digit c.args.text.now c.in_ok-number.number c.in_ok-number.rest.now c.in_ok-number.ensures.0 c.in_ok-number.ensures.1 in
    let second = next_digit c.args.text.now _ _ _ _ first c.with_digit-number.ensures.digit in
    let third = next_digit c.args.text.now _ _ _ _ second c.with_digit.ensures.digit in
    (third.0, third.1, (third.2, third.3, omega (arith, c.in_ok-number.ensures.0, c.with_digit-number.ensures.small, c.with_digit.ensures.small)))
