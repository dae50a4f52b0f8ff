-- Behind a Begin nothing stands.
use Rattle.std.proofs.Common.{rules, refl, ap, length, arith}
use Rattle.cg_log.proofs.Standing.{none_at_begin}
use Rattle.cg_log.proofs.log.Log.open.Goals as goal

pub invariant_of-result : goal.invariant_of-result
invariant_of-result c =
    let none = none_at_begin c.args.calls.items c.push_reserved.new.self.items _ c.push_reserved.ensures.items refl refl in
    (search rules, omega (arith, ap length none))
