-- One less each turn that isn't held.
use Rattle.std.proofs.Common.{◌≡◌, ◌-◌, ◌+◌, length, take, sym, ap, ◌∙◌, arith}
use Rattle.std.proofs.lemmas.List.{take_all}
use Rattle.cg_locks.specs.declared.sole_marks.SoleMark.{SoleMark}
use Rattle.cg_locks.specs.Sole.{sole_times}
use Rattle.cg_locks.proofs.Soles.{times_last}
use Rattle.cg_locks.proofs.sole_marks.held_len.Goals as goal

pub last-init : goal.last-init
last-init c = (omega arith, λ m. ap (sole_times m) (take_all (length c.args.marks.now) c.args.marks.now (omega arith)))

pub last-preserved : goal.last-preserved
last-preserved c =
    let es = c.args.marks.now in
    let n = c.last.len - 1 in
    let on : n + 1 ≡ c.last.len = omega (arith, c.last-test.true) in
    let within = c.last.invariant.0 in (
      omega (arith, within),
      λ m.
          sym (times_last m es n c.index-marks-len.result (omega (arith, within, c.last-test.true)) c.index-marks-len.is (ap (λ (y : SoleMark). y.times) c.index-marks-len.is ∙ c.if-marks-len-eq0.true))
          ∙ ap (λ k. sole_times m (take k es)) on ∙ c.last.invariant.1 m,
    )

pub returns-else-marks-len-eq0-clause-within : goal.returns-else-marks-len-eq0-clause-within
returns-else-marks-len-eq0-clause-within c = c.last.invariant.0

pub returns-else-marks-len-eq0-clause-same : goal.returns-else-marks-len-eq0-clause-same
returns-else-marks-len-eq0-clause-same c = c.last.invariant.1

pub returns-after-last-clause-same : goal.returns-after-last-clause-same
returns-after-last-clause-same c = c.last.invariant.1
