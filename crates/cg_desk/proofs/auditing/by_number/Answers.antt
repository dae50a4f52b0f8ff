-- Numbers that aren't those from 1 to `handed`, each once, are found.
use Rattle.std.proofs.Common.{◌≡◌, ◌≤◌, ◌∙◌, IsSome, sym, ap, subst, get_or, is_some, subst₂, arith}
use Rattle.std.proofs.lemmas.List.{take_all}
use Rattle.std.proofs.lemmas.Bool.{false≢true}
use Rattle.cg_history.specs.SessionMap.{found, IsOnceEach}
use Rattle.std.specs.List.{AllByRecursion}
use Rattle.cg_log.specs.Rests.{rests_of}
use Rattle.cg_desk.proofs.Counting.{all_there, not_twice, is_some-copied, numbered, there}
use Rattle.cg_desk.proofs.auditing.by_number.Goals as goal
use Rattle.cg_desk.proofs.auditing.by_number.Goals.{then-number-eq0-via-then-number-eq0, then-number-eq0-via-else-number-eq0+then-handed-number, then-number-eq0-via-else-number-eq0+else-handed-number+then-is_some}

pub returns-then-number-eq0-clause-disagrees : goal.returns-then-number-eq0-clause-disagrees
returns-then-number-eq0-clause-disagrees c = λ _ numbers.
    let ss = c.args.sessions.now in
    let i = c.loop-session.session-index in
    let s = c.session-item.result in
    let number : c.id-number.result.0 ≡ (get_or ss i s).number = c.id-number.ensures ∙ ap (λ t. t.number) c.session-item.is in
    let within : (1 ≤ (get_or ss i s).number) × ((get_or ss i s).number ≤ c.args.handed) = there c.args.handed ss i s c.loop-session-test.true numbers in
    elim c.then-number-eq0.branch [
      | then-number-eq0-via-then-number-eq0 w ↦ absurd (omega (arith, number, within.0, w.if-number-eq0.true))
      | then-number-eq0-via-else-number-eq0+then-handed-number w ↦ absurd (omega (arith, number, within.1, w.if-handed-number.true))
      | then-number-eq0-via-else-number-eq0+else-handed-number+then-is_some w ↦
          not_twice c.args.handed ss i s c.loop-session-test.true (subst IsOnceEach c.loop-session.invariant.0 c.loop-session.invariant.1)
          (subst₂ (λ n m. IsSome (found n m)) number c.loop-session.invariant.0
          (ap is_some (sym w.get.ensures) ∙ is_some-copied w.get.result ∙ sym w.is_some.ensures ∙ w.if-is_some.true))
          numbers
    ]

pub returns-then-has_all-clause-numbers : goal.returns-then-has_all-clause-numbers
returns-then-has_all-clause-numbers c =
    let ss = c.args.sessions.now in
    let is : c.loop-session.rests ≡ rests_of ss = c.loop-session.invariant.0 ∙ ap rests_of (take_all c.loop-session.session-index ss c.loop-session-test.false) in
    numbered c.args.handed ss (subst IsOnceEach is c.loop-session.invariant.1)
    (subst (AllByRecursion (λ x. (1 ≤ x.0) × (x.0 ≤ c.args.handed))) is c.loop-session.invariant.2)
    (λ n low high. subst (λ m. IsSome (found n m)) is (c.has_all.ensures.0 c.if-has_all.true n low high))

pub returns-clause-disagrees : goal.returns-clause-disagrees
returns-clause-disagrees c = λ _ numbers.
    let ss = c.args.sessions.now in
    let is : c.loop-session.rests ≡ rests_of ss = c.loop-session.invariant.0 ∙ ap rests_of (take_all c.loop-session.session-index ss c.loop-session-test.false) in
    false≢true (sym c.if-has_all.false
    ∙ c.has_all.ensures.1 (λ n low high. subst (λ m. IsSome (found n m)) (sym is) (all_there c.args.handed ss (subst IsOnceEach is c.loop-session.invariant.1) numbers n low high)))
