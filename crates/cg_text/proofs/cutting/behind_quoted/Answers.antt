use Rattle.std.proofs.Common.{◌≡◌, ◌∷◌, MatchOption, sym, ap, subst, ◌∙◌, arith}
use Rattle.std.proofs.lemmas.List.{nil_from_length}
use Rattle.cg_text.specs.Cutting.{Closes}
use Rattle.cg_text.specs.Words.{Line}
use Rattle.cg_text.proofs.Closing.{nothing_closes, mark_closes, bad_escape, plain_step, escape_step, other_is_no_mark}
use Rattle.cg_text.proofs.cutting.behind_quoted.Goals as goal

pub returns-in-34 : goal.returns-in-34
returns-in-34 c =
    let others = c.in-Some.others.now in
    let parts : c.loop-byte.rest.now ≡ 34 ∷ others = c.in-Some.ensures.cases.0 ∙ ap (λ b. b ∷ others) c.in-34.is in
    (c.loop-byte.invariant others).0 (subst (λ z. Closes z others) (sym parts) (mark_closes others))

pub returns-in_err-rest-in-92 : goal.returns-in_err-rest-in-92
returns-in_err-rest-in-92 c =
    let text = c.args.text.now in
    let others = c.in-Some.others.now in
    let parts : c.loop-byte.rest.now ≡ 92 ∷ others = c.in-Some.ensures.cases.0 ∙ ap (λ b. b ∷ others) c.in-92.is in
    let none : (rest : Line) → Closes text rest → ⊥ = λ rest h. bad_escape others c.in_err-rest-in-92.ensures rest (subst (λ z. Closes z rest) parts ((c.loop-byte.invariant rest).1 h)) in
    subst (λ r. MatchOption r ((rest : Line) → Closes text rest → ⊥) (λ rest. Closes text rest.now)) (sym c.from_residual.ensures) none

pub loop-byte-preserved-in_ok-rest-in-92 : goal.loop-byte-preserved-in_ok-rest-in-92
loop-byte-preserved-in_ok-rest-in-92 c = λ behind.
    let others = c.in-Some.others.now in
    let found = c.in_ok-rest-in-92.ensures in
    let parts : c.loop-byte.rest.now ≡ 92 ∷ others = c.in-Some.ensures.cases.0 ∙ ap (λ b. b ∷ others) c.in-92.is in
    escape_step c.loop-byte.rest.now c.args.text.now c.in_ok-rest-in-92.rest.now behind found.0 (parts ∙ ap (λ z. 92 ∷ z) found.1) found.2 (c.loop-byte.invariant behind)

pub loop-byte-preserved : goal.loop-byte-preserved
loop-byte-preserved c = λ behind.
    plain_step c.loop-byte.rest.now c.args.text.now c.in-Some.others.now behind c.in-Some.byte.now c.in-Some.ensures.cases.0
    (other_is_no_mark c.in-Some.byte.now (λ e. omega arith) (λ e. omega arith)) (c.loop-byte.invariant behind)

pub returns : goal.returns
returns c = λ rest h.
    nothing_closes rest (subst (λ z. Closes z rest) (nil_from_length c.loop-byte.rest.now c.in_default.ensures.cases) ((c.loop-byte.invariant rest).1 h))
