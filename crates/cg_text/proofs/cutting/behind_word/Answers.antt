use Rattle.std.proofs.Common.{◌≡◌, ◌⊎◌, inl, inr, ◌∷◌, MatchOption, sym, ap, subst, ◌∙◌, arith}
use Rattle.cg_text.specs.Cutting.{BeginsWith, Closes}
use Rattle.cg_text.specs.Words.{Line, Word}
use Rattle.cg_text.proofs.FirstWord.{BareFirst, QuotedFirst, not_quoted, not_first, word_or_none}
use Rattle.cg_text.proofs.cutting.behind_word.Goals as goal
use Rattle.cg_text.proofs.cutting.behind_word.Goals.{in-34+in_ok-rest-in-34, in_default}

pub returns-in_err-rest-in-34 : goal.returns-in_err-rest-in-34
returns-in_err-rest-in-34 c =
    let text = c.args.text.now in
    let others = c.in_ok-first.others.now in
    let parts : text ≡ 34 ∷ others = c.in_ok-first.ensures.cases.0 ∙ ap (λ b. b ∷ others) c.in-34.is in
    subst (λ r. MatchOption r ((word : Word) (rest : Line) → BeginsWith text word rest → ⊥) (λ rest. (word : Word) × BeginsWith text word rest.now))
    (sym c.from_residual-in_err-rest-in-34.ensures) (not_quoted text others parts c.in_err-rest-in-34.ensures)

pub returns-in_default-2 : goal.returns-in_default-2
returns-in_default-2 c =
    not_first c.args.text.now c.in_ok-first.first.now c.in_ok-first.others.now c.in_ok-first.ensures.cases.0 (λ e. omega arith) (sym c.is_bare_byte.ensures ∙ c.if-is_bare_byte.false)

pub returns : goal.returns
returns c =
    let text = c.args.text.now in
    let others = c.in_ok-first.others.now in
    let rest = c.match-first.rest.now in
    let found : BareFirst text rest ⊎ QuotedFirst text rest = elim c.match-first.branch [
      | in-34+in_ok-rest-in-34 w ↦
          inr (record { others = others; parts = c.in_ok-first.ensures.cases.0 ∙ ap (λ b. b ∷ others) w.in-34.is; closes = subst (λ r. Closes others r.now) (sym w.rest-is) w.in_ok-rest-in-34.ensures })
      | in_default w ↦
          inl (record { byte = c.in_ok-first.first.now; others = others; parts = c.in_ok-first.ensures.cases.0; bare = sym w.is_bare_byte.ensures ∙ w.if-is_bare_byte.true; behind_it = sym (ap (λ r. r.now) w.rest-is ∙ w.behind_bare-rest.ensures) })
    ] in
    subst (λ r. MatchOption r ((word : Word) (rest : Line) → BeginsWith text word rest → ⊥) (λ rest. (word : Word) × BeginsWith text word rest.now))
    (sym c.then_some.ensures) (word_or_none text c.match-first.rest c.ends_word.result found c.ends_word.ensures)
