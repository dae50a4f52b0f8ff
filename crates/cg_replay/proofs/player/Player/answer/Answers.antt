use Rattle.std.proofs.Common.{sym, subst, ap, map, Some, Err, inr, refl}
use Rattle.cg_text.specs.Words.{Says}
use Rattle.cg_script.proofs.Facts.{on_ok_map}
use Rattle.cg_script.proofs.OneLine.{says_of}
use Rattle.cg_replay.proofs.Playing.{answers_words}
use Rattle.cg_replay.proofs.player.Player.answer.Goals as goal

pub returns-in-Ok-true-clause-ok : goal.returns-in-Ok-true-clause-ok
returns-in-Ok-true-clause-ok c =
    let line = c.args.line.now in
    let words = map (λ w. w.now) c.as_slice.result.now in
    let says = subst (λ ws. Says line (Some ws)) (sym c.as_slice.ensures) (c.in-Ok-true.ensures.words c.in-Ok-true.field-0-test) in
    on_ok_map c.answer_words.result
    (λ w. (w.0, w.1, answers_words c.args.self.now c.answer_words.new.self line w.0 words says w.2))
    c.answer_words.ensures.ok

pub returns-in-Err-Syntax-clause-ok : goal.returns-in-Err-Syntax-clause-ok
returns-in-Err-Syntax-clause-ok c =
    on_ok_map c.refuse.result
    (λ e. (
      _,
      e,
      inr (inr (
        (λ call spelled.
            let said = says_of c.args.line.now call spelled in
            absurd (c.in-Err-Syntax.ensures.syntax (ap (λ e. Err e) c.in-Err-Syntax.field-0-is) said.0 said.1)),
        refl,
        refl,
      )),
    ))
    c.refuse.ensures.ok
