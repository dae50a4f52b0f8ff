use Rattle.std.proofs.Common.{ap, Err, inr, refl}
use Rattle.cg_script.proofs.Facts.{on_ok_map}
use Rattle.cg_replay.proofs.player.Player.answer_words.Goals as goal

pub returns-in-Err-Syntax-clause-ok : goal.returns-in-Err-Syntax-clause-ok
returns-in-Err-Syntax-clause-ok c =
    on_ok_map c.refuse.result
    (λ e. (_, e, inr (c.in-Err-Syntax.ensures.syntax (ap (λ e. Err e) c.in-Err-Syntax.field-0-is), refl, c.in-Err-Syntax.ensures.err)))
    c.refuse.ensures.ok
