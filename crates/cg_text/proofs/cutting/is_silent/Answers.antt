use Rattle.std.proofs.Common.{sym, ap, ◌∙◌}
use Rattle.cg_text.proofs.Blanks.{silent_behind, starts_silent, silent_at_none, silent_at_some}
use Rattle.cg_text.proofs.cutting.is_silent.Goals as goal

pub returns-in-None : goal.returns-in-None
returns-in-None c =
    sym (silent_behind c.args.line.now ∙ ap starts_silent (sym (c.as_bytes.ensures.value ∙ c.behind_blanks.ensures)) ∙ silent_at_none c.as_bytes.result.now c.in-None.ensures.value)

pub returns-in-Some : goal.returns-in-Some
returns-in-Some c =
    sym (silent_behind c.args.line.now ∙ ap starts_silent (sym (c.as_bytes.ensures.value ∙ c.behind_blanks.ensures)) ∙ silent_at_some c.as_bytes.result.now c.in-Some.byte.now c.in-Some.ensures.value)
