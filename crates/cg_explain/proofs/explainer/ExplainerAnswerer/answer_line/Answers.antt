use Rattle.std.proofs.Common.{◌∙◌, ◌++◌, ap, length}
use Rattle.cg_core.specs.State.{CoreState}
use Rattle.cg_explain.specs.Explained.{notes_text}
use Rattle.cg_explain.proofs.Played.{explains_told}
use Rattle.cg_explain.proofs.Told.{as_many}
use Rattle.cg_explain.proofs.explainer.ExplainerAnswerer.answer_line.Goals as goal

pub returns-clause-ok : goal.returns-clause-ok
returns-clause-ok c =
    let written = c.in_ok-answer.ensures.ok in
    let is = written.1 ∙ ap (λ x. x ++ written.0) c.new-answer.ensures.items in
    let u = c.count.new.self in
    let n = length c.history-before.result.now in
    let told = c.in_ok-append_notes.ensures ∙ ap (λ x. x ++ notes_text u.comments.explain n u.begun u.asked u.player.core) c.in_ok-told.ensures in
    let before = as_many c.history-before.result.now c.args.self.now.player.core.history (c.history-before.ensures ∙ ap (λ (k : CoreState). k.history) c.core.ensures) in (
      c.as_slice-3.result.now,
      c.in_ok-extend_from_slice.ensures.items,
      explains_told c.args.self.now u c.answer.new.self c.args.line.now written.0 c.as_slice.result.now c.as_slice-2.result.now c.shown_line-shown.result.now c.as_slice-3.result.now n
          written.2 (c.as_slice.ensures.value ∙ is) (c.as_slice-2.ensures.value ∙ is) c.in_ok-count.ensures c.shown_line-shown.ensures before (c.as_slice-3.ensures.value ∙ told),
    )
