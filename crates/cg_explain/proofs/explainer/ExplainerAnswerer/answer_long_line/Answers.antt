use Rattle.std.proofs.Common.{◌≡◌, ℕ, ◌<◌, List, [], ◌++◌, length, nat_le, sym, ap, ◌∙◌}
use Rattle.std.proofs.lemmas.Bool.{cond-false, lt-leb}
use Rattle.cg_name.specs.Refusal.{refusal_text}
use Rattle.cg_name.specs.declared.refusal.Refusal.TheVariants.{Syntax}
use Rattle.cg_core.specs.State.{CoreState}
use Rattle.cg_script.specs.Request.{newline}
use Rattle.cg_replay.proofs.Playing.{long_answered}
use Rattle.cg_explain.specs.Explained.{notes_text, shown_line}
use Rattle.cg_explain.proofs.Played.{explains_told}
use Rattle.cg_explain.proofs.Told.{as_many}
use Rattle.cg_explain.proofs.explainer.ExplainerAnswerer.answer_long_line.Goals as goal

-- nothing is shown of a line that is too long
nothing_shown : (line : List ℕ) → 65536 < length line → [] ≡ shown_line line
nothing_shown line long = sym (cond-false (nat_le (length line) 65536) line [] (lt-leb (length line) 65536 long))

pub returns-clause-ok : goal.returns-clause-ok
returns-clause-ok c =
    let written : List ℕ = refusal_text Syntax ++ newline in
    let is = c.in_ok-refuse.ensures.ok ∙ ap (λ x. x ++ written) c.new-answer.ensures.items in
    let u = c.count.new.self in
    let n = length c.history-before.result.now in
    let told = c.in_ok-append_notes.ensures ∙ ap (λ x. x ++ notes_text u.comments.explain n u.begun u.asked u.player.core) c.in_ok-told.ensures in
    let before = as_many c.history-before.result.now c.args.self.now.player.core.history (c.history-before.ensures ∙ ap (λ (k : CoreState). k.history) c.core.ensures) in (
      c.as_slice-3.result.now,
      c.in_ok-extend_from_slice.ensures.items,
      λ line long.
          explains_told c.args.self.now u c.args.self.now.player line written c.as_slice.result.now c.as_slice-2.result.now [] c.as_slice-3.result.now n
          (long_answered c.args.self.now.player line long) (c.as_slice.ensures.value ∙ is) (c.as_slice-2.ensures.value ∙ is) c.in_ok-count.ensures (nothing_shown line long) before (c.as_slice-3.ensures.value ∙ told),
    )
