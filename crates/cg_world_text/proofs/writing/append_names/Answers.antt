-- The names behind one space, where there are any.
use Rattle.std.proofs.Common.{◌∷◌, [], ◌++◌, sym, ap, ◌∙◌, append_assoc, true≢false}
use Rattle.cg_text.specs.FileText.{names_text}
use Rattle.cg_world_text.proofs.Appending.{spaced_all}
use Rattle.cg_world_text.proofs.writing.append_names.Goals as goal

pub returns-clause-ok : goal.returns-clause-ok
returns-clause-ok c =
    let old = c.args.out.now.items in
    let s = c.args.controllers.now in
    let names = names_text 32 s in
    c.in_ok-write_names.ensures.ok
    ∙ ap (λ l. l ++ names) c.in_ok-push.ensures.items
    ∙ append_assoc old (32 ∷ []) names
    ∙ ap (λ t. old ++ t) (spaced_all s (λ e. true≢false (sym (c.is_empty.ensures.1 e) ∙ c.if-is_empty.false)))
