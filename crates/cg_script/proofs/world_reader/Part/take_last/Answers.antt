use Rattle.std.proofs.Common.{[], ◌∷◌, ◌++◌, append-nil, subst, sym, ◌∙◌, true≢false}
use Rattle.std.proofs.lemmas.Result.{err_from_is_err_and}
use Rattle.cg_world_text.specs.Reader.{SpellTree}
use Rattle.cg_world_text.proofs.Taken.{some_last}
use Rattle.cg_script.proofs.world_reader.Part.take_last.Goals as goal

pub returns-in_err-take-clause-syntax : goal.returns-in_err-take-clause-syntax
returns-in_err-take-clause-syntax c =
    let gone = err_from_is_err_and c.from_residual.result c.from_residual.ensures.1 in
    λ e lines h ends T tree. c.in_err-take.ensures.syntax (cc (gone.1, gone.2)) lines h [] T (subst (λ ls. SpellTree ls T) (sym (append-nil (lines ++ c.args.line.now ∷ []))) tree)

pub returns-else-has_ended-clause-syntax : goal.returns-else-has_ended-clause-syntax
returns-else-has_ended-clause-syntax c = λ _ lines h ends T tree.
    let ended = (c.has_ended.ensures (lines ++ c.args.line.now ∷ []) (c.in_ok-take.ensures.taken lines h)).1 (some_last lines c.args.line.now ends) in
    absurd (true≢false (sym ended ∙ c.if-has_ended.false))
