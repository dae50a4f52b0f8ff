use Rattle.std.proofs.Common.{◌∷◌, ap, subst}
use Rattle.std.specs.Prelude.{codes}
use Rattle.std.proofs.lemmas.Result.{err_from_is_err_and}
use Rattle.cg_world_text.specs.Statement.{SpellsStatement}
use Rattle.cg_world_text.proofs.Spelled.{group_settings, four_and_more}
use Rattle.cg_world_text.proofs.statement.read_group.Goals as goal

pub returns-in_err-read_settings-in-len4-up-clause-syntax : goal.returns-in_err-read_settings-in-len4-up-clause-syntax
returns-in_err-read_settings-in-len4-up-clause-syntax c =
    let words = ap (λ ws. codes "group" ∷ ws) (four_and_more c.args.rest.now c.in-len4-up.len_at_least) in
    let gone = err_from_is_err_and c.from_residual-in_err-read_settings-in-len4-up.result c.from_residual-in_err-read_settings-in-len4-up.ensures.1 in
    λ e s h.
    let k = group_settings c.args.version _ _ _ _ _ s (subst (λ ws. SpellsStatement c.args.version ws s) words h) in
    c.in_err-read_settings-in-len4-up.ensures.syntax (cc (gone.1, gone.2)) k.0 k.1

pub returns-in_ok-read_settings-in-len4-up-clause-value : goal.returns-in_ok-read_settings-in-len4-up-clause-value
returns-in_ok-read_settings-in-len4-up-clause-value c =
    let words = ap (λ ws. codes "group" ∷ ws) (four_and_more c.args.rest.now c.in-len4-up.len_at_least) in
    let path = c.in_ok-read-in-len4-up.ensures.value in
    let s = c.in_ok-read_settings-in-len4-up.ensures.value in
    (_, _, _, _, _, words, path, s.0, s.1, s.2, s.3)
