use Rattle.std.proofs.Common.{nat_eq, sym, ap, ◌∙◌}
use Rattle.std.specs.Cmp.Lexicographic.{pointwise}
use Rattle.cg_replay.proofs.LastSession.{number_at, names_at}
use Rattle.cg_replay.proofs.player.is_at.Goals as goal

pub returns-in-Some-clause-number : goal.returns-in-Some-clause-number
returns-in-Some-clause-number c =
    λ e.
    number_at _ _ c.in-Some.there.now c.args.name.now c.len.ensures.unique (sym c.in-Some.ensures.key)
    (ap (λ n. pointwise nat_eq n c.args.name.now) (sym c.as_bytes.ensures.value) ∙ sym c.eq.ensures ∙ e)

pub returns-in-Some-clause-names : goal.returns-in-Some-clause-names
returns-in-Some-clause-names c =
    λ e.
    names_at _ c.args.place c.in-Some.there.now c.args.name.now c.len.ensures.unique (sym c.in-Some.ensures.key)
    (ap (λ n. pointwise nat_eq n c.args.name.now) (sym c.as_bytes.ensures.value) ∙ sym c.eq.ensures ∙ e)
