-- Commands are the same where they mean the same.
use Rattle.std.proofs.Common.{Some, ap, sym, ◌∙◌}
use Rattle.std.proofs.lemmas.Bool.Decides.{Decides-at}
use Rattle.cg_command.proofs.Alike.{commands}
use Rattle.cg_view.specs.Committed.{meant}
use Rattle.cg_view.specs.Lent.{step_meant}
use Rattle.cg_view.proofs.Committed.{on_true, on_false, some_is}
use Rattle.cg_view.proofs.walk.Step.is.Goals as goal

pub returns-in-Does-Does-clause-yes : goal.returns-in-Does-Does-clause-yes
returns-in-Does-Does-clause-yes c =
    on_true c.eq.result (Decides-at _ _ c.eq.ensures (commands c.in-Does-Does.own.now c.in-Does-Does.command))
    (λ e. ap meant c.in-Does-Does.is-1 ∙ ap Some (sym e) ∙ sym (ap step_meant c.in-Does-Does.is-0))

pub returns-in-Does-Does-clause-no : goal.returns-in-Does-Does-clause-no
returns-in-Does-Does-clause-no c =
    on_false c.eq.result (Decides-at _ _ c.eq.ensures (commands c.in-Does-Does.own.now c.in-Does-Does.command))
    (λ e. some_is _ _ (sym (sym (ap meant c.in-Does-Does.is-1) ∙ e ∙ ap step_meant c.in-Does-Does.is-0)))
