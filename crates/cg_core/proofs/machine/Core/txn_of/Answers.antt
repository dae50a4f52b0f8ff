use Rattle.std.proofs.Common.{Some, sym, ap, ◌∙◌}
use Rattle.std.specs.Option.{option_copied}
use Rattle.cg_model.specs.Opens.{opens, transaction_in}
use Rattle.cg_core.proofs.Open.{session_none, session_some}
use Rattle.cg_core.proofs.machine.Core.txn_of.Goals as goal

pub returns-in-Some : goal.returns-in-Some
returns-in-Some c =
    ap Some c.number.ensures
    ∙ sym (session_some _ _ _ _ c.self.invariant.transactions c.args.session.0 c.in-Some.txn.now (sym c.get.ensures ∙ ap option_copied c.in-Some.is)).0
    ∙ ap (λ v. transaction_in c.args.session.0 (opens v.history)) c.self.view_is

pub returns-in-None : goal.returns-in-None
returns-in-None c =
    sym (session_none _ _ _ _ c.self.invariant.transactions c.args.session.0 (sym c.get.ensures ∙ ap option_copied c.in-None.is))
    ∙ ap (λ v. transaction_in c.args.session.0 (opens v.history)) c.self.view_is
