-- A call is recorded there where its request and its answer mean the same as those of the record.
use Rattle.std.proofs.Common.{ap, sym, ◌∙◌}
use Rattle.std.proofs.lemmas.Bool.{false≢true}
use Rattle.std.proofs.lemmas.Bool.Decides.{Decides-at}
use Rattle.cg_history.proofs.Alike.{answers, requests}
use Rattle.cg_log.proofs.call.Call.is_in.Goals as goal

pub returns-then-eq : goal.returns-then-eq
returns-then-eq c =
    let r = Decides-at _ _ c.eq.ensures (requests c.args.self.now.request c.args.entry.now.request) in
    let a = Decides-at _ _ c.eq-then-eq.ensures (answers c.args.self.now.answer c.args.entry.now.answer) in (
      (λ h i. record { request = r.0 c.if-eq.true i; answer = a.0 h i }),
      (λ e. a.1 (ap (λ x. x.answer) e)),
    )

pub returns-else-eq : goal.returns-else-eq
returns-else-eq c =
    let r = Decides-at _ _ c.eq.ensures (requests c.args.self.now.request c.args.entry.now.request) in (
      (λ h. absurd (false≢true (sym c.if-eq.false ∙ h))),
      (λ e. r.1 (ap (λ x. x.request) e)),
    )
