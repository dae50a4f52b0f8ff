use Rattle.std.proofs.Common.{rules, ◌≡◌, ◌≤◌, ℕ, Some, Err, refl, sym, ap, ◌∙◌, inr}
use Rattle.cg_capi.specs.Calls.{holds}
use Rattle.cg_line_machine.specs.Teller.{Told}
use Rattle.cg_name.specs.declared.refusal.Refusal.{Refusal}
use Rattle.cg_capi.proofs.Opening.{is_opened, not_opened, why_refused}
use Rattle.cg_capi.proofs.cgtx_raw_open.Goals as goal

pub returns-in-Err : goal.returns-in-Err
returns-in-Err c =
    not_opened (holds c.args.handle.now) (holds c.args.handle.now) c.args.world.now c.args.limit c.number-in-Err.result (sym c.if-is_open.ensures) refl
    (why_refused c.args.world.now c.args.limit c.number-in-Err.result c.in-Err.refusal c.in-Err.ensures.refusals
    (λ is. c.in-Err.ensures.syntax (ap (λ (x : Refusal). Err x) is)) c.number-in-Err.ensures)

pub returns-in-Ok-new : goal.returns-in-Ok-new
returns-in-Ok-new c =
    let low : 2 ≤ c.args.limit = search rules in
    let high : c.args.limit ≤ 1048576 = search rules in
    let opened = c.in-Ok.ensures.value in
    is_opened (holds c.args.handle.now) (holds c.put.new.self) c.args.world.now c.args.limit c.number-in-Ok-new.result opened.0 (sym c.if-is_open.ensures) opened.1 low high
    (c.put.ensures ∙ ap (λ (t : Told). Some t) (c.in-Ok-new.ensures.ok ∙ opened.2)) c.number-in-Ok-new.ensures

pub returns : goal.returns
returns c =
    not_opened (holds c.args.handle.now) (holds c.args.handle.now) c.args.world.now c.args.limit c.number-in-Err-new.result (sym c.if-is_open.ensures) refl
    (inr (inr c.number-in-Err-new.ensures))
