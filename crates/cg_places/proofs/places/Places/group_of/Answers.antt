-- The process with the PID's number is in the group.
use Rattle.std.proofs.Common.{◌≡◌, Some, None, option_copied, sym, ap, ◌∙◌, arith}
use Rattle.std.proofs.lemmas.Option.{get_or_from_slice_get}
use Rattle.cg_places.specs.declared.seats.Process.{Process}
use Rattle.cg_places.proofs.Placing.{seen_none, seen_some, number_within}
use Rattle.cg_places.proofs.places.Places.group_of.Goals as goal

pub returns-in_err-number : goal.returns-in_err-number
returns-in_err-number c =
    let t = c.self.inside in
    let none = sym c.get.ensures.value ∙ ap option_copied c.in_err-number.was in
    c.from_residual.ensures ∙ sym (seen_none t.numbers.entries t.processes.items t.cells.items t.stacks.items c.self.invariant c.args.self.now c.self.view_is c.args.pid none)

pub index-requires : goal.index-requires
index-requires c =
    let t = c.self.inside in
    let is = sym c.get.ensures.value ∙ ap option_copied c.in_ok-number.was in
    omega (arith, number_within t.numbers.entries t.processes.items t.cells.items t.stacks.items c.self.invariant c.args.pid c.in_ok-number.field-0.now is, t.processes.ok.0)

pub returns : goal.returns
returns c =
    let t = c.self.inside in
    let is = sym c.get.ensures.value ∙ ap option_copied c.in_ok-number.was in
    let p = seen_some t.numbers.entries t.processes.items t.cells.items t.stacks.items c.self.invariant c.args.self.now c.self.view_is c.args.pid c.in_ok-number.field-0.now is in
    ap (λ (x : Process). Some x.group) (c.index.ensures ∙ get_or_from_slice_get t.processes.items c.in_ok-number.field-0.now p.0 c.index.result.now p.1) ∙ sym p.2
