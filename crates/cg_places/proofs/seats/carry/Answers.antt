-- The process trades its cell for the one on top, which then goes to the other stack.
use Rattle.std.proofs.Common.{◌≡◌, ◌-◌, ◌<◌, ℕ, suc, Some, length, get_or, slice_get, option_map, sym, ap, subst, ◌∙◌, arith}
use Rattle.std.proofs.lemmas.Option.{slice_get-get_or}
use Rattle.cg_places.specs.declared.seats.Process.{Process}
use Rattle.cg_places.specs.declared.seats.Stack.{Stack}
use Rattle.cg_places.specs.Seats.{who, group_in}
use Rattle.cg_places.proofs.Lists.{same_some, unmap, item_at}
use Rattle.cg_places.proofs.Seating.{top_there, own_group, within_cells, count_fits, seated-kept, moved}
use Rattle.cg_places.proofs.seats.carry.Goals as goal

pub trade-requires-clause-top : goal.trade-requires-clause-top
trade-requires-clause-top c =
    let ps = c.args.processes.now in
    let cells = c.args.cells.now in
    let ss = c.args.stacks.now in
    let p : Process = get_or ps c.args.number (record { pid = 0; group = 0; cell = 0 }) in
    let at_p : slice_get ps c.args.number ≡ Some p = slice_get-get_or ps c.args.number (record { pid = 0; group = 0; cell = 0 }) c.requires.number in
    let low : p.group < length ss = c.requires.seated.within c.args.number p at_p in
    let s : Stack = get_or ss p.group (record { first = 0; count = 0 }) in
    let at_s : slice_get ss p.group ≡ Some s = slice_get-get_or ss p.group (record { first = 0; count = 0 }) low in
    let top = top_there ps cells ss c.requires.seated p.group s at_s p.cell (own_group ps cells ss c.requires.seated c.args.number p at_p) in
    within_cells ps cells ss c.requires.seated s.first p.group top.1

pub trade-requires-clause-same : goal.trade-requires-clause-same
trade-requires-clause-same c q at =
    let ps = c.args.processes.now in
    let cells = c.args.cells.now in
    let ss = c.args.stacks.now in
    let p : Process = get_or ps c.args.number (record { pid = 0; group = 0; cell = 0 }) in
    let at_p : slice_get ps c.args.number ≡ Some p = slice_get-get_or ps c.args.number (record { pid = 0; group = 0; cell = 0 }) c.requires.number in
    let low : p.group < length ss = c.requires.seated.within c.args.number p at_p in
    let s : Stack = get_or ss p.group (record { first = 0; count = 0 }) in
    let at_s : slice_get ss p.group ≡ Some s = slice_get-get_or ss p.group (record { first = 0; count = 0 }) low in
    let top = top_there ps cells ss c.requires.seated p.group s at_s p.cell (own_group ps cells ss c.requires.seated c.args.number p at_p) in
    top.1 ∙ ap (λ (y : Process). Some y.group) (same_some p q (sym at_p ∙ at))

pub shift-requires-clause-from : goal.shift-requires-clause-from
shift-requires-clause-from c =
    let ps = c.args.processes.now in
    let cells = c.args.cells.now in
    let ss = c.args.stacks.now in
    let p : Process = get_or ps c.args.number (record { pid = 0; group = 0; cell = 0 }) in
    let at_p : slice_get ps c.args.number ≡ Some p = slice_get-get_or ps c.args.number (record { pid = 0; group = 0; cell = 0 }) c.requires.number in
    let low : p.group < length ss = c.requires.seated.within c.args.number p at_p in
    let s : Stack = get_or ss p.group (record { first = 0; count = 0 }) in
    let at_s : slice_get ss p.group ≡ Some s = slice_get-get_or ss p.group (record { first = 0; count = 0 }) low in
    let top = top_there ps cells ss c.requires.seated p.group s at_s p.cell (own_group ps cells ss c.requires.seated c.args.number p at_p) in
    low

pub shift-requires-clause-some : goal.shift-requires-clause-some
shift-requires-clause-some c r at =
    let ps = c.args.processes.now in
    let cells = c.args.cells.now in
    let ss = c.args.stacks.now in
    let p : Process = get_or ps c.args.number (record { pid = 0; group = 0; cell = 0 }) in
    let at_p : slice_get ps c.args.number ≡ Some p = slice_get-get_or ps c.args.number (record { pid = 0; group = 0; cell = 0 }) c.requires.number in
    let low : p.group < length ss = c.requires.seated.within c.args.number p at_p in
    let s : Stack = get_or ss p.group (record { first = 0; count = 0 }) in
    let at_s : slice_get ss p.group ≡ Some s = slice_get-get_or ss p.group (record { first = 0; count = 0 }) low in
    let top = top_there ps cells ss c.requires.seated p.group s at_s p.cell (own_group ps cells ss c.requires.seated c.args.number p at_p) in
    let own : s ≡ r = same_some s r (sym at_s ∙ at) in
    let inside = within_cells ps cells ss c.requires.seated s.first p.group top.1 in
    (subst (λ (y : Stack). 0 < y.count) own top.0, subst (λ (y : Stack). y.first < length c.trade.new.cells) own (subst (λ k. s.first < k) (sym c.trade.ensures.lengths.1) inside))

pub shift-requires-clause-fits : goal.shift-requires-clause-fits
shift-requires-clause-fits c t at =
    omega (arith, count_fits c.args.processes.now c.args.cells.now c.args.stacks.now c.requires.seated c.args.to t at, c.requires.seated.seats.many, c.requires.few)

pub returns-clause-seated : goal.returns-clause-seated
returns-clause-seated c =
    let ps = c.args.processes.now in
    let cells = c.args.cells.now in
    let ss = c.args.stacks.now in
    let p : Process = get_or ps c.args.number (record { pid = 0; group = 0; cell = 0 }) in
    let at_p : slice_get ps c.args.number ≡ Some p = slice_get-get_or ps c.args.number (record { pid = 0; group = 0; cell = 0 }) c.requires.number in
    let low : p.group < length ss = c.requires.seated.within c.args.number p at_p in
    let s : Stack = get_or ss p.group (record { first = 0; count = 0 }) in
    let at_s : slice_get ss p.group ≡ Some s = slice_get-get_or ss p.group (record { first = 0; count = 0 }) low in
    let top = top_there ps cells ss c.requires.seated p.group s at_s p.cell (own_group ps cells ss c.requires.seated c.args.number p at_p) in
    let ps1 = c.trade.new.processes in
    let cells1 = c.trade.new.cells in
    let h = seated-kept ps ps1 cells cells1 ss c.requires.seated c.trade.ensures.seats c.trade.ensures.kept c.trade.ensures.next c.trade.ensures.groups in
    let x = unmap who (slice_get ps1 c.args.number) (who p) (c.trade.ensures.kept c.args.number ∙ ap (option_map who) at_p) in
    let t = item_at ss c.args.to c.requires.to in
    let inside : s.first < length cells1 = subst (λ k. s.first < k) (sym c.trade.ensures.lengths.1) (within_cells ps cells ss c.requires.seated s.first p.group top.1) in
    let d = item_at cells1 s.first inside in
    let n : ℕ = s.count - 1 in
    let some : s.count ≡ suc n = omega (arith, top.0) in
    moved ps1 c.set_group.new.processes cells1 c.shift.new.cells ss c.shift.new.stacks h c.args.number p.group c.args.to n x.0 s t.0 d.0 c.if-from-to.false
    x.1 (ap (λ (y : ℕ × ℕ). y.1) x.2) at_s some (c.trade.ensures.own x.0 x.1) t.1 d.1
    (c.shift.ensures.cells s t.0 d.0 at_s t.1 d.1) (c.set_group.ensures x.0 x.1)
    (c.shift.ensures.from s d.0 n at_s some d.1) (c.shift.ensures.to s t.0 at_s t.1) c.shift.ensures.others c.shift.ensures.length

pub returns-clause-others : goal.returns-clause-others
returns-clause-others c i ne =
    let ps = c.args.processes.now in
    let p : Process = get_or ps c.args.number (record { pid = 0; group = 0; cell = 0 }) in
    let at_p : slice_get ps c.args.number ≡ Some p = slice_get-get_or ps c.args.number (record { pid = 0; group = 0; cell = 0 }) c.requires.number in
    let x = unmap who (slice_get c.trade.new.processes c.args.number) (who p) (c.trade.ensures.kept c.args.number ∙ ap (option_map who) at_p) in
    ap (option_map who) ((c.set_group.ensures x.0 x.1).others i ne) ∙ c.trade.ensures.kept i
