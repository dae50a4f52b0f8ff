-- Both processes and both cells are told.
use Rattle.std.proofs.Common.{◌≡◌, Some, get_or, slice_get}
use Rattle.std.proofs.lemmas.Option.{slice_get-get_or}
use Rattle.cg_places.specs.declared.seats.Process.{Process}
use Rattle.cg_places.specs.declared.seats.Cell.{Cell}
use Rattle.cg_places.proofs.Seating.{traded, own_top, whos_kept, next_kept, groups_kept}
use Rattle.cg_places.proofs.seats.trade.Goals as goal

pub returns-clause-seats : goal.returns-clause-seats
returns-clause-seats c =
    let p : Process = get_or c.args.processes.now c.args.number (record { pid = 0; group = 0; cell = 0 }) in
    let t : Cell = get_or c.args.cells.now c.args.top (record { process = 0; next = 0 }) in
    let at_p : slice_get c.args.processes.now c.args.number ≡ Some p = slice_get-get_or c.args.processes.now c.args.number (record { pid = 0; group = 0; cell = 0 }) c.requires.number in
    let at_t : slice_get c.args.cells.now c.args.top ≡ Some t = slice_get-get_or c.args.cells.now c.args.top (record { process = 0; next = 0 }) c.requires.top in
    let x = c.requires.seats.taken c.args.top t at_t in
    let d = c.requires.seats.seat c.args.number p at_p in
    traded c.args.processes.now c.set_cell.new.processes c.set_cell-2.new.processes c.args.cells.now c.set_process.new.cells c.set_process-2.new.cells c.args.number c.args.top p x.0 d.0 t c.requires.seats at_p at_t x.1 d.1
    (c.set_process.ensures d.0 d.1) (c.set_cell.ensures x.0 x.1) c.set_process-2.ensures c.set_cell-2.ensures (c.requires.same p at_p)

pub returns-clause-own : goal.returns-clause-own
returns-clause-own c =
    let p : Process = get_or c.args.processes.now c.args.number (record { pid = 0; group = 0; cell = 0 }) in
    let t : Cell = get_or c.args.cells.now c.args.top (record { process = 0; next = 0 }) in
    let at_p : slice_get c.args.processes.now c.args.number ≡ Some p = slice_get-get_or c.args.processes.now c.args.number (record { pid = 0; group = 0; cell = 0 }) c.requires.number in
    let at_t : slice_get c.args.cells.now c.args.top ≡ Some t = slice_get-get_or c.args.cells.now c.args.top (record { process = 0; next = 0 }) c.requires.top in
    let x = c.requires.seats.taken c.args.top t at_t in
    let d = c.requires.seats.seat c.args.number p at_p in
    own_top c.args.processes.now c.set_cell.new.processes c.set_cell-2.new.processes c.args.cells.now c.set_process.new.cells c.set_process-2.new.cells c.args.number c.args.top p x.0 d.0 t c.requires.seats at_p at_t x.1 d.1
    (c.set_process.ensures d.0 d.1) (c.set_cell.ensures x.0 x.1) c.set_process-2.ensures c.set_cell-2.ensures (c.requires.same p at_p)

pub returns-clause-kept : goal.returns-clause-kept
returns-clause-kept c =
    let p : Process = get_or c.args.processes.now c.args.number (record { pid = 0; group = 0; cell = 0 }) in
    let t : Cell = get_or c.args.cells.now c.args.top (record { process = 0; next = 0 }) in
    let at_p : slice_get c.args.processes.now c.args.number ≡ Some p = slice_get-get_or c.args.processes.now c.args.number (record { pid = 0; group = 0; cell = 0 }) c.requires.number in
    let at_t : slice_get c.args.cells.now c.args.top ≡ Some t = slice_get-get_or c.args.cells.now c.args.top (record { process = 0; next = 0 }) c.requires.top in
    let x = c.requires.seats.taken c.args.top t at_t in
    let d = c.requires.seats.seat c.args.number p at_p in
    whos_kept c.args.processes.now c.set_cell.new.processes c.set_cell-2.new.processes c.args.cells.now c.set_process.new.cells c.set_process-2.new.cells c.args.number c.args.top p x.0 d.0 t c.requires.seats at_p at_t x.1 d.1
    (c.set_process.ensures d.0 d.1) (c.set_cell.ensures x.0 x.1) c.set_process-2.ensures c.set_cell-2.ensures (c.requires.same p at_p)

pub returns-clause-next : goal.returns-clause-next
returns-clause-next c =
    let p : Process = get_or c.args.processes.now c.args.number (record { pid = 0; group = 0; cell = 0 }) in
    let t : Cell = get_or c.args.cells.now c.args.top (record { process = 0; next = 0 }) in
    let at_p : slice_get c.args.processes.now c.args.number ≡ Some p = slice_get-get_or c.args.processes.now c.args.number (record { pid = 0; group = 0; cell = 0 }) c.requires.number in
    let at_t : slice_get c.args.cells.now c.args.top ≡ Some t = slice_get-get_or c.args.cells.now c.args.top (record { process = 0; next = 0 }) c.requires.top in
    let x = c.requires.seats.taken c.args.top t at_t in
    let d = c.requires.seats.seat c.args.number p at_p in
    next_kept c.args.processes.now c.set_cell.new.processes c.set_cell-2.new.processes c.args.cells.now c.set_process.new.cells c.set_process-2.new.cells c.args.number c.args.top p x.0 d.0 t c.requires.seats at_p at_t x.1 d.1
    (c.set_process.ensures d.0 d.1) (c.set_cell.ensures x.0 x.1) c.set_process-2.ensures c.set_cell-2.ensures (c.requires.same p at_p)

pub returns-clause-groups : goal.returns-clause-groups
returns-clause-groups c =
    let p : Process = get_or c.args.processes.now c.args.number (record { pid = 0; group = 0; cell = 0 }) in
    let t : Cell = get_or c.args.cells.now c.args.top (record { process = 0; next = 0 }) in
    let at_p : slice_get c.args.processes.now c.args.number ≡ Some p = slice_get-get_or c.args.processes.now c.args.number (record { pid = 0; group = 0; cell = 0 }) c.requires.number in
    let at_t : slice_get c.args.cells.now c.args.top ≡ Some t = slice_get-get_or c.args.cells.now c.args.top (record { process = 0; next = 0 }) c.requires.top in
    let x = c.requires.seats.taken c.args.top t at_t in
    let d = c.requires.seats.seat c.args.number p at_p in
    groups_kept c.args.processes.now c.set_cell.new.processes c.set_cell-2.new.processes c.args.cells.now c.set_process.new.cells c.set_process-2.new.cells c.args.number c.args.top p x.0 d.0 t c.requires.seats at_p at_t x.1 d.1
    (c.set_process.ensures d.0 d.1) (c.set_cell.ensures x.0 x.1) c.set_process-2.ensures c.set_cell-2.ensures (c.requires.same p at_p)
