-- From the top of the stack to its end.
use Rattle.std.proofs.Common.{◌≡◌, ◌+◌, Some, get_or, slice_get, subst, sym}
use Rattle.std.proofs.lemmas.Option.{slice_get-get_or}
use Rattle.cg_places.specs.declared.seats.Process.{Process}
use Rattle.cg_places.specs.declared.seats.Cell.{Cell}
use Rattle.cg_places.specs.declared.seats.Stack.{Stack}
use Rattle.cg_places.specs.Walks.{Walks}
use Rattle.cg_places.proofs.Walking.{starts, cell_inside, process_inside, goes_on, theirs}
use Rattle.cg_places.proofs.listing.gather.Goals as goal

pub loop-init : goal.loop-init
loop-init c =
    let ps = c.args.processes.now in
    let cells = c.args.cells.now in
    let ss = c.args.stacks.now in
    let s : Stack = get_or ss c.args.group (record { first = 0; count = 0 }) in
    let at : slice_get ss c.args.group ≡ Some s = slice_get-get_or ss c.args.group (record { first = 0; count = 0 }) c.requires.group in
    subst (Walks ps cells c.args.group s 0 s.first) (sym c.in_ok-pids.ensures.items) (starts ps cells ss c.requires.seated c.args.group s at)

pub bounds-cells-at : goal.bounds-cells-at
bounds-cells-at c =
    let ps = c.args.processes.now in
    let cells = c.args.cells.now in
    let ss = c.args.stacks.now in
    let s : Stack = get_or ss c.args.group (record { first = 0; count = 0 }) in
    cell_inside ps cells ss c.requires.seated c.args.group s c.loop.counter c.loop.at c.loop.pids.items c.loop.invariant c.loop-test.true

pub bounds-processes-cell : goal.bounds-processes-cell
bounds-processes-cell c =
    let ps = c.args.processes.now in
    let cells = c.args.cells.now in
    let ss = c.args.stacks.now in
    let s : Stack = get_or ss c.args.group (record { first = 0; count = 0 }) in
    let inside = cell_inside ps cells ss c.requires.seated c.args.group s c.loop.counter c.loop.at c.loop.pids.items c.loop.invariant c.loop-test.true in
    let d : Cell = get_or cells c.loop.at (record { process = 0; next = 0 }) in
    process_inside ps cells ss c.requires.seated c.args.group s c.loop.counter c.loop.at c.loop.pids.items c.loop.invariant c.loop-test.true d (slice_get-get_or cells c.loop.at (record { process = 0; next = 0 }) inside)

pub loop-preserved : goal.loop-preserved
loop-preserved c =
    let ps = c.args.processes.now in
    let cells = c.args.cells.now in
    let ss = c.args.stacks.now in
    let s : Stack = get_or ss c.args.group (record { first = 0; count = 0 }) in
    let inside = cell_inside ps cells ss c.requires.seated c.args.group s c.loop.counter c.loop.at c.loop.pids.items c.loop.invariant c.loop-test.true in
    let d : Cell = get_or cells c.loop.at (record { process = 0; next = 0 }) in
    let at_d : slice_get cells c.loop.at ≡ Some d = slice_get-get_or cells c.loop.at (record { process = 0; next = 0 }) inside in
    let within = process_inside ps cells ss c.requires.seated c.args.group s c.loop.counter c.loop.at c.loop.pids.items c.loop.invariant c.loop-test.true d at_d in
    let p : Process = get_or ps d.process (record { pid = 0; group = 0; cell = 0 }) in
    subst (Walks ps cells c.args.group s (c.loop.counter + 1) d.next) (sym c.in_ok-push.ensures.items)
    (goes_on ps cells ss c.requires.seated c.args.group s c.loop.counter c.loop.at c.loop.pids.items c.loop.invariant c.loop-test.true d p at_d (slice_get-get_or ps d.process (record { pid = 0; group = 0; cell = 0 }) within))

pub returns : goal.returns
returns c =
    let ps = c.args.processes.now in
    let cells = c.args.cells.now in
    let ss = c.args.stacks.now in
    let s : Stack = get_or ss c.args.group (record { first = 0; count = 0 }) in
    theirs ps cells ss c.requires.seated c.args.group s c.loop.pids.items c.loop.counter c.loop.at c.loop.invariant c.loop-test.false c.requires.pids
