-- The new process has the new cell, on top of its group's stack.
use Rattle.std.proofs.Common.{◌≡◌, ◌+◌, ◌++◌, ◌∷◌, [], ℕ, suc, List, Some, length, get_or, slice_get, slice_set, option_map, refl, sym, ap, subst, ◌∙◌, arith, add-one}
use Rattle.std.proofs.lemmas.Option.{slice_get-get_or}
use Rattle.cg_places.specs.declared.seats.Process.{Process}
use Rattle.cg_places.specs.declared.seats.Cell.{Cell}
use Rattle.cg_places.specs.declared.seats.Stack.{Stack}
use Rattle.cg_places.specs.Seats.{AreSeated}
use Rattle.cg_places.proofs.Lists.{writes-set}
use Rattle.cg_places.proofs.Seating.{count_fits, joined}
use Rattle.cg_places.proofs.seats.join.Goals as goal

pub overflow_add-stacks : goal.overflow_add-stacks
overflow_add-stacks c =
    let ss = c.args.stacks.now in
    let t : Stack = get_or ss c.args.group (record { first = 0; count = 0 }) in
    let at_t : slice_get ss c.args.group ≡ Some t = slice_get-get_or ss c.args.group (record { first = 0; count = 0 }) c.requires.group in
    omega (arith, count_fits c.args.processes.now.items c.args.cells.now.items ss c.requires.seated c.args.group t at_t, c.requires.seated.seats.many, c.requires.few)

pub returns-clause-seated : goal.returns-clause-seated
returns-clause-seated c =
    let ps = c.args.processes.now.items in
    let cells = c.args.cells.now.items in
    let ss = c.args.stacks.now in
    let t : Stack = get_or ss c.args.group (record { first = 0; count = 0 }) in
    let at_t : slice_get ss c.args.group ≡ Some t = slice_get-get_or ss c.args.group (record { first = 0; count = 0 }) c.requires.group in
    let number = c.len-number.result in
    let is : number ≡ length ps = c.len-number.ensures ∙ c.args.processes.now.ok.0 in
    let p : Process = record { pid = c.args.pid; group = c.args.group; cell = number } in
    let d : Cell = record { process = number; next = t.first } in
    let x : Stack = record { first = number; count = t.count + 1 } in
    let w = writes-set ss c.args.group x c.requires.group in
    let all = joined ps cells ss (slice_set ss c.args.group x) c.requires.seated p d t at_t is is refl
    (ap (option_map (λ (y : Stack). (y.first, y.count))) w.changed ∙ (λ i. Some (is i, add-one t.count i)))
    (λ g ne. ap (option_map (λ (y : Stack). (y.first, y.count))) (w.others g ne)) w.many in
    subst (λ (y : List Process × List Cell). AreSeated y.0 y.1 (slice_set ss c.args.group x)) (λ i. (sym c.push_reserved.ensures.items i, sym c.push_reserved-2.ensures.items i)) all
