use Rattle.std.proofs.Common.{get_or}
use Rattle.cg_places.specs.Walks.{Walks}
use Rattle.cg_places.proofs.listing.gather.Given as goal

abbrev pub invariant-loop : goal.invariant-loop
invariant-loop l = Walks l.processes l.cells l.fn.group (get_or l.fn.stacks l.fn.group (record { first = 0; count = 0 })) l.counter l.at l.pids.items
