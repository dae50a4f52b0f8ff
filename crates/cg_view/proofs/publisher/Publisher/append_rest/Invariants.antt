-- What is appended, and what is left, is what is to be appended in all.
use Rattle.std.proofs.Common.{◌≡◌, ◌++◌, map, length}
use Rattle.cg_view.specs.Committed.{meant}
use Rattle.cg_view.specs.Publishers.{appended, opening, published}
use Rattle.cg_view.specs.Walks.{left}
use Rattle.cg_view.proofs.publisher.Publisher.append_rest.Given as goal

abbrev pub invariant-loop-step : goal.invariant-loop-step
invariant-loop-step l = record {
  opened : opening l.self ≡ opening l.fn.self;
  shown : published l.self ≡ published l.fn.self;
  front : map meant (appended l.self) ++ left l.walk ≡ map meant (appended l.fn.self) ++ left l.fn.walk;
}

abbrev pub decreases-loop-step : goal.decreases-loop-step
decreases-loop-step l = length (left l.walk)
