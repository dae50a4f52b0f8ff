use Rattle.cg_view.proofs.Grows.{first}
use Rattle.cg_view.proofs.publisher.Publisher.new.Goals as goal

pub new-requires-3-clause-rule : goal.new-requires-3-clause-rule
new-requires-3-clause-rule c = first c.in_ok-first.first
