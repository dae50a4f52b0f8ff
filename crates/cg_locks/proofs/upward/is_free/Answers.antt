-- Each value passes the test, which tells that nobody holds anything there.
use Rattle.std.proofs.Common.{rules, subst}
use Rattle.cg_locks.proofs.HeldMaps.{held_nothing, IsFree}
use Rattle.cg_locks.proofs.upward.is_free.Goals as goal

pub returns-then-is_empty : goal.returns-then-is_empty
returns-then-is_empty c = λ yes. held_nothing c.args.nodes.now.values (λ p h there.
    let told = c.all.ensures yes p h there in
    let met = told.says.met in
    subst IsFree told.shows (search (rules, met)))
