use Rattle.std.proofs.Common.{ap}
use Rattle.cg_model.specs.Footprint.{X, S, N, Pid}
use Rattle.cg_locks.specs.Meaning.{mark_of}
use Rattle.cg_locks.proofs.OfKinds.{kinds}
use Rattle.cg_locks.proofs.Ways.{least_way}
use Rattle.cg_locks.proofs.shared_marks.SharedMarks.least_clashing.Goals as goal

pub returns-in-Changed : goal.returns-in-Changed
returns-in-Changed c = least_way (kinds c.self.inside) c.args.self.now c.self.view_is c.args.transaction.0 c.args.mark.now (X c.in-Changed.path) _ (ap mark_of c.in-Changed.is) c.least_in_way.ensures

pub returns-in-Read : goal.returns-in-Read
returns-in-Read c = least_way (kinds c.self.inside) c.args.self.now c.self.view_is c.args.transaction.0 c.args.mark.now (S c.in-Read.path) _ (ap mark_of c.in-Read.is) c.least_in_way-in-Read.ensures

pub returns-in-Stays : goal.returns-in-Stays
returns-in-Stays c = least_way (kinds c.self.inside) c.args.self.now c.self.view_is c.args.transaction.0 c.args.mark.now (N c.in-Stays.path) _ (ap mark_of c.in-Stays.is) c.least_in_way-in-Stays.ensures

pub returns-in-Process : goal.returns-in-Process
returns-in-Process c = least_way (kinds c.self.inside) c.args.self.now c.self.view_is c.args.transaction.0 c.args.mark.now (Pid c.in-Process.pid) _ (ap mark_of c.in-Process.is) c.least.ensures
