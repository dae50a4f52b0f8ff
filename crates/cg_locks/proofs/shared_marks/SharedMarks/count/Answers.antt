use Rattle.std.proofs.Common.{ap}
use Rattle.cg_model.specs.Footprint.{X, S, N, Pid}
use Rattle.cg_locks.specs.Meaning.{mark_of}
use Rattle.cg_locks.proofs.OfKinds.{count_told, kinds}
use Rattle.cg_locks.proofs.shared_marks.SharedMarks.count.Goals as goal

pub returns-in-Changed : goal.returns-in-Changed
returns-in-Changed c = count_told (kinds c.self.inside) c.args.self.now c.self.view_is c.args.transaction.0 c.count.result c.args.mark.now (X c.in-Changed.path) (ap mark_of c.in-Changed.is) c.count.ensures

pub returns-in-Read : goal.returns-in-Read
returns-in-Read c = count_told (kinds c.self.inside) c.args.self.now c.self.view_is c.args.transaction.0 c.count-in-Read.result c.args.mark.now (S c.in-Read.path) (ap mark_of c.in-Read.is) c.count-in-Read.ensures

pub returns-in-Stays : goal.returns-in-Stays
returns-in-Stays c = count_told (kinds c.self.inside) c.args.self.now c.self.view_is c.args.transaction.0 c.count-in-Stays.result c.args.mark.now (N c.in-Stays.path) (ap mark_of c.in-Stays.is) c.count-in-Stays.ensures

pub returns-in-Process : goal.returns-in-Process
returns-in-Process c = count_told (kinds c.self.inside) c.args.self.now c.self.view_is c.args.transaction.0 c.count-in-Process.result c.args.mark.now (Pid c.in-Process.pid) (ap mark_of c.in-Process.is) c.count-in-Process.ensures
