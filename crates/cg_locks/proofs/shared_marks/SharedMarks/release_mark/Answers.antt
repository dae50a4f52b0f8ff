-- The marks of its kind are held once less.
use Rattle.std.proofs.Common.{refl, ap}
use Rattle.cg_locks.specs.declared.held.Kind.TheVariants as kinds_of
use Rattle.cg_model.specs.Footprint.{X, S, N, Pid}
use Rattle.cg_locks.specs.Meaning.{mark_of}
use Rattle.cg_locks.specs.Table.{by_kind}
use Rattle.cg_locks.proofs.OfKinds.{count_there, kinds, more_for, more_marked, more_processes}
use Rattle.cg_locks.proofs.shared_marks.SharedMarks.release_mark.Goals as goal

pub remove-requires : goal.remove-requires
remove-requires c = count_there (kinds c.self.inside) c.args.self.now c.self.view_is c.args.transaction.0 c.args.mark.now (X c.in-Changed.path) (ap mark_of c.in-Changed.is) c.requires

pub returns-in-Changed : goal.returns-in-Changed
returns-in-Changed c =
    let es = c.self.inside.processes.entries in
    more_for (by_kind c.remove.new.self es) (kinds c.self.inside) _ c.args.self.now c.args.transaction.0 c.args.mark.now (X c.in-Changed.path) (ap mark_of c.in-Changed.is) refl c.self.view_is
    (more_marked c.remove.new.self c.self.inside.marks es kinds_of.Changed c.in-Changed.path c.args.transaction.0 c.remove.ensures)

pub remove-requires-in-Read : goal.remove-requires-in-Read
remove-requires-in-Read c = count_there (kinds c.self.inside) c.args.self.now c.self.view_is c.args.transaction.0 c.args.mark.now (S c.in-Read.path) (ap mark_of c.in-Read.is) c.requires

pub returns-in-Read : goal.returns-in-Read
returns-in-Read c =
    let es = c.self.inside.processes.entries in
    more_for (by_kind c.remove-in-Read.new.self es) (kinds c.self.inside) _ c.args.self.now c.args.transaction.0 c.args.mark.now (S c.in-Read.path) (ap mark_of c.in-Read.is) refl c.self.view_is
    (more_marked c.remove-in-Read.new.self c.self.inside.marks es kinds_of.Read c.in-Read.path c.args.transaction.0 c.remove-in-Read.ensures)

pub remove-requires-in-Stays : goal.remove-requires-in-Stays
remove-requires-in-Stays c = count_there (kinds c.self.inside) c.args.self.now c.self.view_is c.args.transaction.0 c.args.mark.now (N c.in-Stays.path) (ap mark_of c.in-Stays.is) c.requires

pub returns-in-Stays : goal.returns-in-Stays
returns-in-Stays c =
    let es = c.self.inside.processes.entries in
    more_for (by_kind c.remove-in-Stays.new.self es) (kinds c.self.inside) _ c.args.self.now c.args.transaction.0 c.args.mark.now (N c.in-Stays.path) (ap mark_of c.in-Stays.is) refl c.self.view_is
    (more_marked c.remove-in-Stays.new.self c.self.inside.marks es kinds_of.Stays c.in-Stays.path c.args.transaction.0 c.remove-in-Stays.ensures)

pub remove-requires-in-Process : goal.remove-requires-in-Process
remove-requires-in-Process c = count_there (kinds c.self.inside) c.args.self.now c.self.view_is c.args.transaction.0 c.args.mark.now (Pid c.in-Process.pid) (ap mark_of c.in-Process.is) c.requires

pub returns-in-Process : goal.returns-in-Process
returns-in-Process c =
    more_for (by_kind c.self.inside.marks c.remove-in-Process.new.holders.entries) (kinds c.self.inside) _ c.args.self.now c.args.transaction.0 c.args.mark.now (Pid c.in-Process.pid) (ap mark_of c.in-Process.is) refl c.self.view_is
    (more_processes c.self.inside.marks c.remove-in-Process.new.holders.entries c.self.inside.processes.entries c.in-Process.pid c.args.transaction.0 c.remove-in-Process.ensures)
