use Rattle.std.proofs.Common.{refl, sym, subst}
use Rattle.cg_locks.specs.Counts.{prefixes}
use Rattle.cg_locks.specs.Holdings.{HoldsAll}
use Rattle.cg_locks.specs.Meaning.{counts_of}
use Rattle.cg_locks.proofs.CountedMarks.{held_of_all, more_by_these}
use Rattle.cg_locks.proofs.OfKinds.{kinds}
use Rattle.cg_locks.proofs.shared_marks.SharedMarks.release_counted.Goals as goal

pub remove_counted-requires : goal.remove_counted-requires
remove_counted-requires c =
    held_of_all (kinds c.self.inside) c.args.self.now c.self.view_is c.args.transaction.0 (prefixes c.in-Some.these.path.now c.in-Some.these.depths.now)
    (subst (λ o. HoldsAll c.args.self.now c.args.transaction.0 (counts_of o)) c.in-Some.is c.requires)

pub returns-in-Some : goal.returns-in-Some
returns-in-Some c = λ u m.
    sym (more_by_these c.remove_counted.new.self c.self.inside.marks c.self.inside.processes.entries c.args.counted c.in-Some.these c.in-Some.is c.args.transaction.0 c.remove_counted.ensures _ c.args.self.now refl c.self.view_is u m)
