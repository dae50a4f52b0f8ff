-- Those on numbers of descendants never stand apart.
use Rattle.std.proofs.Common.{refl, sym}
use Rattle.cg_locks.proofs.Boths.{held_by_second, more_by_second}
use Rattle.cg_locks.proofs.table.LockTable.release_counted.Goals as goal

pub release_counted-requires : goal.release_counted-requires
release_counted-requires c = held_by_second c.self.inside.sole c.self.inside.shared c.args.self.now c.self.view_is c.tell_counts.ensures c.args.transaction.0 c.args.counted c.requires

pub returns : goal.returns
returns c = λ u m.
    sym (more_by_second c.self.inside.sole c.release_counted.new.self c.self.inside.sole c.self.inside.shared _ c.args.self.now refl c.self.view_is _ refl (λ v n. sym (c.release_counted.ensures v n)) u m)
