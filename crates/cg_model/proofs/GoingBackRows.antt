-- The worked runs of going back compute.
use Rattle.std.proofs.Common.{refl}
use Rattle.cg_model.specs.Rows.{play, play_within, has_entry_after}
use Rattle.cg_model.specs.GoingBackRows as rows

pub cpuset_off_and_back : rows.CpusetOffAndBack
unfolding play
cpuset_off_and_back = refl

pub savepoints : rows.Savepoints
unfolding play
savepoints = refl

pub remade_group : rows.RemadeGroup
unfolding play
remade_group = refl

pub full_at_four : rows.FullAtFour
unfolding play_within
full_at_four = refl

pub dead_entries : rows.DeadEntries
unfolding has_entry_after
dead_entries = (refl, refl, refl, refl)
