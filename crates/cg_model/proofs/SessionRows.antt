-- The worked runs of several sessions compute.
use Rattle.std.proofs.Common.{refl}
use Rattle.cg_model.specs.Rows.{play, play_to_end}
use Rattle.cg_model.specs.SessionRows as rows

pub abort_beside_commit : rows.AbortBesideCommit
unfolding play
abort_beside_commit = refl

pub locked_until_commit : rows.LockedUntilCommit
unfolding play
locked_until_commit = refl

pub migrate_pins_both_ends : rows.MigratePinsBothEnds
unfolding play
migrate_pins_both_ends = refl

pub unseen_removal : rows.UnseenRemoval
unfolding play
unseen_removal = refl

pub commit_order : rows.CommitOrder
unfolding play
commit_order = refl

pub counts_are_locked : rows.CountsAreLocked
unfolding play
counts_are_locked = refl

pub readers_share : rows.ReadersShare
unfolding play
readers_share = refl

pub readers_are_protected : rows.ReadersAreProtected
unfolding play
readers_are_protected = refl

pub processes_are_locked : rows.ProcessesAreLocked
unfolding play
processes_are_locked = refl

pub online_locks_all : rows.OnlineLocksAll
unfolding play
online_locks_all = refl

pub aborts_at_the_end : rows.AbortsAtTheEnd
unfolding play_to_end
aborts_at_the_end = refl
