use Rattle.cg_model.proofs.SessionRows as rows
use Rattle.cg_model.proofs.worked_runs_of_sessions.Goals as goal

pub returns : goal.returns
returns c = record {
  abort_beside_commit = rows.abort_beside_commit;
  locked_until_commit = rows.locked_until_commit;
  migrate_pins_both_ends = rows.migrate_pins_both_ends;
  unseen_removal = rows.unseen_removal;
  commit_order = rows.commit_order;
  counts_are_locked = rows.counts_are_locked;
  readers_share = rows.readers_share;
  readers_are_protected = rows.readers_are_protected;
  processes_are_locked = rows.processes_are_locked;
  online_locks_all = rows.online_locks_all;
  aborts_at_the_end = rows.aborts_at_the_end;
}
