-- Worked runs of going back: undo, savepoints, reserved slots, and the entries that stay for it.
use Rattle.std.specs.Prelude.{◌≡◌, true, false, [], ◌∷◌, ◌++◌, codes}
use Rattle.cg_name.specs.declared.controller.Controller.TheVariants as controllers
use Rattle.cg_name.specs.declared.refusal.Refusal.TheVariants.{Full, InUse, NoFile, NoSavepoint, NameTaken, NothingToUndo}
use Rattle.cg_text.specs.Settings.{fresh}
use Rattle.cg_name.specs.declared.file_name.FileName.TheVariants as files
use Rattle.cg_model.specs.Tree.{Tree}
use Rattle.cg_model.specs.Command.{Create, Remove, Subtree, Cpus, Show}
use Rattle.cg_model.specs.History.{Begin, Do, Save, Back, Undo, Commit, Abort, Begun, Saved, WentBack, Committed, Aborted, Refused}
use Rattle.cg_model.specs.Rows.{Asked, has_entry_after, play, play_within, small_tree, w0_with, cpus_below, cpus_of, /a, /b, /a/b, /a/c, cpuset_alone, enable, disable, passing_on, by}
use Rattle.cg_model.specs.SessionRows.{A, B, committing, busy, gave_done, text, at_root}

-- disabling cpuset empties the children's CPUs, and going back gives them back
abbrev pub CpusetOffAndBack : Type 0
CpusetOffAndBack =
    play small_tree
    (committing (Subtree [] (enable cpuset_alone) ∷ Create /a ∷ Cpus /a (cpus_below 4) ∷ [])
    ++ by A (Begin ∷ Do (Subtree [] (disable cpuset_alone)) ∷ Do (Show /a files.Cpus) ∷ Undo ∷ Do (Show /a files.Cpus) ∷ Do (Subtree /a (enable cpuset_alone))
    ∷ Do (Subtree [] (disable cpuset_alone)) ∷ Undo ∷ Do (Subtree [] (disable cpuset_alone)) ∷ Do (Subtree [] (enable cpuset_alone)) ∷ Do (Show /a files.Cpus) ∷ Commit ∷ []))
    ≡ (
      Begun 1 ∷ gave_done ∷ gave_done ∷ gave_done ∷ Committed 1
          ∷ Begun 2 ∷ gave_done ∷ Refused NoFile ∷ gave_done ∷ text (codes "0-3\n") ∷ gave_done ∷ Refused (InUse controllers.Cpuset) ∷ gave_done ∷ gave_done ∷ gave_done ∷ text (codes "\n") ∷ Committed 2 ∷ [],
      w0_with (([], passing_on cpuset_alone) ∷ (/a, fresh) ∷ []) at_root,
    )

-- savepoints: going back counts commands, takes inner savepoints along and frees their locks
abbrev pub Savepoints : Type 0
Savepoints =
    play small_tree
    (by A (Begin ∷ Do (Create /a) ∷ Save (codes "x") ∷ Save (codes "x") ∷ Do (Create /b) ∷ Save (codes "y") ∷ Undo ∷ Do (Create /a/c) ∷ Back (codes "x") ∷ Back (codes "y") ∷ [])
    ++ by B (Begin ∷ Do (Create /a) ∷ Do (Create /b) ∷ []) ++ by A (Undo ∷ Undo ∷ []) ++ by B (Commit ∷ []) ++ by A (Abort ∷ []))
    ≡ (
      Begun 1 ∷ gave_done ∷ Saved ∷ Refused NameTaken ∷ gave_done ∷ Saved ∷ Refused NothingToUndo ∷ gave_done ∷ WentBack 2 ∷ Refused NoSavepoint
          ∷ Begun 2 ∷ busy 1 ∷ gave_done ∷ gave_done ∷ Refused NothingToUndo ∷ Committed 1 ∷ Aborted 1 ∷ [],
      w0_with (([], fresh) ∷ (/b, fresh) ∷ []) at_root,
    )

-- a group that was removed and made anew comes back as it was, since the newest inverse goes first
abbrev pub RemadeGroup : Type 0
RemadeGroup =
    (play small_tree
    (committing (Subtree [] (enable cpuset_alone) ∷ Create /a ∷ Subtree /a (enable cpuset_alone) ∷ Create /a/b ∷ Cpus /a/b (cpus_of (2 ∷ [])) ∷ [])
    ++ by A (Begin ∷ Do (Remove /a/b) ∷ Do (Create /a/b) ∷ Do (Show /a/b files.Cpus) ∷ Abort ∷ Begin ∷ Do (Show /a/b files.Cpus) ∷ Commit ∷ []))).0
    ≡ Begun 1 ∷ gave_done ∷ gave_done ∷ gave_done ∷ gave_done ∷ gave_done ∷ Committed 1 ∷ Begun 2 ∷ gave_done ∷ gave_done ∷ text (codes "\n") ∷ Aborted 2 ∷ Begun 3 ∷ text (codes "2\n") ∷ Committed 2 ∷ []

-- a history of four slots: one command fits beside Begin, its undoing and the end
abbrev pub FullAtFour : Type 0
FullAtFour =
    play_within 4 small_tree ((A, Begin) ∷ (A, Do (Create /a)) ∷ (A, Do (Create /b)) ∷ (A, Undo) ∷ (A, Commit) ∷ (B, Begin) ∷ [])
    ≡ (Begun 1 ∷ gave_done ∷ Refused Full ∷ gave_done ∷ Committed 1 ∷ Refused Full ∷ [], small_tree)

-- A removes a group, and B makes one and commits
abbrev removing : Asked
removing = (A, Begin) ∷ (B, Begin) ∷ (A, Do (Remove /a/b)) ∷ (B, Do (Create /b)) ∷ (B, Commit) ∷ []

-- a removed group keeps its entry while the removal may be undone, whatever other transactions end; then the entry goes
abbrev pub DeadEntries : Type 0
DeadEntries =
    let two : Tree = w0_with (([], fresh) ∷ (/a, fresh) ∷ (/a/b, fresh) ∷ []) at_root in
    (has_entry_after two removing /a/b ≡ true) × (has_entry_after two (removing ++ (A, Commit) ∷ []) /a/b ≡ false) × (has_entry_after two (removing ++ (A, Undo) ∷ []) /a/b ≡ true)
    × (has_entry_after two ((A, Begin) ∷ (A, Do (Create /b)) ∷ (A, Undo) ∷ []) /b ≡ false)
