-- Worked runs of several sessions: locks and orders of commits.
use Rattle.std.specs.Prelude.{◌≡◌, ℕ, List, [], ◌∷◌, ◌++◌, map, codes}
use Rattle.cg_name.specs.Path.{Path}
use Rattle.cg_name.specs.declared.refusal.Refusal.TheVariants.{Busy, NothingToUndo, HasProcesses, TooMany, TooDeep}
use Rattle.cg_text.specs.Settings.{fresh}
use Rattle.cg_name.specs.declared.file_name.FileName.TheVariants as files
use Rattle.cg_text.specs.declared.limit.Limit.TheVariants.{Max}
use Rattle.cg_text.specs.declared.settings.Settings.{Settings}
use Rattle.cg_model.specs.System.{Done, Text}
use Rattle.cg_model.specs.Command.{Command, Create, Remove, Migrate, Subtree, Show, Online, MaxDescendants, MaxDepth}
use Rattle.cg_model.specs.History.{Begin, Do, Undo, Commit, Abort, Answer, Begun, Gave, Committed, Aborted, Refused}
use Rattle.cg_model.specs.Rows.{Asked, play, play_to_end, small_tree, w0_with, cpus_below, /a, /b, /a/b, /a/c, cpu_alone, enable, up_to_1, passing_on, by}

-- the sessions
abbrev pub A : ℕ
A = 1

abbrev pub B : ℕ
B = 2

abbrev pub C : ℕ
C = 3

-- a session before the others commits these
abbrev pub committing : List Command → Asked
committing cs = by 16 (Begin ∷ map (λ c. Do c) cs ++ Commit ∷ [])

-- answers in short
abbrev pub busy : ℕ → Answer
busy t = Refused (Busy (record { 0 = t }))

abbrev pub gave_done : Answer
gave_done = Gave Done

abbrev pub text : List ℕ → Answer
text x = Gave (Text x)

-- both processes are in the root
abbrev pub at_root : List (ℕ × Path)
at_root = (10, []) ∷ (11, []) ∷ []

-- two sessions make two groups; the abort of the one takes its own away alone
abbrev pub AbortBesideCommit : Type 0
AbortBesideCommit =
    play small_tree ((A, Begin) ∷ (B, Begin) ∷ (A, Do (Create /a)) ∷ (B, Do (Create /b)) ∷ (A, Abort) ∷ (B, Commit) ∷ [])
    ≡ (Begun 1 ∷ Begun 2 ∷ gave_done ∷ gave_done ∷ Aborted 1 ∷ Committed 1 ∷ [], w0_with (([], fresh) ∷ (/b, fresh) ∷ []) at_root)

-- a group that isn't committed is locked, and free after the commit
abbrev pub LockedUntilCommit : Type 0
LockedUntilCommit =
    play small_tree ((A, Begin) ∷ (B, Begin) ∷ (A, Do (Create /a)) ∷ (B, Do (Create /a/b)) ∷ (A, Commit) ∷ (B, Do (Create /a/b)) ∷ (B, Abort) ∷ [])
    ≡ (Begun 1 ∷ Begun 2 ∷ gave_done ∷ busy 1 ∷ Committed 1 ∷ gave_done ∷ Aborted 2 ∷ [], w0_with (([], fresh) ∷ (/a, fresh) ∷ []) at_root)

-- a migration pins the group that the process leaves
abbrev pub MigratePinsBothEnds : Type 0
MigratePinsBothEnds =
    play small_tree
    (committing (Subtree [] (enable cpu_alone) ∷ Create /a ∷ Create /b ∷ Migrate 10 /a ∷ [])
    ++ (A, Begin) ∷ (B, Begin) ∷ (A, Do (Migrate 10 /b)) ∷ (B, Do (Subtree /a (enable cpu_alone))) ∷ (A, Abort) ∷ (B, Do (Subtree /a (enable cpu_alone))) ∷ (B, Abort) ∷ [])
    ≡ (
      Begun 1 ∷ gave_done ∷ gave_done ∷ gave_done ∷ gave_done ∷ Committed 1 ∷ Begun 2 ∷ Begun 3 ∷ gave_done ∷ busy 2 ∷ Aborted 2 ∷ Refused HasProcesses ∷ Aborted 3 ∷ [],
      w0_with (([], passing_on cpu_alone) ∷ (/a, fresh) ∷ (/b, fresh) ∷ []) ((10, /a) ∷ (11, []) ∷ []),
    )

-- a removal that isn't committed is not seen: the lock comes before the group's own checks
abbrev pub UnseenRemoval : Type 0
UnseenRemoval =
    play small_tree
    (committing (Create /a ∷ Create /a/b ∷ [])
    ++ (A, Begin) ∷ (B, Begin) ∷ (A, Do (Remove /a/b)) ∷ (B, Do (Show /a/b files.Procs)) ∷ (B, Do (Create /a/c)) ∷ (A, Abort) ∷ (B, Commit) ∷ [])
    ≡ (
      Begun 1 ∷ gave_done ∷ gave_done ∷ Committed 1 ∷ Begun 2 ∷ Begun 3 ∷ gave_done ∷ busy 2 ∷ gave_done ∷ Aborted 2 ∷ Committed 2 ∷ [],
      w0_with (([], fresh) ∷ (/a, fresh) ∷ (/a/b, fresh) ∷ (/a/c, fresh) ∷ []) at_root,
    )

-- commits are numbered as they come, and not as the transactions began
abbrev pub CommitOrder : Type 0
CommitOrder =
    play small_tree
    ((A, Begin) ∷ (B, Begin) ∷ (A, Do (Create /a)) ∷ (B, Do (Create /b)) ∷ (B, Commit) ∷ (A, Commit) ∷ by C (Begin ∷ Do (Create /a/c) ∷ Do (Migrate 10 /b) ∷ Commit ∷ []))
    ≡ (
      Begun 1 ∷ Begun 2 ∷ gave_done ∷ gave_done ∷ Committed 1 ∷ Committed 2 ∷ Begun 3 ∷ gave_done ∷ gave_done ∷ Committed 3 ∷ [],
      w0_with (([], fresh) ∷ (/a, fresh) ∷ (/a/c, fresh) ∷ (/b, fresh) ∷ []) ((10, /b) ∷ (11, []) ∷ []),
    )

-- a group with a limit on descendants, and a group x in it
abbrev limited : List (Path × Settings)
limited = ([], fresh) ∷ (/a, record fresh { max_descendants = up_to_1 }) ∷ (/a/b, fresh) ∷ []

-- the number of descendants is locked where it is limited, though the groups are apart
abbrev pub CountsAreLocked : Type 0
CountsAreLocked =
    (play (w0_with limited at_root)
    ((A, Begin) ∷ (B, Begin) ∷ (A, Do (Remove /a/b)) ∷ (B, Do (Create (codes "a" ∷ codes "z" ∷ []))) ∷ (A, Do (Create /a/c)) ∷ (A, Undo) ∷ (A, Undo)
    ∷ by B (Do (Create /a/c) ∷ Do (MaxDescendants /a Max) ∷ Do (MaxDepth /a up_to_1) ∷ Do (Create (codes "a" ∷ codes "b" ∷ codes "z" ∷ [])) ∷ Commit ∷ []) ++ (A, Abort) ∷ [])).0
    ≡ Begun 1 ∷ Begun 2 ∷ gave_done ∷ busy 1 ∷ gave_done ∷ gave_done ∷ gave_done ∷ Refused TooMany ∷ gave_done ∷ gave_done ∷ Refused TooDeep ∷ Committed 1 ∷ Aborted 1 ∷ []

-- two sessions may read the same group
abbrev pub ReadersShare : Type 0
ReadersShare =
    (play small_tree ((A, Begin) ∷ (B, Begin) ∷ (A, Do (Show [] files.Procs)) ∷ (B, Do (Show [] files.Procs)) ∷ (A, Abort) ∷ (B, Abort) ∷ [])).0
    ≡ Begun 1 ∷ Begun 2 ∷ text (codes "10\n11\n") ∷ text (codes "10\n11\n") ∷ Aborted 1 ∷ Aborted 2 ∷ []

-- what was read stays until its reader ends
abbrev pub ReadersAreProtected : Type 0
ReadersAreProtected =
    (play small_tree
    (committing (Create /a ∷ [])
    ++ (A, Begin) ∷ (B, Begin) ∷ (A, Do (Show /a files.Procs)) ∷ (B, Do (Show /a files.Controllers)) ∷ (B, Do (Migrate 10 /a)) ∷ (A, Abort) ∷ (B, Do (Migrate 10 /a)) ∷ (B, Do (Show /a files.Procs))
    ∷ (C, Begin) ∷ (C, Do (Show /a files.Procs)) ∷ (C, Do (Migrate 11 [])) ∷ (B, Abort) ∷ (C, Abort) ∷ [])).0
    ≡ Begun 1 ∷ gave_done ∷ Committed 1 ∷ Begun 2 ∷ Begun 3 ∷ text [] ∷ text [] ∷ busy 2 ∷ Aborted 2 ∷ gave_done ∷ text (codes "10\n") ∷ Begun 4 ∷ busy 3 ∷ gave_done ∷ Aborted 3 ∷ Aborted 4 ∷ []

-- a process belongs to the session that moved it, and both its groups stay
abbrev pub ProcessesAreLocked : Type 0
ProcessesAreLocked =
    play small_tree
    (committing (Create /a ∷ [])
    ++ (A, Begin) ∷ (B, Begin) ∷ (A, Do (Migrate 10 /a)) ∷ (B, Do (Migrate 11 /a)) ∷ (B, Do (Migrate 10 [])) ∷ (B, Do (Create /a/c)) ∷ (B, Do (Remove /a)) ∷ (A, Abort) ∷ (B, Commit) ∷ [])
    ≡ (
      Begun 1 ∷ gave_done ∷ Committed 1 ∷ Begun 2 ∷ Begun 3 ∷ gave_done ∷ gave_done ∷ busy 2 ∷ gave_done ∷ busy 2 ∷ Aborted 2 ∷ Committed 2 ∷ [],
      w0_with (([], fresh) ∷ (/a, fresh) ∷ (/a/c, fresh) ∷ []) ((10, []) ∷ (11, /a) ∷ []),
    )

-- setting CPUs online locks the whole tree
abbrev pub OnlineLocksAll : Type 0
OnlineLocksAll =
    play small_tree
    ((A, Begin) ∷ (B, Begin) ∷ (B, Do (Create /a)) ∷ (A, Do (Online (cpus_below 2))) ∷ (B, Abort) ∷ (A, Do (Online (cpus_below 2))) ∷ (A, Do (Show [] files.EffectiveCpus)) ∷ (A, Undo) ∷ (A, Undo)
    ∷ (A, Do (Show [] files.EffectiveCpus)) ∷ (A, Commit) ∷ [])
    ≡ (Begun 1 ∷ Begun 2 ∷ gave_done ∷ busy 2 ∷ Aborted 2 ∷ gave_done ∷ text (codes "0-1\n") ∷ gave_done ∷ gave_done ∷ text (codes "0-7\n") ∷ Committed 1 ∷ [], small_tree)

-- at the end of a schedule what is still open is aborted, by number and not by session; what was committed stays
abbrev pub AbortsAtTheEnd : Type 0
AbortsAtTheEnd =
    play_to_end small_tree ((B, Begin) ∷ (A, Begin) ∷ (C, Begin) ∷ (B, Do (Create /b)) ∷ (A, Do (Create /a)) ∷ (C, Undo) ∷ (A, Commit) ∷ [])
    ≡ (Begun 1 ∷ Begun 2 ∷ Begun 3 ∷ gave_done ∷ gave_done ∷ Refused NothingToUndo ∷ Committed 1 ∷ Aborted 1 ∷ Aborted 3 ∷ [], w0_with (([], fresh) ∷ (/a, fresh) ∷ []) at_root)
