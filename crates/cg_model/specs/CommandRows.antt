-- Worked runs of one transaction: what the commands do and refuse.
use Rattle.std.specs.Prelude.{◌≡◌, true, [], ◌∷◌, ◌++◌, codes}
use Rattle.cg_name.specs.declared.controller.Controller.TheVariants as controllers
use Rattle.cg_name.specs.declared.refusal.Refusal.TheVariants.{NoGroup, IsRoot, HasChildren, HasProcesses, NoProcess, Controlled, Unavailable, NoFile, TooMany, TooDeep, Exists, AlreadyOpen, NoTransaction}
use Rattle.cg_name.specs.declared.file_name.FileName.TheVariants as files
use Rattle.cg_model.specs.System.{Done, Text}
use Rattle.cg_model.specs.Command.{Create, Remove, Migrate, Subtree, Freeze, Cpus, Show, Online, MaxDescendants, MaxDepth}
use Rattle.cg_model.specs.History.{Begin, Do, Undo, Commit, Abort, Begun, Gave, Committed, Aborted, Refused}
use Rattle.cg_model.specs.Rows.{play, small_tree, w0_with, cpus_below, cpus_of, /a, /b, /z, /a/b, /b/c, cpuset_alone, cpu_alone, io_alone, enable, disable, up_to_0, up_to_1, passing_on, by}

-- what isn't enabled may be disabled, what isn't available can't be enabled
abbrev pub Enabling : Type 0
Enabling =
    play small_tree (by 1 (Begin ∷ Do (Subtree [] (disable cpuset_alone)) ∷ Do (Show [] files.SubtreeControl) ∷ Do (Subtree [] (enable cpu_alone)) ∷ Do (Show [] files.SubtreeControl)
    ∷ Do (Subtree [] (enable io_alone)) ∷ Commit ∷ []))
    ≡ (
      Begun 1 ∷ Gave Done ∷ Gave (Text []) ∷ Gave Done ∷ Gave (Text (codes "cpu\n")) ∷ Refused (Unavailable controllers.Io) ∷ Committed 1 ∷ [],
      w0_with (([], passing_on cpu_alone) ∷ []) ((10, []) ∷ (11, []) ∷ []),
    )

-- a group's CPUs are those it asks for where there are some of its parent's, else its parent's
abbrev pub EffectiveCpus : Type 0
EffectiveCpus =
    (play small_tree (by 1 (Begin ∷ Do (Subtree [] (enable cpuset_alone)) ∷ Do (Create /a) ∷ Do (Cpus /a (cpus_below 4)) ∷ Do (Subtree /a (enable cpuset_alone)) ∷ Do (Create /a/b)
    ∷ Do (Cpus /a/b (cpus_of (4 ∷ 5 ∷ []))) ∷ Do (Show /a/b files.EffectiveCpus) ∷ Do (Cpus /a/b (cpus_of (2 ∷ 3 ∷ 4 ∷ 5 ∷ []))) ∷ Do (Show /a/b files.EffectiveCpus)
    ∷ Do (Cpus /a/b (cpus_of [])) ∷ Do (Show /a/b files.EffectiveCpus) ∷ Do (Show [] files.EffectiveCpus) ∷ []))).0
    ≡ Begun 1 ∷ Gave Done ∷ Gave Done ∷ Gave Done ∷ Gave Done ∷ Gave Done
    ∷ Gave Done ∷ Gave (Text (codes "0-3\n")) ∷ Gave Done ∷ Gave (Text (codes "2-3\n")) ∷ Gave Done ∷ Gave (Text (codes "0-3\n")) ∷ Gave (Text (codes "0-7\n")) ∷ []

-- freezing and processes are seen from above; the root has no events; the abort gives back the world
abbrev pub FreezeAndPopulated : Type 0
FreezeAndPopulated =
    play small_tree (by 1 (Begin ∷ Do (Create /a) ∷ Do (Freeze /a true) ∷ Do (Create /a/b) ∷ Do (Show /a/b files.Events) ∷ Do (Remove /a/b) ∷ Do (Show [] files.Events) ∷ Do (Migrate 10 /a)
    ∷ Do (Show /a files.Events) ∷ Do (Remove /a) ∷ Do (Remove []) ∷ Abort ∷ []))
    ≡ (
      Begun 1 ∷ Gave Done ∷ Gave Done ∷ Gave Done ∷ Gave (Text (codes "populated 0\nfrozen 1\n")) ∷ Gave Done ∷ Refused NoFile ∷ Gave Done
          ∷ Gave (Text (codes "populated 1\nfrozen 1\n")) ∷ Refused HasProcesses ∷ Refused IsRoot ∷ Aborted 1 ∷ [],
      small_tree,
    )

-- the checks of Migrate and Remove in their order
abbrev pub MigrateAndRemove : Type 0
MigrateAndRemove =
    play small_tree (by 1 (Begin ∷ Do (Subtree [] (enable cpu_alone)) ∷ Do (Create /a) ∷ Do (Subtree /a (enable cpu_alone)) ∷ Do (Migrate 10 /a) ∷ Do (Migrate 99 /a) ∷ Do (Migrate 10 /z)
    ∷ Do (Create /a/b) ∷ Do (Remove /a) ∷ Abort ∷ []))
    ≡ (Begun 1 ∷ Gave Done ∷ Gave Done ∷ Gave Done ∷ Refused Controlled ∷ Refused NoProcess ∷ Refused NoGroup ∷ Gave Done ∷ Refused HasChildren ∷ Aborted 1 ∷ [], small_tree)

-- limits on descendants and on depth
abbrev pub Limits : Type 0
Limits =
    play small_tree (by 1 (Begin ∷ Do (MaxDescendants [] up_to_0) ∷ Do (Create /a) ∷ Do (Show [] files.MaxDescendants) ∷ Undo ∷ Undo ∷ Do (Create /a) ∷ Do (MaxDepth [] up_to_0) ∷ Do (Create /b)
    ∷ Do (MaxDescendants [] up_to_1) ∷ Do (Create /b) ∷ Abort ∷ []))
    ≡ (Begun 1 ∷ Gave Done ∷ Refused TooMany ∷ Gave (Text (codes "0\n")) ∷ Gave Done ∷ Gave Done ∷ Gave Done ∷ Gave Done ∷ Refused TooDeep ∷ Gave Done ∷ Refused TooMany ∷ Aborted 1 ∷ [], small_tree)

-- the refusals of one session, and of another that has no transaction
abbrev pub OwnRefusals : Type 0
OwnRefusals =
    (play small_tree (by 2 (Begin ∷ Do (Create /b/c) ∷ Do (Create []) ∷ Begin ∷ []) ++ by 26 (Commit ∷ []))).0
    ≡ Begun 1 ∷ Refused NoGroup ∷ Refused Exists ∷ Refused AlreadyOpen ∷ Refused NoTransaction ∷ []

-- CPUs that go offline narrow every group, and a group's wish stays; three steps back give the old sets
abbrev pub Hotplug : Type 0
Hotplug =
    (play small_tree (by 1 (Begin ∷ Do (Subtree [] (enable cpuset_alone)) ∷ Do (Create /a) ∷ Do (Cpus /a (cpus_of (5 ∷ 6 ∷ []))) ∷ Do (Online (cpus_below 4)) ∷ Do (Show /a files.EffectiveCpus)
    ∷ Do (Show /a files.Cpus) ∷ Undo ∷ Undo ∷ Undo ∷ Do (Show /a files.EffectiveCpus) ∷ []))).0
    ≡ Begun 1 ∷ Gave Done ∷ Gave Done ∷ Gave Done ∷ Gave Done ∷ Gave (Text (codes "0-3\n")) ∷ Gave (Text (codes "5-6\n")) ∷ Gave Done ∷ Gave Done ∷ Gave Done ∷ Gave (Text (codes "5-6\n")) ∷ []
