-- The text of a history, replayed.
use Rattle.std.specs.Prelude.{◌≡◌, ℕ, ◌≤◌, List, [], ◌++◌, length}
use Rattle.std.specs.List.{AllByRecursion}
use Rattle.cg_model.specs.Cgroups.{cgroups}
use Rattle.cg_model.specs.History.{Record, History}
use Rattle.cg_model.specs.Machine.{opened}
use Rattle.cg_model.specs.Opens.{opens}
use Rattle.cg_model.specs.Output.{output}
use Rattle.cg_model.specs.Run.{tree_of}
use Rattle.cg_model.specs.Sound.{Sound}
use Rattle.cg_model.specs.Tree.{Tree}
use Rattle.cg_core_laws.specs.MachineOf.{Reached}
use Rattle.cg_core_laws.specs.Replayed.{recorded_answers}
use Rattle.cg_world_text.specs.World.{world_text}
use Rattle.cg_script.specs.HistoryText.{comment_line, history_text, sessions, renumbered, IsAsked, IsReadable}
use Rattle.cg_replay.specs.MachineOutput.{answer_lines}
use Rattle.cg_replay.specs.Replay.{IsOutput}

-- The law of replayed histories: over a sound tree the text of such a history is answered what the machine of the definitions answers to these requests, line by line
abbrev pub HistoriesAreReplayed : Type 0
HistoriesAreReplayed =
    (h : History cgroups) → length (sessions h) ≤ 4096 → AllByRecursion IsReadable h
    → (T : Tree) (limit : ℕ) (out : List ℕ) → Sound T → IsOutput T limit (history_text h) out
    → out ≡ (let o = output cgroups (opened cgroups T limit) (renumbered h) in answer_lines o.0 ++ world_text o.1.tree)

-- ---- a machine's own history

-- its comment is no longer than a line
abbrev pub HasShortComment : Record cgroups → Type 0
HasShortComment r = length (comment_line r.answer) ≤ 65536

-- The law of a machine's own history, of which nothing is open any more: its text, played over the tree that the machine was opened
-- on and with its bound, is answered by just the answers that stand in its comments, in their order, and then its tree is written.
-- That its requests can be asked for whoever writes that text is told.
abbrev pub OwnHistoriesAreReplayed : Type 0
OwnHistoriesAreReplayed =
    (h : History cgroups) (T : Tree) (limit : ℕ) (out : List ℕ) → Sound T → Reached T limit h → opens h ≡ [] → length (sessions h) ≤ 4096 → AllByRecursion IsAsked h → AllByRecursion HasShortComment h
    → IsOutput T limit (history_text h) out
    → out ≡ answer_lines (recorded_answers h) ++ world_text (tree_of cgroups T h)
