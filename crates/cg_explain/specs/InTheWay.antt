-- What is told of the command that is in the way of a refused one.
use Rattle.std.specs.Prelude.{ℕ, List, [], ◌++◌, get_or, reverse, slice_get, Option, Some, None, codes}
use Rattle.std.specs.Fmt.{decimal}
use Rattle.cg_name.specs.Path.{path_word}
use Rattle.cg_model.specs.Cgroups.{cgroups}
use Rattle.cg_model.specs.Command.{Command}
use Rattle.cg_model.specs.Footprint.{Mark, X, S, N, Pid, Count, footprint}
use Rattle.cg_model.specs.History.{Do, History, Record, Request}
use Rattle.cg_core.specs.InTheWay.{in_the_way}
use Rattle.cg_core.specs.State.{CoreState}
use Rattle.cg_command_text.specs.CommandText.{command_text}
use Rattle.cg_replay.specs.Replay.{tree_now}
use Rattle.cg_explain.specs.Comment.{comment}

-- what a command with this mark does
abbrev pub mark_said : Mark → List ℕ
mark_said (X p) = codes "changes " ++ path_word p ++ codes " and below"
mark_said (S p) = codes "reads " ++ path_word p ++ codes " and below"
mark_said (N p) = codes "needs " ++ path_word p ++ codes " to stay"
mark_said (Pid k) = codes "moves process " ++ decimal k
mark_said (Count p) = codes "counts the descendants of " ++ path_word p

-- the number of a line, what its command does, and the command
abbrev pub line_note : ℕ → Mark → Command → List ℕ
line_note n m c = comment (codes "line " ++ decimal n ++ codes " " ++ mark_said m ++ codes ": " ++ command_text c)

-- that of the n-th line, which asked for this
abbrev pub request_note : ℕ → Mark → Request cgroups → List ℕ
request_note n m (Do c) = line_note n m c
request_note n m _ = []

-- which asked for this record
abbrev pub record_note : ℕ → Mark → Option (Record cgroups) → List ℕ
record_note n m None = []
record_note n m (Some r) = request_note n m r.request

-- that of a command, by how many records stand before its own, and its mark: where the records were asked for by these lines
abbrev pub clash_note : List ℕ → History cgroups → Option (ℕ × Mark) → List ℕ
clash_note asked h None = []
clash_note asked h (Some k) = record_note (get_or asked k.0 0) k.1 (slice_get (reverse h) k.0)

-- that of the oldest live command of the transaction u that has a mark which clashes with one of c
abbrev pub way_notes : List ℕ → CoreState → ℕ → Command → List ℕ
way_notes asked k u c = clash_note asked k.history (in_the_way k u (footprint c (tree_now k)))
