-- Commands stand on one line.
use Rattle.std.proofs.Common.{ℕ, ◌==◌, ◌||◌, Bool, true, false, cond, filter, map, List, [], ◌∷◌, ◌++◌, codes, refl}
use Rattle.std.specs.Fmt.{decimal}
use Rattle.std.specs.List.{AllByRecursion, join_with_byte}
use Rattle.std.proofs.lemmas.Bool.{cond_both}
use Rattle.cg_cpus.specs.CpuList.{cpus_text, run_text, runs}
use Rattle.cg_maps.specs.FiniteSet.{FiniteSet, is_empty_set, members}
use Rattle.cg_name.specs.Controller.{controller_word}
use Rattle.cg_name.specs.FileName.{file_word}
use Rattle.cg_name.specs.Path.{path_word}
use Rattle.cg_name.specs.declared.controller.Controller.{Controller}
use Rattle.cg_name.specs.declared.file_name.FileName.{FileName}
use Rattle.cg_name.specs.declared.file_name.FileName.TheVariants as files
use Rattle.cg_text.specs.Controllers.{all_controllers, has}
use Rattle.cg_text.specs.FileText.{flag_word, limit_word}
use Rattle.cg_text.specs.Words.{Word, line_of}
use Rattle.cg_text.specs.declared.control_ops.ControlOps.{ControlOps}
use Rattle.cg_text.specs.declared.limit.Limit.{Limit}
use Rattle.cg_text.specs.declared.limit.Limit.TheVariants.{Max, UpTo}
use Rattle.cg_model.specs.Command.{Command, Create, Remove, Migrate, Subtree, Freeze, Cpus, Show, Online, MaxDescendants, MaxDepth}
use Rattle.cg_model.specs.Footprint.{Mark, X, S, N, Pid, Count}
use Rattle.cg_command_text.specs.CommandText.{command_text, command_words, cpu_words}
use Rattle.cg_explain.specs.InTheWay.{mark_said}
use Rattle.cg_explain.proofs.OneLine.{IsOnLine, both_on_line, controller_on_line, number_on_line, path_on_line}

words_on_line : (ws : List Word) → AllByRecursion IsOnLine ws → IsOnLine (line_of ws)
words_on_line [] h = refl
words_on_line (w ∷ []) h = h.0
words_on_line (w ∷ v ∷ ws) h = both_on_line w (32 ∷ line_of (v ∷ ws)) h.0 (words_on_line (v ∷ ws) h.1)

-- ---- the words

run_on_line : (r : ℕ × ℕ) → IsOnLine (run_text r)
run_on_line r = cond_both (r.0 == r.1) (decimal r.0) (decimal r.0 ++ 45 ∷ decimal r.1) IsOnLine (λ _. number_on_line r.0) (λ _. both_on_line (decimal r.0) (45 ∷ decimal r.1) (number_on_line r.0) (number_on_line r.1))

runs_on_line : (rs : List (ℕ × ℕ)) → IsOnLine (join_with_byte 44 (map run_text rs))
runs_on_line [] = refl
runs_on_line (r ∷ []) = run_on_line r
runs_on_line (r ∷ q ∷ rs) = both_on_line (run_text r) (44 ∷ join_with_byte 44 (map run_text (q ∷ rs))) (run_on_line r) (runs_on_line (q ∷ rs))

cpus_on_line : (s : FiniteSet) → AllByRecursion IsOnLine (cpu_words s)
cpus_on_line s = cond_both (is_empty_set s) [] (cpus_text s ∷ []) (λ ws. AllByRecursion IsOnLine ws) (λ _. tt) (λ _. (runs_on_line (runs (members s)), tt))

ops_on_line : (ops : ControlOps) (cs : List Controller) → AllByRecursion IsOnLine (map (λ c. cond (has ops.plus c) 43 45 ∷ controller_word c) cs)
ops_on_line ops [] = tt
ops_on_line ops (c ∷ cs) = (elim (has ops.plus c) as (λ b. IsOnLine (cond b 43 45 ∷ controller_word c)) [ true ↦ controller_on_line c | false ↦ controller_on_line c ], ops_on_line ops cs)

flag_on_line : (v : Bool) → IsOnLine (flag_word v)
flag_on_line true = refl
flag_on_line false = refl

limit_on_line : (l : Limit) → IsOnLine (limit_word l)
limit_on_line Max = refl
limit_on_line (UpTo most) = number_on_line most.number

file_on_line : (f : FileName) → IsOnLine (file_word f)
file_on_line files.Procs = refl
file_on_line files.Controllers = refl
file_on_line files.SubtreeControl = refl
file_on_line files.Events = refl
file_on_line files.Freeze = refl
file_on_line files.Cpus = refl
file_on_line files.EffectiveCpus = refl
file_on_line files.MaxDescendants = refl
file_on_line files.MaxDepth = refl

-- ---- a command

all_on_line : (c : Command) → AllByRecursion IsOnLine (command_words c)
all_on_line (Create p) = (refl, (path_on_line p, tt))
all_on_line (Remove p) = (refl, (path_on_line p, tt))
all_on_line (Migrate k p) = (refl, (number_on_line k, (path_on_line p, tt)))
all_on_line (Subtree p ops) = (refl, (path_on_line p, ops_on_line ops (filter (λ c. has ops.plus c || has ops.minus c) all_controllers)))
all_on_line (Freeze p v) = (refl, (path_on_line p, (flag_on_line v, tt)))
all_on_line (Cpus p s) = (refl, (path_on_line p, cpus_on_line s))
all_on_line (Show p f) = (refl, (path_on_line p, (file_on_line f, tt)))
all_on_line (Online s) = (refl, cpus_on_line s)
all_on_line (MaxDescendants p l) = (refl, (path_on_line p, (limit_on_line l, tt)))
all_on_line (MaxDepth p l) = (refl, (path_on_line p, (limit_on_line l, tt)))

-- ---- what is told of it

mark_on_line : (m : Mark) → IsOnLine (mark_said m)
mark_on_line (X p) = both_on_line (codes "changes " ++ path_word p) (codes " and below") (path_on_line p) refl
mark_on_line (S p) = both_on_line (codes "reads " ++ path_word p) (codes " and below") (path_on_line p) refl
mark_on_line (N p) = both_on_line (codes "needs " ++ path_word p) (codes " to stay") (path_on_line p) refl
mark_on_line (Pid k) = number_on_line k
mark_on_line (Count p) = path_on_line p

pub line_on_line : (n : ℕ) (m : Mark) (c : Command) → IsOnLine (codes "line " ++ decimal n ++ codes " " ++ mark_said m ++ codes ": " ++ command_text c)
line_on_line n m c =
    let number : IsOnLine (codes "line " ++ decimal n ++ codes " ") = both_on_line (codes "line " ++ decimal n) (codes " ") (number_on_line n) refl in
    let mark : IsOnLine (codes "line " ++ decimal n ++ codes " " ++ mark_said m) = both_on_line (codes "line " ++ decimal n ++ codes " ") (mark_said m) number (mark_on_line m) in
    both_on_line (codes "line " ++ decimal n ++ codes " " ++ mark_said m ++ codes ": ") (command_text c)
    (both_on_line (codes "line " ++ decimal n ++ codes " " ++ mark_said m) (codes ": ") mark refl) (words_on_line (command_words c) (all_on_line c))
