-- What interface files hold, as texts.
use Rattle.std.specs.Prelude.{ℕ, ◌||◌, Bool, true, false, cond, List, [], ◌∷◌, ◌++◌, map, filter, codes}
use Rattle.std.specs.List.{flat_map, join_with_byte}
use Rattle.std.specs.Fmt.{decimal}
use Rattle.cg_maps.specs.FiniteSet.{FiniteSet}
use Rattle.cg_name.specs.Controller.{controller_word}
use Rattle.cg_cpus.specs.CpuList.{cpus_text}
use Rattle.cg_text.specs.Controllers.{has, members, all_controllers}
use Rattle.cg_text.specs.declared.control_ops.ControlOps.{ControlOps}
use Rattle.cg_text.specs.declared.controllers.Controllers.{Controllers}
use Rattle.cg_text.specs.declared.limit.Limit.{Limit}
use Rattle.cg_text.specs.declared.limit.Limit.TheVariants.{Max, UpTo}

-- a text and a newline
abbrev pub line_text : List ℕ → List ℕ
line_text text = text ++ 10 ∷ []

-- words with single spaces between them and a newline; no bytes for no words
abbrev pub words_text : List (List ℕ) → List ℕ
words_text [] = []
words_text (w ∷ ws) = line_text (join_with_byte 32 (w ∷ ws))

-- the names of a set's controllers, in the kernel's order, with a byte between them
abbrev pub names_text : ℕ → Controllers → List ℕ
names_text separator s = join_with_byte separator (map controller_word (members s))

-- a set of controllers, in the kernel's order
abbrev pub controllers_text : Controllers → List ℕ
controllers_text s = words_text (map controller_word (members s))

-- each PID on a line of its own
abbrev pub pids_text : List ℕ → List ℕ
pids_text pids = flat_map (λ k. line_text (decimal k)) pids

abbrev pub flag_word : Bool → List ℕ
flag_word true = codes "1"
flag_word false = codes "0"

abbrev pub flag_text : Bool → List ℕ
flag_text b = line_text (flag_word b)

-- whether the group is populated, and whether it is frozen
abbrev pub events_text : Bool → Bool → List ℕ
events_text populated frozen = codes "populated " ++ line_text (flag_word populated) ++ codes "frozen " ++ line_text (flag_word frozen)

abbrev pub cpus_line : FiniteSet → List ℕ
cpus_line s = line_text (cpus_text s)

abbrev pub limit_word : Limit → List ℕ
limit_word Max = codes "max"
limit_word (UpTo most) = decimal most.number

abbrev pub limit_text : Limit → List ℕ
limit_text l = line_text (limit_word l)

-- a word of an operation for each named controller, in the kernel's order: a plus or a minus, and the name
abbrev pub op_words : ControlOps → List (List ℕ)
op_words ops = map (λ c. cond (has ops.plus c) 43 45 ∷ controller_word c) (filter (λ c. has ops.plus c || has ops.minus c) all_controllers)

-- the operations with single spaces between them, and no newline
abbrev pub ops_text : ControlOps → List ℕ
ops_text ops = join_with_byte 32 (op_words ops)
