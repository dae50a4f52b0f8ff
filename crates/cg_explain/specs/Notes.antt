-- What is told of a command that the tree refuses: what is in its way.
use Rattle.std.specs.Prelude.{ℕ, ◌-◌, Bool, true, cond, nat_le, nat_lt, List, [], ◌∷◌, ◌++◌, filter, take, length, Option, Some, None, codes}
use Rattle.std.specs.List.{flat_map}
use Rattle.std.specs.Fmt.{decimal}
use Rattle.cg_name.specs.Controller.{controller_word}
use Rattle.cg_name.specs.Path.{Path, path_word}
use Rattle.cg_name.specs.declared.controller.Controller.{Controller}
use Rattle.cg_name.specs.declared.refusal.Refusal.{Refusal}
use Rattle.cg_name.specs.declared.refusal.Refusal.TheVariants.{NoGroup, HasChildren, HasProcesses, Controlled, Unavailable, InUse, TooMany, TooDeep}
use Rattle.cg_text.specs.Controllers.{has}
use Rattle.cg_text.specs.FileText.{names_text}
use Rattle.cg_text.specs.declared.limit.Limit.{Limit}
use Rattle.cg_text.specs.declared.limit.Limit.TheVariants.{Max, UpTo}
use Rattle.cg_text.specs.declared.controllers.Controllers.{Controllers}
use Rattle.cg_text.specs.declared.settings.Settings.{Settings}
use Rattle.cg_model.specs.Command.{Command, Create, Remove, Migrate, Subtree, Freeze, Cpus, Show, Online, MaxDescendants, MaxDepth}
use Rattle.cg_model.specs.Derived.{children, processes}
use Rattle.cg_model.specs.Tree.{Tree, group}
use Rattle.cg_tree.specs.Ancestors.{ancestors, ancestors_above}
use Rattle.cg_tree.specs.declared.ancestors.Ancestor.{Ancestor}
use Rattle.cg_explain.specs.Comment.{comment}

-- a path, and what is said of it
abbrev pub path_note : Path → List ℕ → List ℕ
path_note p said = comment (path_word p ++ said)

-- so many children, or processes, are named at most
abbrev pub most_named : ℕ
most_named = 8

-- ---- on the way from p up to the root: of the path of the first n names, by the settings of the group there

-- it is no group
abbrev pub missing_note : Path → ℕ → Option Settings → List ℕ
missing_note p n None = path_note (take n p) (codes " is no group")
missing_note p n (Some s) = []

-- it doesn't pass the controller on
abbrev pub lacking_note : Controller → Path → ℕ → Option Settings → List ℕ
lacking_note c p n None = []
lacking_note c p n (Some s) = cond (has s.control c) [] (path_note (take n p) (codes " passes on no " ++ controller_word c))

-- so many of so many
abbrev pub share : ℕ → List ℕ → ℕ → List ℕ
share n word most = decimal n ++ word ++ decimal most

-- it has as many descendants as its limit allows
abbrev pub many_where : Path → ℕ → ℕ → Limit → List ℕ
many_where p n count Max = []
many_where p n count (UpTo most) = cond (nat_le most.number count) (path_note (take n p) (codes " has " ++ share count (codes " descendants of ") most.number)) []

abbrev pub many_note : Path → ℕ → ℕ → Option Settings → List ℕ
many_note p n count None = []
many_note p n count (Some s) = many_where p n count s.max_descendants

-- p is deeper below it than its limit allows
abbrev pub deep_where : Path → ℕ → Limit → List ℕ
deep_where p n Max = []
deep_where p n (UpTo most) = cond (nat_lt most.number (length p - n)) (path_note (take n p) (codes " would have " ++ share (length p - n) (codes " levels of ") most.number)) []

abbrev pub deep_note : Path → ℕ → Option Settings → List ℕ
deep_note p n None = []
deep_note p n (Some s) = deep_where p n s.max_depth

abbrev pub missing_notes : Path → List Ancestor → List ℕ
missing_notes p way = flat_map (λ a. missing_note p a.depth a.settings) way

abbrev pub lacking_notes : Controller → Path → List Ancestor → List ℕ
lacking_notes c p way = flat_map (λ a. lacking_note c p a.depth a.settings) way

abbrev pub many_notes : Path → List Ancestor → List ℕ
many_notes p way = flat_map (λ a. many_note p a.depth a.descendants a.settings) way

abbrev pub deep_notes : Path → List Ancestor → List ℕ
deep_notes p way = flat_map (λ a. deep_note p a.depth a.settings) way

-- the computer hasn't the controller at all
abbrev pub computer_note : Controllers → Controller → List ℕ
computer_note all c = cond (has all c) [] (comment (codes "the computer has no " ++ controller_word c))

-- who would have to pass the controller on
abbrev pub unavailable_notes : Tree → Path → Controller → List ℕ
unavailable_notes T p c = lacking_notes c p (ancestors_above T p) ++ computer_note T.controllers c

-- ---- the group itself, and what is below it

-- the controllers that it passes on
abbrev pub control_note : Path → Option Settings → List ℕ
control_note p None = []
control_note p (Some s) = path_note p (codes " passes on " ++ names_text 44 s.control)

-- a PID, with a space before it
abbrev pub spaced_pid : ℕ → List ℕ
spaced_pid k = 32 ∷ decimal k

-- how many processes it has, and the first of them
abbrev pub processes_note : Path → List ℕ → List ℕ
processes_note p pids = path_note p (codes " has processes (" ++ decimal (length pids) ++ codes "):" ++ flat_map spaced_pid (take most_named pids))

-- a child passes a controller on, where one is asked for
abbrev pub is_wanted : Option Controller → Path × Settings → Bool
is_wanted None e = true
is_wanted (Some c) e = has e.1.control c

-- what is said of such a child
abbrev pub child_said : Option Controller → List ℕ
child_said None = codes " is a child"
child_said (Some c) = codes " passes on " ++ controller_word c

-- so many children are told at most, of those that pass a test
abbrev pub first_notes : (Path × Settings → Bool) → List ℕ → ℕ → List (Path × Settings) → List ℕ
first_notes test said n children = flat_map (λ e. path_note e.0 said) (take n (filter test children))

-- the first of the children, or of those that pass the controller on
abbrev pub children_notes : Tree → Path → Option Controller → List ℕ
children_notes T p wanted = first_notes (is_wanted wanted) (child_said wanted) most_named (children T p)

-- ---- a command

-- by the group's path, the paths on the way where a group has to be, and the refusal
abbrev pub group_notes : Tree → Path → List Ancestor → Refusal → List ℕ
group_notes T p way NoGroup = missing_notes p way
group_notes T p way HasChildren = children_notes T p None
group_notes T p way HasProcesses = processes_note p (processes T p)
group_notes T p way Controlled = control_note p (group T p)
group_notes T p way (Unavailable c) = unavailable_notes T p c
group_notes T p way (InUse c) = children_notes T p (Some c)
group_notes T p way TooMany = many_notes p (ancestors_above T p)
group_notes T p way TooDeep = deep_notes p (ancestors_above T p)
group_notes T p way _ = []

-- the group to be made isn't there yet, and those above it have to be; else the group itself has to be there too
abbrev pub command_notes : Tree → Command → Refusal → List ℕ
command_notes T (Create p) r = group_notes T p (ancestors_above T p) r
command_notes T (Remove p) r = group_notes T p (ancestors T p) r
command_notes T (Migrate k p) r = group_notes T p (ancestors T p) r
command_notes T (Subtree p ops) r = group_notes T p (ancestors T p) r
command_notes T (Freeze p v) r = group_notes T p (ancestors T p) r
command_notes T (Cpus p v) r = group_notes T p (ancestors T p) r
command_notes T (Show p f) r = group_notes T p (ancestors T p) r
command_notes T (MaxDescendants p l) r = group_notes T p (ancestors T p) r
command_notes T (MaxDepth p l) r = group_notes T p (ancestors T p) r
command_notes T (Online v) r = []
