-- The outline of a tree: a line for each group, as plain text or as JSON.
use Rattle.std.specs.Prelude.{ℕ, suc, Bool, true, cond, nat_le, List, [], ◌∷◌, ◌++◌, Option, Some, None, length, codes}
use Rattle.std.specs.List.{flat_map}
use Rattle.std.specs.Fmt.{decimal}
use Rattle.cg_json.specs.declared.form.Form.{Form}
use Rattle.cg_json.specs.declared.form.Form.TheVariants as forms
use Rattle.cg_maps.specs.FiniteMap.{entries}
use Rattle.cg_maps.specs.FiniteSet.{FiniteSet, is_empty_set}
use Rattle.cg_name.specs.Path.{Path, path_word, is_root}
use Rattle.cg_cpus.specs.CpuList.{cpus_text}
use Rattle.cg_text.specs.Controllers.{is_no_controllers, no_controllers}
use Rattle.cg_text.specs.FileText.{names_text}
use Rattle.cg_text.specs.declared.controllers.Controllers.{Controllers}
use Rattle.cg_text.specs.declared.limit.Limit.{Limit}
use Rattle.cg_text.specs.declared.limit.Limit.TheVariants.{Max, UpTo}
use Rattle.cg_text.specs.declared.settings.Settings.{Settings}
use Rattle.cg_model.specs.Derived.{descendants, effective, frozen, populated, processes}
use Rattle.cg_model.specs.Tree.{Tree}
use Rattle.cg_outline.specs.GroupValue.{group_line}

-- two spaces for each name
abbrev pub indent : Path → List ℕ
indent p = flat_map (λ _. codes "  ") p

-- what is told of a group: a word, and what it is
abbrev pub fact : List ℕ → List ℕ → List ℕ
fact word value = codes "  " ++ word ++ 32 ∷ value

-- of controllers, where there are any
abbrev pub names_fact : List ℕ → Controllers → List ℕ
names_fact word s = cond (is_no_controllers s) [] (fact word (names_text 44 s))

-- of CPUs, where there are any
abbrev pub cpus_fact : FiniteSet → List ℕ
cpus_fact s = cond (is_empty_set s) [] (fact (codes "cpus") (cpus_text s))

-- of the effective CPUs, where the group has cpuset
abbrev pub effective_fact : Option FiniteSet → List ℕ
effective_fact None = []
effective_fact (Some s) = fact (codes "effective") (cpus_text s)

-- of a limit on descendants, with how many there are
abbrev pub descendants_fact : ℕ → Limit → List ℕ
descendants_fact n Max = []
descendants_fact n (UpTo most) = fact (codes "descendants") (decimal n ++ codes " of " ++ decimal most.number)

-- of a limit on depth
abbrev pub depth_fact : Limit → List ℕ
depth_fact Max = []
depth_fact (UpTo most) = fact (codes "depth") (decimal most.number)

-- that the group is frozen
abbrev pub frozen_fact : Option Bool → List ℕ
frozen_fact (Some true) = codes "  frozen"
frozen_fact _ = []

-- a PID, with a space before it
abbrev pub spaced_pid : ℕ → List ℕ
spaced_pid pid = 32 ∷ decimal pid

-- its own processes; where it has none, that a group below it has some
abbrev pub processes_fact : List ℕ → Option Bool → List ℕ
processes_fact (k ∷ ks) is_populated = codes "  pids" ++ flat_map spaced_pid (k ∷ ks)
processes_fact [] (Some true) = codes "  populated"
processes_fact [] _ = []

-- how many groups are below one of those at the greatest depth, where there are any
abbrev pub hidden_fact : Bool → ℕ → List ℕ
hidden_fact true (suc n) = fact (codes "below") (decimal (suc n))
hidden_fact _ _ = []

-- the computer's controllers at the root, and none elsewhere
abbrev pub root_controllers : Tree → Path → Controllers
root_controllers T p = cond (is_root p) T.controllers no_controllers

-- what a group asks for, with what it has of that
abbrev pub asked_text : Tree → Path → Settings → List ℕ
asked_text T p s =
    names_fact (codes "control") s.control
    ++ cpus_fact s.cpus
    ++ effective_fact (effective T p)
    ++ descendants_fact (descendants T p) s.max_descendants
    ++ depth_fact s.max_depth

-- whether it is frozen, and its processes
abbrev pub derived_text : Tree → Path → List ℕ
derived_text T p = frozen_fact (frozen T p) ++ processes_fact (processes T p) (populated T p)

-- how many groups are left out below it, in an outline of those of at most so many names
abbrev pub below_text : ℕ → Tree → Path → List ℕ
below_text depth T p = hidden_fact (nat_le depth (length p)) (descendants T p)

-- what is told of a group, in an outline of those of at most so many names
abbrev pub facts_text : ℕ → Tree → Path → Settings → List ℕ
facts_text depth T p s = names_fact (codes "controllers") (root_controllers T p) ++ asked_text T p s ++ derived_text T p ++ below_text depth T p

-- its line
abbrev pub group_text : ℕ → Tree → Path × Settings → List ℕ
group_text depth T e = indent e.0 ++ path_word e.0 ++ facts_text depth T e.0 e.1 ++ 10 ∷ []

-- that line in a form
abbrev pub told_text : Form → ℕ → Tree → Path × Settings → List ℕ
told_text forms.Plain depth T e = group_text depth T e
told_text forms.Json depth T e = group_line depth T e

-- the same, or nothing where the group has more names
abbrev pub shown_text : Form → ℕ → Tree → Path × Settings → List ℕ
shown_text form depth T e = cond (nat_le (length e.0) depth) (told_text form depth T e) []

-- the lines, in the order of the groups' paths
abbrev pub outline_text : Form → ℕ → Tree → List ℕ
outline_text form depth T = flat_map (shown_text form depth T) (entries T.groups)
