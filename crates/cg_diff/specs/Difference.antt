-- What changed from one tree to another: a line for each change.
use Rattle.std.specs.Prelude.{ℕ, ◌==◌, nat_eq, Bool, true, false, cond, List, [], ◌++◌, Option, Some, None, codes}
use Rattle.std.specs.Bool.{beq}
use Rattle.std.specs.Cmp.Lexicographic.{pointwise}
use Rattle.std.specs.Fmt.{decimal}
use Rattle.std.specs.List.{flat_map, list_all}
use Rattle.std.specs.declared.cmp.Ordering.{Ordering}
use Rattle.cg_maps.specs.FiniteMap.{FiniteMap, entries, from_entries, keys}
use Rattle.cg_maps.specs.FiniteSet.{FiniteSet, members}
use Rattle.cg_name.specs.Path.{Path, path_word, same_path}
use Rattle.cg_text.specs.Controllers.{all_controllers, has}
use Rattle.cg_text.specs.FileText.{flag_word, limit_word}
use Rattle.cg_text.specs.declared.controllers.Controllers.{Controllers}
use Rattle.cg_text.specs.declared.limit.Limit.{Limit}
use Rattle.cg_text.specs.declared.limit.Limit.TheVariants.{Max, UpTo}
use Rattle.cg_text.specs.declared.settings.Settings.{Settings}
use Rattle.cg_model.specs.Tree.{Tree, group, place_of}
use Rattle.cg_world_text.specs.declared.version.Version.{Version}
use Rattle.cg_world_text.specs.World.{asked_cpus_text, control_text, group_line, newline, process_line, space, written_version}

-- ---- values that are the same

abbrev pub same_controllers : Controllers → Controllers → Bool
same_controllers s t = list_all (λ c. beq (has s c) (has t c)) all_controllers

abbrev pub same_cpus : FiniteSet → FiniteSet → Bool
same_cpus s t = pointwise nat_eq (members s) (members t)

abbrev pub same_limit : Limit → Limit → Bool
same_limit Max Max = true
same_limit Max (UpTo n) = false
same_limit (UpTo m) Max = false
same_limit (UpTo m) (UpTo n) = m.number == n.number

-- ---- the lines

-- what a thing was, and what it became
abbrev pub became : List ℕ → List ℕ → List ℕ
became before after = before ++ codes " -> " ++ after ++ newline

-- the line of a thing that both trees have, or nothing where it is the same in both
abbrev pub changed : List ℕ → Bool → List ℕ → List ℕ → List ℕ
changed name same before after = cond same [] (codes "~ " ++ name ++ space ++ became before after)

-- a setting of a group
abbrev pub setting : Path → List ℕ → List ℕ
setting p name = codes "group " ++ path_word p ++ space ++ name

abbrev pub control_change : Path → Controllers → Controllers → List ℕ
control_change p before after = changed (setting p (codes "control")) (same_controllers before after) (control_text before) (control_text after)

abbrev pub freeze_change : Path → Bool → Bool → List ℕ
freeze_change p before after = changed (setting p (codes "freeze")) (beq before after) (flag_word before) (flag_word after)

abbrev pub cpus_change : Path → FiniteSet → FiniteSet → List ℕ
cpus_change p before after = changed (setting p (codes "cpus")) (same_cpus before after) (asked_cpus_text before) (asked_cpus_text after)

abbrev pub descendants_change : Path → Limit → Limit → List ℕ
descendants_change p before after = changed (setting p (codes "descendants")) (same_limit before after) (limit_word before) (limit_word after)

abbrev pub depth_change : Path → Limit → Limit → List ℕ
depth_change p before after = changed (setting p (codes "depth")) (same_limit before after) (limit_word before) (limit_word after)

-- a line for each setting that changed
abbrev pub settings_changes : Path → Settings → Settings → List ℕ
settings_changes p s t =
    control_change p s.control t.control
    ++ freeze_change p s.freeze t.freeze
    ++ cpus_change p s.cpus t.cpus
    ++ descendants_change p s.max_descendants t.max_descendants
    ++ depth_change p s.max_depth t.max_depth

-- what was taken away, and what is new, by its line in a world text
abbrev pub gone : List ℕ → List ℕ
gone line = codes "- " ++ line

abbrev pub new : List ℕ → List ℕ
new line = codes "+ " ++ line

-- what changed of a group, by its settings before and after, none where it is absent; v and w are the versions of the two
-- trees' texts
abbrev pub group_changes : Version → Version → Path → Option Settings → Option Settings → List ℕ
group_changes v w p None None = []
group_changes v w p (Some s) None = gone (group_line v (p, s))
group_changes v w p None (Some t) = new (group_line w (p, t))
group_changes v w p (Some s) (Some t) = settings_changes p s t

-- what changed of a process, by its group before and after, none where it is absent
abbrev pub process_changes : ℕ → Option Path → Option Path → List ℕ
process_changes k None None = []
process_changes k (Some p) None = gone (process_line (k, p))
process_changes k None (Some q) = new (process_line (k, q))
process_changes k (Some p) (Some q) = changed (codes "proc " ++ decimal k) (same_path p q) (path_word p) (path_word q)

-- ---- the whole text

-- the keys of either of two maps, in their order
abbrev pub keys_of_either : {K X : Type 0} {R : K → K → Ordering} → FiniteMap R X → FiniteMap R X → List K
keys_of_either {R = R} m n = keys (from_entries R (entries m ++ entries n))

abbrev pub controllers_change : Tree → Tree → List ℕ
controllers_change A B = changed (codes "controllers") (same_controllers A.controllers B.controllers) (control_text A.controllers) (control_text B.controllers)

abbrev pub online_change : Tree → Tree → List ℕ
online_change A B = changed (codes "online") (same_cpus A.online B.online) (asked_cpus_text A.online) (asked_cpus_text B.online)

-- of each group of either tree, in the order of the paths
abbrev pub groups_changes : Tree → Tree → List ℕ
groups_changes A B = flat_map (λ p. group_changes (written_version A) (written_version B) p (group A p) (group B p)) (keys_of_either A.groups B.groups)

-- of each process of either tree, by ascending PID
abbrev pub processes_changes : Tree → Tree → List ℕ
processes_changes A B = flat_map (λ k. process_changes k (place_of A k) (place_of B k)) (keys_of_either A.places B.places)

-- all that changed from A to B
unfoldable pub difference_text : Tree → Tree → List ℕ
difference_text A B = controllers_change A B ++ online_change A B ++ groups_changes A B ++ processes_changes A B
