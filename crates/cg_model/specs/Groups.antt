-- Making groups and taking them away, and the limits on descendants and depth
-- (cgroup-v2, Organizing Processes and Threads; Core Interface Files: cgroup.max.descendants, cgroup.max.depth).
use Rattle.std.specs.Prelude.{ℕ, Bool, true, false, ◌-◌, nat_le, nat_lt, [], ◌∷◌, length, Option, Some, None}
use Rattle.std.specs.List.{list_any}
use Rattle.cg_name.specs.Path.{Path, along}
use Rattle.cg_name.specs.declared.refusal.Refusal.TheVariants.{NoGroup, Exists, IsRoot, HasChildren, HasProcesses, TooMany, TooDeep}
use Rattle.cg_text.specs.Settings.{fresh}
use Rattle.cg_text.specs.declared.limit.Limit.{Limit}
use Rattle.cg_text.specs.declared.limit.Limit.TheVariants.{Max, UpTo}
use Rattle.cg_text.specs.declared.settings.Settings.{Settings}
use Rattle.cg_model.specs.Tree.{Tree, group}
use Rattle.cg_model.specs.Derived.{descendants}
use Rattle.cg_model.specs.Key.{Group}
use Rattle.cg_model.specs.Change.{change}
use Rattle.cg_model.specs.System.{Done, Refuse, Accept}
use Rattle.cg_model.specs.Command.{Effect}

-- n descendants are as many as the limit allows, or more (Core Interface Files: cgroup.max.descendants)
abbrev pub reaches : Limit → ℕ → Bool
reaches Max n = false
reaches (UpTo most) n = nat_le most.number n

-- d levels are more than the limit allows (Core Interface Files: cgroup.max.depth)
abbrev pub exceeds : Limit → ℕ → Bool
exceeds Max d = false
exceeds (UpTo most) d = nat_lt most.number d

-- a group has as many descendants as it may have
abbrev pub reaches_descendants : Option Settings → ℕ → Bool
reaches_descendants None n = false
reaches_descendants (Some s) n = reaches s.max_descendants n

-- d levels below a group are more than it allows
abbrev pub exceeds_depth : Option Settings → ℕ → Bool
exceeds_depth None d = false
exceeds_depth (Some s) d = exceeds s.max_depth d

-- the test passes at some path above p
abbrev pub any_above : (Path → Bool) → Path → Bool
any_above f p = list_any (λ b. b) (along f p)

-- some group above p has as many descendants as it may have
abbrev pub too_many : Tree → Path → Bool
too_many T p = any_above (λ a. reaches_descendants (group T a) (descendants T a)) p

-- p is deeper below some group than that group allows
abbrev pub too_deep : Tree → Path → Bool
too_deep T p = any_above (λ a. exceeds_depth (group T a) (length p - length a)) p

-- by the path, its parent's settings, its own, and the two limits (Organizing Processes and Threads: Processes); of several
-- limits, those on descendants come first (this project's own choice)
abbrev pub create_effect : Path → Option Settings → Option Settings → Bool → Bool → Effect
create_effect [] parent own many deep = Refuse Exists
create_effect (n ∷ p) None own many deep = Refuse NoGroup
create_effect (n ∷ p) (Some u) (Some s) many deep = Refuse Exists
create_effect (n ∷ p) (Some u) None true deep = Refuse TooMany
create_effect (n ∷ p) (Some u) None false true = Refuse TooDeep
create_effect (n ∷ p) (Some u) None false false = Accept Done (change (Group (n ∷ p)) None (Some fresh) ∷ [])

-- by the path, its settings, whether it has children, and whether it has processes of its own (Organizing Processes and
-- Threads: Processes)
abbrev pub remove_effect : Path → Option Settings → Bool → Bool → Effect
remove_effect [] own children processes = Refuse IsRoot
remove_effect (n ∷ p) None children processes = Refuse NoGroup
remove_effect (n ∷ p) (Some s) true processes = Refuse HasChildren
remove_effect (n ∷ p) (Some s) false true = Refuse HasProcesses
remove_effect (n ∷ p) (Some s) false false = Accept Done (change (Group (n ∷ p)) (Some s) None ∷ [])
