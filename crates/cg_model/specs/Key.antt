-- The keys of a tree, and putting values at keys (this project's own choice).
use Rattle.std.specs.Prelude.{ℕ, Bool, true, false, ◌&&◌, ◌==◌, Option, Some, None, option_map}
use Rattle.cg_maps.specs.FiniteMap.{set_at}
use Rattle.cg_maps.specs.FiniteSet.{FiniteSet}
use Rattle.cg_name.specs.Path.{Path, same_path}
use Rattle.cg_text.specs.declared.controllers.Controllers.{Controllers}
use Rattle.cg_text.specs.declared.limit.Limit.{Limit}
use Rattle.cg_text.specs.declared.settings.Settings.{Settings}
use Rattle.cg_model.specs.Tree.{Tree, group, place_of}

-- the settings of a group, one by one, each named for its interface file (Core Interface Files; Cpuset Interface Files)
pub data Field : Type 0 where
  Control Freeze Cpus MaxDescendants MaxDepth : Field

-- the values of a setting
abbrev pub Setting : Field → Type 0
Setting Control = Controllers
Setting Freeze = Bool
Setting Cpus = FiniteSet
Setting MaxDescendants = Limit
Setting MaxDepth = Limit

-- the value that a group has
abbrev pub setting : (f : Field) → Settings → Setting f
setting Control s = s.control
setting Freeze s = s.freeze
setting Cpus s = s.cpus
setting MaxDescendants s = s.max_descendants
setting MaxDepth s = s.max_depth

-- the settings with one value replaced
abbrev pub with_setting : (f : Field) → Setting f → Settings → Settings
with_setting Control v s = record s { control = v }
with_setting Freeze v s = record s { freeze = v }
with_setting Cpus v s = record s { cpus = v }
with_setting MaxDescendants v s = record s { max_descendants = v }
with_setting MaxDepth v s = record s { max_depth = v }

-- a whole group, a process's group, one setting of a group, the online CPUs
pub data Key : Type 0 where
  Group : Path → Key
  Place : ℕ → Key
  Part : Path → Field → Key
  Online : Key

-- what a key holds, where it holds something
abbrev pub ValueOf : Key → Type 0
ValueOf (Group p) = Settings
ValueOf (Place k) = Path
ValueOf (Part p f) = Setting f
ValueOf Online = FiniteSet

-- the value of a key in a tree, none where its group or its process is absent
abbrev pub value_at : Tree → (k : Key) → Option (ValueOf k)
value_at T (Group p) = group T p
value_at T (Place k) = place_of T k
value_at T (Part p f) = option_map (setting f) (group T p)
value_at T Online = Some T.online

-- the second, where both are there
abbrev pub replaced : {A : Type 0} → Option A → Option A → Option A
replaced None v = None
replaced (Some x) None = Some x
replaced (Some x) (Some v) = Some v

-- the settings with one value replaced, where both are there
abbrev pub part_replaced : (f : Field) → Option (Setting f) → Option Settings → Option Settings
part_replaced f v None = None
part_replaced f None (Some s) = Some s
part_replaced f (Some v) (Some s) = Some (with_setting f v s)

-- the CPUs replaced, where there are others
abbrev pub online_replaced : Option FiniteSet → FiniteSet → FiniteSet
online_replaced None s = s
online_replaced (Some v) s = v

-- the tree with a key holding a value; a setting of an absent group and the place of an unknown PID stay absent
abbrev pub put : (k : Key) → Option (ValueOf k) → Tree → Tree
put (Group p) v T = record T { groups = set_at T.groups p v }
put (Place k) v T = record T { places = set_at T.places k (replaced (place_of T k) v) }
put (Part p f) v T = record T { groups = set_at T.groups p (part_replaced f v (group T p)) }
put Online v T = record T { online = online_replaced v T.online }

-- the two are one setting
abbrev pub same_field : Field → Field → Bool
same_field Control Control = true
same_field Freeze Freeze = true
same_field Cpus Cpus = true
same_field MaxDescendants MaxDescendants = true
same_field MaxDepth MaxDepth = true
same_field _ _ = false

-- two keys are equal, or one is a part of the other
abbrev pub touch : Key → Key → Bool
touch (Group p) (Group q) = same_path p q
touch (Group p) (Part q g) = same_path p q
touch (Part p f) (Group q) = same_path p q
touch (Part p f) (Part q g) = same_path p q && same_field f g
touch (Place k) (Place l) = k == l
touch Online Online = true
touch _ _ = false
