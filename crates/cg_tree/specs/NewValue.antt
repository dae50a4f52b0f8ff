-- One setting of a group, and the value that it is to have.
use Rattle.std.specs.Prelude.{ℕ, Bool, true, false, Option, Some}
use Rattle.cg_model.specs.Key.{Field, Setting, part_replaced}
use Rattle.cg_model.specs.Key as keys
use Rattle.cg_text.specs.declared.limit.Limit.{Limit}
use Rattle.cg_text.specs.declared.limit.Limit.TheVariants.{Max, UpTo}
use Rattle.cg_text.specs.declared.settings.Settings.{Settings}
use Rattle.cg_tree.specs.declared.new_value.NewValue.{NewValue}
use Rattle.cg_tree.specs.declared.new_value.NewValue.TheVariants.{Control, Freeze, Cpus, MaxDescendants, MaxDepth}
use Rattle.cg_world.specs.Representable.{AreCpusUpTo}

abbrev pub field_of : NewValue → Field
field_of (Control v) = keys.Control
field_of (Freeze v) = keys.Freeze
field_of (Cpus v) = keys.Cpus
field_of (MaxDescendants v) = keys.MaxDescendants
field_of (MaxDepth v) = keys.MaxDepth

abbrev pub value_of : (n : NewValue) → Setting (field_of n)
value_of (Control v) = v
value_of (Freeze v) = v
value_of (Cpus v) = v
value_of (MaxDescendants v) = v
value_of (MaxDepth v) = v

-- the value that the same setting has in these settings
abbrev pub value_there : NewValue → Settings → NewValue
value_there (Control v) s = Control s.control
value_there (Freeze v) s = Freeze s.freeze
value_there (Cpus v) s = Cpus s.cpus
value_there (MaxDescendants v) s = MaxDescendants s.max_descendants
value_there (MaxDepth v) s = MaxDepth s.max_depth

-- the settings of a group that may be there, with that value
abbrev pub with_new : NewValue → Option Settings → Option Settings
with_new n w = part_replaced (field_of n) (Some (value_of n)) w

abbrev pub is_limited : Limit → Bool
is_limited Max = false
is_limited (UpTo n) = true

-- the value is a limit other than `max`
abbrev pub is_limit : NewValue → Bool
is_limit (Control v) = false
is_limit (Freeze v) = false
is_limit (Cpus v) = false
is_limit (MaxDescendants v) = is_limited v
is_limit (MaxDepth v) = is_limited v

-- where it is of CPUs, none of them is above the greatest
abbrev pub HasCpusUpTo : ℕ → NewValue → Type 0
HasCpusUpTo most (Control v) = Unit {0}
HasCpusUpTo most (Freeze v) = Unit {0}
HasCpusUpTo most (Cpus v) = AreCpusUpTo most v
HasCpusUpTo most (MaxDescendants v) = Unit {0}
HasCpusUpTo most (MaxDepth v) = Unit {0}
