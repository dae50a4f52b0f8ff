-- What is to be done with one controller.
use Rattle.std.specs.Prelude.{Bool, true, false}
use Rattle.cg_command.specs.declared.compact_ops.Op.{Op}
use Rattle.cg_command.specs.declared.compact_ops.Op.TheVariants.{Keep, Enable, Disable}

abbrev pub enables : Op → Bool
enables Keep = false
enables Enable = true
enables Disable = false

abbrev pub disables : Op → Bool
disables Keep = false
disables Enable = false
disables Disable = true

-- to be enabled, or else to be disabled, or neither
abbrev pub op_by : Bool → Bool → Op
op_by true minus = Enable
op_by false true = Disable
op_by false false = Keep
