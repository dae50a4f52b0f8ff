-- What is written to interface files, as texts: which value a text spells.
use Rattle.std.specs.Prelude.{◌≡◌, ◌⊎◌, ℕ, ◌≤◌, Bool, true, false, List, [], ◌∷◌, filter, codes}
use Rattle.std.specs.List.{slice_split}
use Rattle.std.specs.Str.Parse.{IsNumeral, digits_value}
use Rattle.cg_name.specs.Controller.{controller_word}
use Rattle.cg_name.specs.declared.controller.Controller.{Controller}
use Rattle.cg_digits.specs.WhiteSpace.{is_white_space, trimmed}
use Rattle.cg_text.specs.Controllers.{with_controller, without_controller, no_controllers}
use Rattle.cg_text.specs.Apart.{none_apart, apart_turned, apart_moved}
use Rattle.cg_text.specs.FileText.{flag_word}
use Rattle.cg_text.specs.Words.{Word, is_filled}
use Rattle.cg_text.specs.declared.control_ops.ControlOps.{ControlOps}
use Rattle.cg_text.specs.declared.limit.Limit.{Limit}
use Rattle.cg_text.specs.declared.limit.Limit.TheVariants.{Max, UpTo}

-- `0` or `1` (Core Interface Files: cgroup.freeze)
abbrev pub SpellsFlag : List ℕ → Bool → Type 0
SpellsFlag text b = trimmed text ≡ flag_word b

-- decimal digits, leading zeros allowed, of a value from 1 to 4,194,303
abbrev pub SpellsPid : List ℕ → ℕ → Type 0
SpellsPid text k = IsNumeral 10 (trimmed text) × (digits_value 10 (trimmed text) ≡ k) × (1 ≤ k) × (k ≤ 4194303)

-- `max`, or decimal digits, leading zeros allowed, of a value up to 2,147,483,647, which is `max` as well
-- (Core Interface Files: cgroup.max.descendants, cgroup.max.depth)
abbrev pub SpellsLimitTrimmed : List ℕ → Limit → Type 0
SpellsLimitTrimmed word (UpTo most) = IsNumeral 10 word × (digits_value 10 word ≡ most.number)
SpellsLimitTrimmed word Max = (word ≡ codes "max") ⊎ (IsNumeral 10 word × (digits_value 10 word ≡ 2147483647))

abbrev pub SpellsLimit : List ℕ → Limit → Type 0
SpellsLimit text l = SpellsLimitTrimmed (trimmed text) l

-- no operation
abbrev pub no_ops : ControlOps
no_ops = record { plus = no_controllers; minus = no_controllers; apart = none_apart no_controllers }

-- the operations with one more behind them: of several for one controller the last counts
abbrev pub with_op : Bool → Controller → ControlOps → ControlOps
with_op true c ops = record {
  plus = with_controller c ops.plus;
  minus = without_controller c ops.minus;
  apart = apart_moved c ops.plus ops.minus ops.apart;
}
with_op false c ops = record {
  plus = without_controller c ops.plus;
  minus = with_controller c ops.minus;
  apart = apart_turned _ _ (apart_moved c ops.minus ops.plus (apart_turned _ _ ops.apart));
}

-- the byte before a controller that is to be enabled, or disabled
abbrev pub sign_byte : Bool → ℕ
sign_byte true = 43
sign_byte false = 45

-- the words are operations, and change the first operations to the last
abbrev pub SpellsOpsAfter : ControlOps → List Word → ControlOps → Type 0
SpellsOpsAfter ops [] all = all ≡ ops
SpellsOpsAfter ops (w ∷ ws) all = (enables : Bool) × (c : Controller) × (w ≡ sign_byte enables ∷ controller_word c) × SpellsOpsAfter (with_op enables c ops) ws all

-- the parts of a text between spaces, tabs and newlines
abbrev pub white_space_words : List ℕ → List Word
white_space_words text = filter is_filled (slice_split is_white_space text)

-- words that are operations, separated by spaces, tabs or newlines, possibly none (Core Interface Files: cgroup.subtree_control)
abbrev pub SpellsOps : List ℕ → ControlOps → Type 0
SpellsOps text ops = SpellsOpsAfter no_ops (white_space_words text) ops
