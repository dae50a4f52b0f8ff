-- Limits on descendants and on depth.
use Rattle.std.specs.Prelude.{ℕ, Option, Some, None}
use Rattle.cg_text.specs.declared.limit.Limit.{Limit}
use Rattle.cg_text.specs.declared.limit.Limit.TheVariants.{Max, UpTo}

-- the number of a limit, none for `max`
abbrev pub number_of : Limit → Option ℕ
number_of Max = None
number_of (UpTo most) = Some most.number
