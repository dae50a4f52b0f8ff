-- A limit in four bytes, as the kernel keeps it: 2,147,483,647 stands for `max`.
use Rattle.std.specs.Prelude.{ℕ, nat_lt, if◌then◌else◌, min}
use Rattle.std.proofs.Math.Nat.{min-le_right}
use Rattle.cg_text.specs.declared.limit.Limit.{Limit}
use Rattle.cg_text.specs.declared.limit.Limit.TheVariants.{Max, UpTo}

-- the limit for which the number stands; the least of two numbers is there for its bound alone
unfoldable pub limit_kept : ℕ → Limit
limit_kept n = if nat_lt n 2147483647 then UpTo (record { number = min n 2147483646; in_range = min-le_right n 2147483646 }) else Max

-- the number that stands for the limit
abbrev pub number_kept : Limit → ℕ
number_kept Max = 2147483647
number_kept (UpTo most) = most.number
