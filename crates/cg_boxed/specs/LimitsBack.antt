-- The limit for which a number stands gives the number back.
use Rattle.std.proofs.Common.{◌≡◌, ℕ, ◌≤◌, true, false, nat_lt, cond, min, refl, arith}
use Rattle.std.proofs.Math.Nat.{min-le_right, min-eq_left}
use Rattle.std.proofs.lemmas.Bool.Decides.{nat_tests}
use Rattle.cg_text.specs.declared.limit.Limit.TheVariants.{Max, UpTo}
use Rattle.cg_boxed.specs.Limits.{limit_kept, number_kept}

pub number_back : (n : ℕ) → n ≤ 2147483647 → number_kept (limit_kept n) ≡ n
unfolding limit_kept
number_back n h = elim (nat_lt n 2147483647) as (λ b. nat_lt n 2147483647 ≡ b → number_kept (cond b (UpTo (record { number = min n 2147483646; in_range = min-le_right n 2147483646 })) Max) ≡ n) [
  | true ↦ λ e. min-eq_left (grind (arith, nat_tests))
  | false ↦ λ e. grind (arith, nat_tests)
] refl
