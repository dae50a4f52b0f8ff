-- Limits, by the numbers that are kept for them.
use Rattle.std.proofs.Common.{◌≡◌, ℕ, ◌≤◌, Some, true, false, nat_lt, cond, min, ap, ◌∙◌, sym, refl, arith}
use Rattle.std.proofs.Math.Nat.{min-le_right, min-eq_left}
use Rattle.std.proofs.lemmas.Bool.Decides.{nat_tests}
use Rattle.cg_text.specs.Limit.{number_of}
use Rattle.cg_text.specs.declared.limit.Limit.{Limit}
use Rattle.cg_text.specs.declared.limit.Limit.TheVariants.{Max, UpTo}
use Rattle.cg_text.specs.declared.limit.LimitNumber.{LimitNumber}
use Rattle.cg_text.proofs.Limits.{same_number, limit_is_its_number}
use Rattle.cg_boxed.specs.Limits.{limit_kept}

-- the number behind the greatest that is a limit's stands for `max`
pub max_kept : limit_kept 2147483647 ≡ Max
unfolding limit_kept
max_kept = refl

pub number_kept_is : (most : LimitNumber) → limit_kept most.number ≡ UpTo most
unfolding limit_kept
number_kept_is most =
    let below : nat_lt most.number 2147483647 ≡ true = grind (arith, nat_tests, most.in_range) in
    let bounded : LimitNumber = record { number = min most.number 2147483646; in_range = min-le_right most.number 2147483646 } in
    ap (λ b. cond b (UpTo bounded) Max) below ∙ ap UpTo (same_number bounded most (min-eq_left most.in_range))

pub max_is : (n : ℕ) → 2147483647 ≤ n → Max ≡ limit_kept n
unfolding limit_kept
max_is n h =
    let above : nat_lt n 2147483647 ≡ false = grind (arith, nat_tests) in
    let bounded : LimitNumber = record { number = min n 2147483646; in_range = min-le_right n 2147483646 } in
    sym (ap (λ b. cond b (UpTo bounded) Max) above)

number_of_kept : (n : ℕ) → n ≤ 2147483646 → number_of (limit_kept n) ≡ Some n
unfolding limit_kept
number_of_kept n h =
    let below : nat_lt n 2147483647 ≡ true = grind (arith, nat_tests) in
    let bounded : LimitNumber = record { number = min n 2147483646; in_range = min-le_right n 2147483646 } in
    ap (λ b. number_of (cond b (UpTo bounded) Max)) below ∙ ap Some (min-eq_left h)

pub limit_of_number : (n : ℕ) (limit : Limit) → n ≤ 2147483646 → number_of limit ≡ Some n → limit ≡ limit_kept n
limit_of_number n limit h e = limit_is_its_number limit (limit_kept n) (e ∙ sym (number_of_kept n h))
