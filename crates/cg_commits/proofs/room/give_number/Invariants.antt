-- The places so far have the number.
use Rattle.std.proofs.Common.{◌≡◌, ℕ, cond, get_or, take, vec_len}
use Rattle.cg_model.specs.Opens.{among}
use Rattle.cg_commits.proofs.room.give_number.Given as goal

abbrev pub invariant-loop-place : goal.invariant-loop-place
invariant-loop-place l = record {
  numbers : (n : ℕ) → get_or l.numbers.items n 0 ≡ cond (among n (take l.place-index l.places)) l.number (get_or l.fn.numbers.items n 0);
  len : vec_len l.numbers ≡ vec_len l.fn.numbers;
}
