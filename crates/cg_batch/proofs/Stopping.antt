-- A telling that stopped before it wrote anything.
use Rattle.std.proofs.Common.{ℕ, List, refl, inl}
use Rattle.std.specs.Prelude.{Option, Some, None, Result, Ok, Err, OnErr}
use Rattle.cg_lines.proofs.DeviceLemmas.{AppendsFront-nil}
use Rattle.cg_batch.specs.Batch.{StopsIn}

pub nothing_told : {K : Type 0} (known : Option (List ℕ)) (taken : K → Option (List ℕ)) (history : Option K) (told past : List ℕ) → StopsIn known known taken history history told past
nothing_told None taken history told past = inl (AppendsFront-nil None None told tt, refl)
nothing_told (Some xs) taken history told past = inl (AppendsFront-nil (Some xs) (Some xs) told refl, refl)

-- what holds holds at an error
pub at_error : {X E : Type 0} (r : Result X E) {P : Type 0} → P → OnErr r P
at_error (Ok x) p = tt
at_error (Err e) p = p
