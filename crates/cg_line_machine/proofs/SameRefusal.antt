-- Errors with refusals are equal where these are.
use Rattle.std.proofs.Common.{◌≡◌, Result, Err}
use Rattle.cg_name.specs.declared.refusal.Refusal.{Refusal}

pub same_refusal : {X : Type 0} {x y : Refusal} → ◌≡◌ {A = Result X Refusal} (Err x) (Err y) → x ≡ y
same_refusal e = cc
