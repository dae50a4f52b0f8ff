-- What holds of a call, by what was behind the handle.
use Rattle.std.proofs.Common.{◌≡◌, ℕ, Option, Some, None, sym, subst}
use Rattle.std.proofs.lemmas.Option.{none-some, same_Some}
use Rattle.cg_capi.specs.Calls.{OnHeld}
use Rattle.cg_line_machine.specs.Status.{status_number}
use Rattle.cg_line_machine.specs.Teller.{Told}
use Rattle.cg_line_machine.specs.declared.status.Status.{Status}

-- this teller was there
pub on_some : (old new : Option Told) (n : ℕ) (P : Told → Status → Told → Type 0) (s t : Told) (status : Status)
    → Some s ≡ old → new ≡ Some t → P s status t → n ≡ status_number status → OnHeld old new n P
on_some None new n P s t status is put done number = absurd (none-some _ (sym is))
on_some (Some u) new n P s t status is put done number = (t, status, subst (λ (v : Told). P v status t) (same_Some _ _ is) done, put, number)
