-- Why a command is refused in its transaction: another one is in the way, or its own check fails.
use Rattle.std.specs.Prelude.{◌≡◌, ◌⊎◌, ℕ, ◌≤◌, List}
use Rattle.cg_locks.specs.Holdings.{Holdings, IsInTheWay}
use Rattle.cg_model.specs.Command.{Effect}
use Rattle.cg_model.specs.Footprint.{Mark}
use Rattle.cg_model.specs.System.{Refuse}
use Rattle.cg_name.specs.declared.refusal.Refusal.{Refusal}
use Rattle.cg_name.specs.declared.refusal.Refusal.TheVariants.{Busy}

-- no other transaction than t is in the way of the footprint
abbrev pub IsFree : Holdings → ℕ → List Mark → Type 0
IsFree H t f = (v : ℕ) → ¬ (IsInTheWay H t f v)

-- u is the least that is
pub record IsLeast (H : Holdings) (t : ℕ) (f : List Mark) (u : ℕ) : Type 0 where
  pub in_the_way : IsInTheWay H t f u
  pub least : (v : ℕ) → IsInTheWay H t f v → u ≤ v

-- t's command with this footprint and this effect is refused with r
abbrev pub IsRefusedBy : Holdings → ℕ → List Mark → Effect → Refusal → Type 0
IsRefusedBy H t f e r = ((u : ℕ) × (r ≡ Busy (record { 0 = u })) × IsLeast H t f u) ⊎ (IsFree H t f × (e ≡ Refuse r))
