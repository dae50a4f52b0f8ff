-- What the laws say at a history that steps lead to.
use Rattle.std.proofs.Common.{◌≡◌, ℕ, ◌≤◌, ◌<◌, ◌==◌, ◌||◌, true, false, List, [], ◌∷◌, refl, subst, arith}
use Rattle.std.proofs.lemmas.Bool.{eqb-true}
use Rattle.std.specs.List.{AllByRecursion}
use Rattle.cg_model.specs.Cgroups.{cgroups}
use Rattle.cg_model.specs.History.{History}
use Rattle.cg_model.specs.Machine.{Machine}
use Rattle.cg_model.specs.Opens.{among, numbers, opens}
use Rattle.cg_model.specs.Reply.{slots}
use Rattle.cg_model.specs.Sound.{Sound}
use Rattle.cg_model.specs.Tree.{Tree}
use Rattle.cg_core_laws.specs.Ends.{GoDown, EndsAll}
use Rattle.cg_core_laws.specs.Laws.{Faithful, SchedulesEnd, AfterAnySteps}
use Rattle.cg_core_laws.specs.Laws as laws
use Rattle.cg_core_laws.specs.MachineOf.{machine_of, Reached}
use Rattle.cg_core_laws.specs.Serial.{IsFaithful, IsSerial, OnceEach}

-- a law of what any steps lead to holds of the machine of a history that they lead to
pub at_history : (P : Tree → Machine cgroups → Type 0) → AfterAnySteps P → (O : Tree) (b : ℕ) (h : History cgroups) → Sound O → Reached O b h → P O (machine_of O b h)
at_history P law O b h sound reached = subst (P O) reached.leads (law O b reached.requests sound reached.proper)

below_all : (n : ℕ) (ns : List ℕ) → AllByRecursion (λ m. m < n) ns → among n ns ≡ false
below_all n [] l = refl
below_all n (m ∷ ns) l =
    let low : m < n = l.0 in
    elim (n == m) as (λ b. (n == m) ≡ b → (b || among n ns) ≡ false) [
      | true ↦ λ e. let is : n ≡ m = eqb-true n m e in absurd (omega (arith, is, low))
      | false ↦ λ e. below_all n ns l.1
    ] refl

pub once_going_down : (ns : List ℕ) → GoDown ns → OnceEach ns
once_going_down [] d = tt
once_going_down (n ∷ ns) d = (below_all n ns d.0, once_going_down ns d.1)

module _ (O : Tree) (b : ℕ) (h : History cgroups) (sound : Sound O) (reached : Reached O b h) where
  -- each open transaction has a number of its own
  pub numbers_once : SchedulesEnd → OnceEach (numbers (opens h))
  numbers_once law = once_going_down (numbers (opens h)) (at_history (λ O m. EndsAll cgroups O m) law O b h sound reached).numbered

  -- the records and the reserved slots are within the bound
  pub within : Faithful → 2 ≤ b → slots h ≤ b
  within law low = (at_history (λ O m. IsFaithful cgroups O m) law O b h sound reached).within_bound low

  pub serial_at : laws.Serial → IsSerial cgroups O (machine_of O b h)
  serial_at law = at_history (λ O m. IsSerial cgroups O m) law O b h sound reached
