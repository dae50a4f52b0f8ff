-- A command that an open transaction asks for: it is refused, or carried out.
use Rattle.std.specs.Prelude.{◌≡◌, ◌⊎◌, ℕ, ◌+◌, Bool, true, false, length}
use Rattle.cg_locks.specs.Holdings.{Holdings}
use Rattle.cg_model.specs.Cgroups.{cgroups}
use Rattle.cg_model.specs.Command.{Command}
use Rattle.cg_model.specs.Effect.{effect}
use Rattle.cg_model.specs.Footprint.{footprint}
use Rattle.cg_model.specs.History.{Answer, Refused, History}
use Rattle.cg_name.specs.declared.refusal.Refusal.{Refusal}
use Rattle.cg_name.specs.declared.refusal.Refusal.TheVariants as refusals
use Rattle.cg_tree.specs.Room.{TreeWithRoom}
use Rattle.cg_txn.specs.Stack.{Stack}
use Rattle.cg_core.specs.Doing.{IsCarriedOut}
use Rattle.cg_core.specs.Refusing.{IsFree, IsRefusedBy}

-- it is refused by another transaction's locks or by its own check, and all stays; k' is the history k, with its reserved
-- slots, after a slot was reserved for the record
pub record IsRefused (c : Command) (R : TreeWithRoom) (H : Holdings) (s : Stack) (k : History cgroups × ℕ) (a : Answer) (R' : TreeWithRoom) (H' : Holdings) (s' : Stack) (k' : History cgroups × ℕ) : Type 0 where
  pub refusal : Refusal
  pub by : IsRefusedBy H s.number (footprint c R.tree) (effect c R.tree) refusal
  pub answer : a ≡ Refused refusal
  pub tree : R' ≡ R
  pub locks : H' ≡ H
  pub stack : s' ≡ s
  pub history : k' ≡ (k.0, k.1 + 1)

-- nobody is in its way, and it is carried out; a further slot was reserved for going back over it
pub record IsGranted (c : Command) (R : TreeWithRoom) (H : Holdings) (s : Stack) (k : History cgroups × ℕ) (a : Answer) (R' : TreeWithRoom) (H' : Holdings) (s' : Stack) (k' : History cgroups × ℕ) : Type 0 where
  pub free : IsFree H s.number (footprint c R.tree)
  pub carried : IsCarriedOut c (length k.0) (footprint c R.tree) R H s a R' H' s'
  pub history : k' ≡ (k.0, k.1 + 2)

-- one of the two, with the answer a, and the record is due
abbrev pub IsSettled : Command → TreeWithRoom → Holdings → Stack → History cgroups × ℕ → Answer → TreeWithRoom → Holdings → Stack → History cgroups × ℕ → Type 0
IsSettled c R H s k a R' H' s' k' = IsRefused c R H s k a R' H' s' k' ⊎ IsGranted c R H s k a R' H' s' k'

-- why no record is due: the history is full, or it isn't and memory ran out
abbrev pub IsUnheard : Bool → Refusal → Type 0
IsUnheard full r = ((r ≡ refusals.Full) × (full ≡ true)) ⊎ ((r ≡ refusals.Memory) × (full ≡ false))
