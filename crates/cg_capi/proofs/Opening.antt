-- Of an opening behind a handle.
use Rattle.std.proofs.Common.{◌≡◌, ℕ, ◌≤◌, List, Option, Some, None, is_some, false, true≢false, inl, inr, refl}
use Rattle.cg_capi.specs.Calls.{OpensHeld, WhyNotOpened}
use Rattle.cg_line_machine.specs.Status.{status_number}
use Rattle.cg_line_machine.specs.Teller.{Told, told_first}
use Rattle.cg_line_machine.specs.declared.status.Status.TheVariants.{Done}
use Rattle.cg_model.specs.Tree.{Tree}
use Rattle.cg_name.specs.Refusal.{IsSyntaxOrMemory, number_of}
use Rattle.cg_name.specs.declared.refusal.Refusal.{Refusal}
use Rattle.cg_name.specs.declared.refusal.Refusal.TheVariants.{Syntax, NoTransaction, AlreadyOpen, Full, Busy, NoGroup, Exists, IsRoot, HasChildren, HasProcesses, NoProcess, Controlled, Unavailable, InUse, NoFile, NoSavepoint, NameTaken, NothingToUndo, Memory, Lost, Disagree, TooMany, TooDeep, ReadFault, WriteFault}
use Rattle.cg_world_text.specs.World.{SpellsWorld}

pub not_opened : (old new : Option Told) (world : List ℕ) (limit number : ℕ) → is_some old ≡ false → new ≡ old → WhyNotOpened world limit number → OpensHeld old new world limit number
not_opened None new world limit number shut same why = inr (why, same)
not_opened (Some s) new world limit number shut same why = absurd (true≢false shut)

pub is_opened : (old new : Option Told) (world : List ℕ) (limit number : ℕ) (T : Tree) → is_some old ≡ false → SpellsWorld world T → 2 ≤ limit → limit ≤ 1048576
    → new ≡ Some (told_first T limit) → number ≡ status_number Done → OpensHeld old new world limit number
is_opened None new world limit number T shut spelled low high same is = inl (T, spelled, low, high, same, is)
is_opened (Some s) new world limit number T shut spelled low high same is = absurd (true≢false shut)

-- a refusal to open is told by its number
pub why_refused : (world : List ℕ) (limit number : ℕ) (e : Refusal) → IsSyntaxOrMemory e → (e ≡ Syntax → (T : Tree) → SpellsWorld world T → ⊥) → number ≡ number_of e → WhyNotOpened world limit number
why_refused world limit number Syntax one none is = inr (inl (is, none refl))
why_refused world limit number NoTransaction one none is = absurd one
why_refused world limit number AlreadyOpen one none is = absurd one
why_refused world limit number Full one none is = absurd one
why_refused world limit number (Busy t) one none is = absurd one
why_refused world limit number NoGroup one none is = absurd one
why_refused world limit number Exists one none is = absurd one
why_refused world limit number IsRoot one none is = absurd one
why_refused world limit number HasChildren one none is = absurd one
why_refused world limit number HasProcesses one none is = absurd one
why_refused world limit number NoProcess one none is = absurd one
why_refused world limit number Controlled one none is = absurd one
why_refused world limit number (Unavailable c) one none is = absurd one
why_refused world limit number (InUse c) one none is = absurd one
why_refused world limit number NoFile one none is = absurd one
why_refused world limit number NoSavepoint one none is = absurd one
why_refused world limit number NameTaken one none is = absurd one
why_refused world limit number NothingToUndo one none is = absurd one
why_refused world limit number Memory one none is = inr (inr is)
why_refused world limit number Lost one none is = absurd one
why_refused world limit number Disagree one none is = absurd one
why_refused world limit number TooMany one none is = absurd one
why_refused world limit number TooDeep one none is = absurd one
why_refused world limit number ReadFault one none is = absurd one
why_refused world limit number WriteFault one none is = absurd one
