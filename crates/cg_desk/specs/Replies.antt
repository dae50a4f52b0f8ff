-- What may be answered in an open transaction.
use Rattle.std.specs.Prelude.{◌≡◌, ℕ, Bool, true, false}
use Rattle.cg_name.specs.declared.refusal.Refusal.{Refusal}
use Rattle.cg_name.specs.declared.refusal.Refusal.TheVariants.{AlreadyOpen, Full, NoSavepoint, NameTaken, NothingToUndo, Memory, Lost}
use Rattle.cg_model.specs.Cgroups.{cgroups}
use Rattle.cg_model.specs.System.{Done}
use Rattle.cg_model.specs.History.{Request, Begin, Do, Save, Back, Undo, Commit, Abort, Answer, Gave, Saved, WentBack, Committed, Aborted, Refused, is_command_refusal}

-- the refusals of a request whose session asks in its transaction; that the transaction is lost may meet each
abbrev pub may_meet : Request cgroups → Refusal → Bool
may_meet r Lost = true
may_meet (Do c) Full = true
may_meet (Do c) Memory = true
may_meet (Do c) e = is_command_refusal e
may_meet (Save n) NameTaken = true
may_meet (Save n) Full = true
may_meet (Save n) Memory = true
may_meet Undo NothingToUndo = true
may_meet (Back n) NoSavepoint = true
may_meet Begin AlreadyOpen = true
may_meet _ _ = false

-- the answers to a request in transaction t: one of its refusals, or what it is for
abbrev pub MayAnswer : ℕ → Request cgroups → Answer → Type 0
MayAnswer t r (Refused e) = may_meet r e ≡ true
MayAnswer t (Do c) (Gave o) = Unit {0}
MayAnswer t (Save n) Saved = Unit {0}
MayAnswer t Undo (Gave Done) = Unit {0}
MayAnswer t (Back n) (WentBack k) = Unit {0}
MayAnswer t Commit (Committed k) = Unit {0}
MayAnswer t Abort (Aborted u) = u ≡ t
MayAnswer t _ _ = ⊥
