-- One step of a core, in the open transaction of a session.
use Rattle.std.specs.Prelude.{◌≡◌, ℕ, Some, false}
use Rattle.std.specs.Bool.{OnFalse, OnTrue}
use Rattle.cg_core.specs.Answers.{is_memory, takes_memory}
use Rattle.cg_core.specs.State.{CoreState, after, has_record, machine, reply}
use Rattle.cg_core_laws.specs.Laws.{GoBack, IsBusyExactly}
use Rattle.cg_core_laws.specs.MachineOf.{Reached}
use Rattle.cg_core_laws.specs.Room.{RoomKept}
use Rattle.cg_core_laws.specs.Serial.{IsFaithful, IsSerial, OthersStay}
use Rattle.cg_history.specs.Meaning.{answer_of, request_of}
use Rattle.cg_history.specs.declared.record.Answer.{Answer}
use Rattle.cg_history.specs.declared.record.Request.{Request}
use Rattle.cg_model.specs.Cgroups.{cgroups}
use Rattle.cg_model.specs.Machine.{step}
use Rattle.cg_model.specs.Opens.{opens, transaction_in}

-- transaction t is open in session s
abbrev pub IsOpenIn : CoreState → ℕ → ℕ → Type 0
IsOpenIn c s t = transaction_in s (opens c.history) ≡ Some t

-- session s asks for r, is answered a, and the core is as after it: all that a core says of a step
pub record IsStep (before : CoreState) (s : ℕ) (r : Request) (a : Answer) (c : CoreState) : Type 0 where
  pub answer : OnFalse (is_memory a) (answer_of a ≡ reply before s (request_of r))
  pub state : OnFalse (is_memory a) (c ≡ after before s (request_of r))
  pub by_machine : OnFalse (is_memory a) (step cgroups (machine before) s (request_of r) ≡ (machine c, answer_of a))
  pub memory : OnTrue (is_memory a) (c ≡ before)
  pub infallible : takes_memory r ≡ false → is_memory a ≡ false
  pub unrecorded : has_record before s (request_of r) ≡ false → is_memory a ≡ false
  pub reached : Reached c.opening c.bound c.history
  pub serial : IsSerial cgroups c.opening (machine c)
  pub faithful : IsFaithful cgroups c.opening (machine c)
  pub room : RoomKept c.opening (machine c)
  pub going_back : GoBack (machine c)
  pub others : OthersStay cgroups (machine c)
  pub busy : IsBusyExactly c.opening (machine c)
