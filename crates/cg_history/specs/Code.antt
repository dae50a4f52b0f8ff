-- A history is data: the code by which a proof tells histories apart.
use Rattle.std.specs.Prelude.{◌≡◌, ◌⊎◌, ◌==◌, ℕ, cond, List, refl}
use Rattle.std.proofs.Common.{inl, inr}
use Rattle.std.specs.Coded.{Coded, code_by, coded×, coded⊎, coded_ℕ, coded_list}
use base.Stored.{coded_unit}
use Rattle.cg_name.specs.Refusal.{number_of}
use Rattle.cg_name.specs.declared.controller.Controller.{Controller}
use Rattle.cg_name.specs.declared.controller.Controller.TheVariants as controllers
use Rattle.cg_name.specs.declared.refusal.Refusal.{Refusal}
use Rattle.cg_name.specs.declared.refusal.Refusal.TheVariants as refusals
use Rattle.cg_model.specs.Cgroups.{cgroups}
use Rattle.cg_model.specs.Command.{Command}
use Rattle.cg_model.specs.CommandCode.{command_code}
use Rattle.cg_model.specs.History.{Request, Begin, Do, Save, Back, Undo, Commit, Abort, Answer, Begun, Gave, Saved, WentBack, Committed, Aborted, Refused, Record, History}
use Rattle.cg_model.specs.System.{Outcome, Done, Text}

abbrev from_controller : Controller → ℕ
from_controller controllers.Cpuset = 0
from_controller controllers.Cpu = 1
from_controller controllers.Io = 2
from_controller controllers.Memory = 3
from_controller controllers.Hugetlb = 4
from_controller controllers.Pids = 5
from_controller controllers.Rdma = 6
from_controller controllers.Misc = 7

abbrev to_controller : ℕ → Controller
to_controller n =
    cond (n == 0) controllers.Cpuset (cond (n == 1) controllers.Cpu (cond (n == 2) controllers.Io (cond (n == 3) controllers.Memory (cond (n == 4) controllers.Hugetlb (cond (n == 5) controllers.Pids (cond (n == 6) controllers.Rdma (controllers.Misc)))))))

pub back_controller : (c : Controller) → to_controller (from_controller c) ≡ c
back_controller controllers.Cpuset = refl
back_controller controllers.Cpu = refl
back_controller controllers.Io = refl
back_controller controllers.Memory = refl
back_controller controllers.Hugetlb = refl
back_controller controllers.Pids = refl
back_controller controllers.Rdma = refl
back_controller controllers.Misc = refl

abbrev pub controller_code : Coded Controller
controller_code = code_by ℕ coded_ℕ from_controller to_controller back_controller

-- the argument of a refusal as a number, 0 where it has none
abbrev argument : Refusal → ℕ
argument (refusals.Busy t) = t.0
argument (refusals.Unavailable c) = from_controller c
argument (refusals.InUse c) = from_controller c
argument _ = 0

abbrev to_refusal : ℕ → ℕ → Refusal
to_refusal n a =
    cond (n == 1) refusals.Syntax (cond (n == 2) refusals.NoTransaction (cond (n == 3) refusals.AlreadyOpen (cond (n == 4) refusals.Full (cond (n == 5) (refusals.Busy (record { 0 = a })) (cond (n == 6) refusals.NoGroup (cond (n == 7) refusals.Exists (cond (n == 8) refusals.IsRoot (cond (n == 9) refusals.HasChildren (cond (n == 10) refusals.HasProcesses (cond (n == 11) refusals.NoProcess (cond (n == 12) refusals.Controlled (cond (n == 13) (refusals.Unavailable (to_controller a)) (cond (n == 14) (refusals.InUse (to_controller a)) (cond (n == 15) refusals.NoFile (cond (n == 16) refusals.NoSavepoint (cond (n == 17) refusals.NameTaken (cond (n == 18) refusals.NothingToUndo (cond (n == 19) refusals.Memory (cond (n == 20) refusals.Lost (cond (n == 21) refusals.Disagree (cond (n == 22) refusals.TooMany (cond (n == 23) refusals.TooDeep (cond (n == 24) refusals.ReadFault (refusals.WriteFault))))))))))))))))))))))))

pub back_refusal : (r : Refusal) → to_refusal (number_of r) (argument r) ≡ r
back_refusal refusals.Syntax = refl
back_refusal refusals.NoTransaction = refl
back_refusal refusals.AlreadyOpen = refl
back_refusal refusals.Full = refl
back_refusal (refusals.Busy t) = refl
back_refusal refusals.NoGroup = refl
back_refusal refusals.Exists = refl
back_refusal refusals.IsRoot = refl
back_refusal refusals.HasChildren = refl
back_refusal refusals.HasProcesses = refl
back_refusal refusals.NoProcess = refl
back_refusal refusals.Controlled = refl
back_refusal (refusals.Unavailable c) = λ i. refusals.Unavailable (back_controller c i)
back_refusal (refusals.InUse c) = λ i. refusals.InUse (back_controller c i)
back_refusal refusals.NoFile = refl
back_refusal refusals.NoSavepoint = refl
back_refusal refusals.NameTaken = refl
back_refusal refusals.NothingToUndo = refl
back_refusal refusals.Memory = refl
back_refusal refusals.Lost = refl
back_refusal refusals.Disagree = refl
back_refusal refusals.TooMany = refl
back_refusal refusals.TooDeep = refl
back_refusal refusals.ReadFault = refl
back_refusal refusals.WriteFault = refl

abbrev pub refusal_code : Coded Refusal
refusal_code = code_by (ℕ × ℕ) (coded× coded_ℕ coded_ℕ) (λ r. (number_of r, argument r)) (λ p. to_refusal p.0 p.1) back_refusal

abbrev from_outcome : Outcome → Unit {0} ⊎ List ℕ
from_outcome Done = inl tt
from_outcome (Text x) = inr x

abbrev to_outcome : Unit {0} ⊎ List ℕ → Outcome
to_outcome (inl u) = Done
to_outcome (inr x) = Text x

pub back_outcome : (o : Outcome) → to_outcome (from_outcome o) ≡ o
back_outcome Done = refl
back_outcome (Text x) = refl

abbrev outcome_code : Coded Outcome
outcome_code = code_by (Unit {0} ⊎ List ℕ) (coded⊎ coded_unit (coded_list coded_ℕ)) from_outcome to_outcome back_outcome

abbrev AnswerSum : Type 0
AnswerSum = ℕ ⊎ (Outcome ⊎ (Unit {0} ⊎ (ℕ ⊎ (ℕ ⊎ (ℕ ⊎ Refusal)))))

abbrev from_answer : Answer → AnswerSum
from_answer (Begun t) = inl t
from_answer (Gave o) = inr (inl o)
from_answer Saved = inr (inr (inl tt))
from_answer (WentBack n) = inr (inr (inr (inl n)))
from_answer (Committed k) = inr (inr (inr (inr (inl k))))
from_answer (Aborted t) = inr (inr (inr (inr (inr (inl t)))))
from_answer (Refused r) = inr (inr (inr (inr (inr (inr r)))))

abbrev to_answer : AnswerSum → Answer
to_answer (inl t) = Begun t
to_answer (inr (inl o)) = Gave o
to_answer (inr (inr (inl u))) = Saved
to_answer (inr (inr (inr (inl n)))) = WentBack n
to_answer (inr (inr (inr (inr (inl k))))) = Committed k
to_answer (inr (inr (inr (inr (inr (inl t)))))) = Aborted t
to_answer (inr (inr (inr (inr (inr (inr r)))))) = Refused r

pub back_answer : (a : Answer) → to_answer (from_answer a) ≡ a
back_answer (Begun t) = refl
back_answer (Gave o) = refl
back_answer Saved = refl
back_answer (WentBack n) = refl
back_answer (Committed k) = refl
back_answer (Aborted t) = refl
back_answer (Refused r) = refl

abbrev answer_code : Coded Answer
answer_code =
    code_by AnswerSum (coded⊎ coded_ℕ (coded⊎ outcome_code (coded⊎ coded_unit (coded⊎ coded_ℕ (coded⊎ coded_ℕ (coded⊎ coded_ℕ refusal_code))))))
    from_answer to_answer back_answer

abbrev RequestSum : Type 0
RequestSum = Unit {0} ⊎ (Command ⊎ (List ℕ ⊎ (List ℕ ⊎ (Unit {0} ⊎ (Unit {0} ⊎ Unit {0})))))

abbrev from_request : Request cgroups → RequestSum
from_request Begin = inl tt
from_request (Do c) = inr (inl c)
from_request (Save n) = inr (inr (inl n))
from_request (Back n) = inr (inr (inr (inl n)))
from_request Undo = inr (inr (inr (inr (inl tt))))
from_request Commit = inr (inr (inr (inr (inr (inl tt)))))
from_request Abort = inr (inr (inr (inr (inr (inr tt)))))

abbrev to_request : RequestSum → Request cgroups
to_request (inl u) = Begin
to_request (inr (inl c)) = Do c
to_request (inr (inr (inl n))) = Save n
to_request (inr (inr (inr (inl n)))) = Back n
to_request (inr (inr (inr (inr (inl u))))) = Undo
to_request (inr (inr (inr (inr (inr (inl u)))))) = Commit
to_request (inr (inr (inr (inr (inr (inr u)))))) = Abort

pub back_request : (r : Request cgroups) → to_request (from_request r) ≡ r
back_request Begin = refl
back_request (Do c) = refl
back_request (Save n) = refl
back_request (Back n) = refl
back_request Undo = refl
back_request Commit = refl
back_request Abort = refl

abbrev request_code : Coded (Request cgroups)
request_code =
    code_by RequestSum (coded⊎ coded_unit (coded⊎ command_code (coded⊎ (coded_list coded_ℕ) (coded⊎ (coded_list coded_ℕ) (coded⊎ coded_unit (coded⊎ coded_unit coded_unit))))))
    from_request to_request back_request

abbrev record_code : Coded (Record cgroups)
record_code =
    code_by (ℕ × (ℕ × (Request cgroups × Answer))) (coded× coded_ℕ (coded× coded_ℕ (coded× request_code answer_code)))
    (λ r. (r.session, (r.transaction, (r.request, r.answer))))
    (λ p. record { session = p.0; transaction = p.1.0; request = p.1.1.0; answer = p.1.1.1 })
    (λ _. refl)

abbrev pub history_code : Coded (History cgroups)
history_code = coded_list record_code
