-- The step of the machine of the definitions is the reply and what is due after it, and so it is the answer and what is after it.
use Rattle.std.proofs.Common.{◌≡◌, ℕ, Bool, true, false, sym, ◌∙◌}
use Rattle.std.specs.Bool.{OnFalse}
use Rattle.cg_command.proofs.Proper.{proper}
use Rattle.cg_history.specs.Meaning.{request_of}
use Rattle.cg_history.specs.declared.record.Request as rust
use Rattle.cg_history.specs.declared.record.Request.TheVariants as requests
use Rattle.cg_model.specs.Cgroups.{cgroups}
use Rattle.cg_model.specs.History.{Request, Answer, IsProperRequest}
use Rattle.cg_model.specs.Machine.{step}
use Rattle.cg_core.specs.State.{CoreState, after, machine, reply}

pub proper_request : (r : rust.Request) → IsProperRequest (request_of r)
proper_request (requests.Do c) = proper c
proper_request _ = tt

pub told : (c d : CoreState) (s : ℕ) (r : Request cgroups) (a : Answer) → step cgroups (machine c) s r ≡ (machine (after c s r), reply c s r)
    → a ≡ reply c s r → d ≡ after c s r → step cgroups (machine c) s r ≡ (machine d, a)
told c d s r a law answer state = law ∙ (λ i. (machine (sym state i), sym answer i))

pub told_unless : (memory : Bool) (c d : CoreState) (s : ℕ) (r : Request cgroups) (a : Answer) → step cgroups (machine c) s r ≡ (machine (after c s r), reply c s r)
    → OnFalse memory (a ≡ reply c s r) → OnFalse memory (d ≡ after c s r) → OnFalse memory (step cgroups (machine c) s r ≡ (machine d, a))
told_unless true c d s r a law answer state = tt
told_unless false c d s r a law answer state = told c d s r a law answer state
