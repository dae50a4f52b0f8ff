use Rattle.std.proofs.Common.{◌≡◌, ℕ, false, List, Option, true≢false}
use Rattle.cg_history.specs.Meaning.{request_of}
use Rattle.cg_model.specs.History.{Answer, Gave}
use Rattle.cg_model.specs.System.{Done, Text}
use Rattle.cg_core.specs.Alike.{is_text_answer, IsCopy}
use Rattle.cg_core.proofs.SteppedAs.{proper_request, told}
use Rattle.cg_core.proofs.machine.Core.step_without_memory.Goals as goal

-- what is no text needs no copy
uncopied : (a : Answer) (t : Option (List ℕ)) → is_text_answer a ≡ false → IsCopy a t
uncopied (Gave (Text x)) t e = absurd (true≢false e)
uncopied (Gave Done) t e = tt
uncopied _ t e = tt

pub again-second-requires : goal.again-second-requires
again-second-requires c = uncopied _ _ c.answer_without_memory-answer.ensures.no_text

pub returns-clause-machine : goal.returns-clause-machine
returns-clause-machine c =
    told c.args.self.now _ c.args.session.0 (request_of c.args.request) _
    (c.tell_steps.ensures c.args.session.0 (request_of c.args.request) (proper_request c.args.request)) c.answer_without_memory-answer.ensures.answer c.answer_without_memory-answer.ensures.state
