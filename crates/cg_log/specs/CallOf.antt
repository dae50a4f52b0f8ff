-- What a call of the code means.
use Rattle.cg_log.specs.Call as model
use Rattle.cg_log.specs.declared.call.Call.{Call}
use Rattle.cg_history.specs.Meaning.{answer_of, request_of}

abbrev pub call_of : Call → model.Call
call_of c = record { request = request_of c.request; answer = answer_of c.answer }
