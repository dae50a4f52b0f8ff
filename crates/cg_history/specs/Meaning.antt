-- What requests, answers and records of the code mean in the model.
use Rattle.std.specs.Prelude.{List, map, reverse}
use Rattle.cg_command.specs.Meaning.{command_of}
use Rattle.cg_model.specs.Cgroups.{cgroups}
use Rattle.cg_model.specs.History as model
use Rattle.cg_model.specs.System.{Done, Text}
use Rattle.cg_history.specs.declared.record.Answer.{Answer}
use Rattle.cg_history.specs.declared.record.Answer.TheVariants as answers
use Rattle.cg_history.specs.declared.record.Record.{Record}
use Rattle.cg_history.specs.declared.record.Request.{Request}
use Rattle.cg_history.specs.declared.record.Request.TheVariants as requests

abbrev pub request_of : Request → model.Request cgroups
request_of requests.Begin = model.Begin
request_of (requests.Do c) = model.Do (command_of c)
request_of (requests.Save n) = model.Save n
request_of (requests.Back n) = model.Back n
request_of requests.Undo = model.Undo
request_of requests.Commit = model.Commit
request_of requests.Abort = model.Abort

abbrev pub answer_of : Answer → model.Answer
answer_of (answers.Begun t) = model.Begun t.0
answer_of answers.Done = model.Gave Done
answer_of (answers.Text x) = model.Gave (Text x)
answer_of answers.Saved = model.Saved
answer_of (answers.Back n) = model.WentBack n
answer_of (answers.Committed k) = model.Committed k
answer_of (answers.Aborted t) = model.Aborted t.0
answer_of (answers.Refused r) = model.Refused r

abbrev pub record_of : Record → model.Record cgroups
record_of r = record { session = r.session.0; transaction = r.txn.0; request = request_of r.request; answer = answer_of r.answer }

-- the records, of which the oldest stands first, as a history
abbrev pub history_of : List Record → model.History cgroups
history_of rs = reverse (map record_of rs)
