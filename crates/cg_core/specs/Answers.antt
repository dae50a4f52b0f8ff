-- Answers for want of memory, and the requests that may get one.
use Rattle.std.specs.Prelude.{Bool, true, false}
use Rattle.cg_name.specs.declared.refusal.Refusal.TheVariants as refusals
use Rattle.cg_history.specs.declared.record.Answer.{Answer}
use Rattle.cg_history.specs.declared.record.Answer.TheVariants as answers
use Rattle.cg_history.specs.declared.record.Request.{Request}
use Rattle.cg_history.specs.declared.record.Request.TheVariants as requests

-- memory ran out
abbrev pub is_memory : Answer → Bool
is_memory (answers.Refused refusals.Memory) = true
is_memory _ = false

-- the requests that take memory
abbrev pub takes_memory : Request → Bool
takes_memory requests.Begin = true
takes_memory (requests.Do c) = true
takes_memory (requests.Save n) = true
takes_memory (requests.Back n) = false
takes_memory requests.Undo = false
takes_memory requests.Commit = false
takes_memory requests.Abort = false
