-- What a call tells by a number.
use Rattle.std.specs.Prelude.{◌≡◌, ℕ, List, Option, Some, None}
use Rattle.cg_line_machine.specs.declared.status.Status.{Status}
use Rattle.cg_line_machine.specs.declared.status.Status.TheVariants as statuses
use Rattle.cg_model.specs.History as model
use Rattle.cg_name.specs.Refusal.{number_of, word_of}
use Rattle.cg_name.specs.declared.refusal.Refusal.{Refusal}

-- the number of a status: a refusal's own, from 1 to 25, and others from 100 on
abbrev pub status_number : Status → ℕ
status_number statuses.Done = 0
status_number (statuses.Refused r) = number_of r
status_number statuses.Closed = 100
status_number statuses.Untold = 101
status_number statuses.NoneOpen = 102
status_number statuses.BadLimit = 103
status_number statuses.InUse = 104

-- the status of an answer; this one where there is none
abbrev pub status_of : Status → Option model.Answer → Status
status_of quiet None = quiet
status_of quiet (Some (model.Refused r)) = statuses.Refused r
status_of quiet (Some _) = statuses.Done

-- each refusal with this number has the word
abbrev pub IsWordOf : ℕ → List ℕ → Type 0
IsWordOf number word = (r : Refusal) → number_of r ≡ number → word ≡ word_of r
