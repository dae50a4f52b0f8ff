-- An answer more than once.
use Rattle.std.specs.Prelude.{◌≡◌, ℕ, Bool, true, false, List, Option, Some}
use Rattle.std.specs.Bool.{OnTrue}
use Rattle.cg_core.specs.declared.answers.Copies.{Copies}
use Rattle.cg_model.specs.History.{Answer, Gave}
use Rattle.cg_model.specs.System.{Text}

-- the answer is a text
abbrev pub is_text_answer : Answer → Bool
is_text_answer (Gave (Text x)) = true
is_text_answer _ = false

-- where the answer is a text, this is a copy of it
abbrev pub IsCopy : Answer → Option (List ℕ) → Type 0
IsCopy (Gave (Text x)) t = t ≡ Some x
IsCopy _ t = Unit {0}

-- the copy for the record is one of the answer, and so is that for the log, where there is a log
pub record AreCopies (a : Answer) (log : Bool) (c : Copies) : Type 0 where
  pub recorded : IsCopy a c.recorded
  pub logged : OnTrue log (IsCopy a c.logged)
