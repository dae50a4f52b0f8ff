-- How transactions ended, as a history has it.
use Rattle.std.specs.Prelude.{ℕ, ◌==◌, cond, List, [], ◌∷◌, ◌++◌, Option, Some, None, codes}
use Rattle.std.specs.Fmt.{decimal}
use Rattle.cg_model.specs.Cgroups.{cgroups}
use Rattle.cg_model.specs.History.{Answer, Committed, Aborted, Record, History}
use Rattle.cg_batch.specs.declared.outcomes.Outcome.{Outcome}
use Rattle.cg_batch.specs.declared.outcomes.Outcome.TheVariants as outcomes

-- how a transaction ended that was answered so, if it ended by that
abbrev pub outcome_by : Answer → Option Outcome
outcome_by (Committed k) = Some (outcomes.Committed k)
outcome_by (Aborted t) = Some outcomes.Aborted
outcome_by _ = None

abbrev pub or_else : Option Outcome → Option Outcome → Option Outcome
or_else (Some outcome) before = Some outcome
or_else None before = before

-- how transaction t ended, behind a record: by that, or before it
abbrev pub outcome_behind : Record cgroups → ℕ → Option Outcome → Option Outcome
outcome_behind r t before = cond (r.transaction == t) (or_else (outcome_by r.answer) before) before

-- how transaction t ended, where the history has its end
abbrev pub outcome_in : History cgroups → ℕ → Option Outcome
outcome_in [] t = None
outcome_in (r ∷ h) t = outcome_behind r t (outcome_in h t)

-- the words for it, and a newline
abbrev pub outcome_words : Option Outcome → List ℕ
outcome_words (Some (outcomes.Committed k)) = codes "committed " ++ decimal k ++ 10 ∷ []
outcome_words (Some outcomes.Aborted) = codes "was aborted" ++ 10 ∷ []
outcome_words None = codes "is open" ++ 10 ∷ []
