use Rattle.std.proofs.Common.{◌≡◌, ℕ, take}
use Rattle.std.specs.BTreeMap.{get}
use Rattle.std.specs.Ordering.{nat_cmp}
use Rattle.cg_history.specs.Meaning.{history_of}
use Rattle.cg_batch.specs.Outcomes.{outcome_in}
use Rattle.cg_batch.proofs.outcomes.outcomes_of.Given as goal

-- the ends among the records so far were noted
abbrev pub invariant-loop-entry : goal.invariant-loop-entry
invariant-loop-entry l = (t : ℕ) → get nat_cmp l.outcomes t ≡ outcome_in (history_of (take l.entry-index l.records)) t
