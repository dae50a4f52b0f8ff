-- A system of commands on a state (this project's own choice). Histories, transactions and the machine speak of any such
-- system; the tree of control groups with its ten commands is one.
use Rattle.std.specs.Prelude.{ℕ, Bool, List}
use Rattle.cg_name.specs.declared.refusal.Refusal.{Refusal}

-- what an accepted command answers: that it is done, or the text of a file
pub data Outcome : Type 0 where
  Done : Outcome
  Text : List ℕ → Outcome

-- what a command does: it is refused, or it has an outcome and makes a change
pub data Attempt (D : Type 0) : Type 0 where
  Refuse : Refusal → Attempt D
  Accept : Outcome → D → Attempt D

-- commands on a state, what they lock, and how they are undone
pub record System : Type 1 where
  pub State : Type 0
  pub Command : Type 0
  -- what a command changed, by which it is undone
  pub Change : Type 0
  -- what a command sees and changes of the state
  pub Footprint : Type 0
  pub effect : Command → State → Attempt Change
  pub footprint : Command → State → Footprint
  -- two footprints that two transactions can't have at once
  pub clashes : Footprint → Footprint → Bool
  -- the state after a change, and the state with a change undone
  pub done : Change → State → State
  pub undone : Change → State → State
  -- the state is as the change left it, where it changed it: the change can be undone
  pub Fits : Change → State → Type 0
  -- what commands keep, where they are proper
  pub Sound : State → Type 0
  pub Proper : Command → Type 0
