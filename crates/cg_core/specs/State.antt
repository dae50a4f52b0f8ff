-- What a core is: the tree that it was opened on, the bound of its history, and its history. All else follows from these.
use Rattle.std.specs.Prelude.{◌≡◌, ℕ, Bool}
use Rattle.cg_model.specs.Tree.{Tree}
use Rattle.cg_model.specs.Cgroups.{cgroups}
use Rattle.cg_model.specs.History.{Request, Answer, History, is_recorded, IsProperRequest}
use Rattle.cg_model.specs.Machine.{Machine, step}
use Rattle.cg_model.specs.Reply as history
use Rattle.cg_core_laws.specs.MachineOf.{machine_of, history_after}

pub record CoreState : Type 0 where
  pub opening : Tree
  -- the greatest number of slots
  pub bound : ℕ
  pub history : History cgroups

-- the machine of the definitions
abbrev pub machine : CoreState → Machine cgroups
machine c = machine_of c.opening c.bound c.history

-- the answer to the next request of a session, as the history gives it
abbrev pub reply : CoreState → ℕ → Request cgroups → Answer
reply c s r = history.reply cgroups c.opening c.bound c.history s r

-- that answer is one to be recorded
abbrev pub has_record : CoreState → ℕ → Request cgroups → Bool
has_record c s r = is_recorded r (reply c s r)

-- the core after it: with its record, where there is one
abbrev pub after : CoreState → ℕ → Request cgroups → CoreState
after c s r = record c { history = history_after c.opening c.bound c.history s r }

-- the machine of the definitions answers each proper request as the history replies, and goes on to the machine of the core after it
abbrev pub StepsAsReplied : CoreState → Type 0
StepsAsReplied c = (s : ℕ) (r : Request cgroups) → IsProperRequest r → step cgroups (machine c) s r ≡ (machine (after c s r), reply c s r)
