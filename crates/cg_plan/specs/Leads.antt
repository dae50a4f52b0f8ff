-- Which scripts lead from one tree to another.
use Rattle.std.specs.Prelude.{◌≡◌, ℕ, List, [], ◌∷◌, ◌++◌, false}
use Rattle.cg_model.specs.Tree.{Tree}
use Rattle.cg_model.specs.Cgroups.{cgroups}
use Rattle.cg_model.specs.Command.{Command}
use Rattle.cg_model.specs.History.{Request, Begin, Do, Commit, Answer, Refused}
use Rattle.cg_model.specs.Machine.{Machine, opened, step}
use Rattle.cg_script.specs.Script.{SpellsScript}

-- the answer is no refusal
abbrev pub IsAccepted : Answer → Type 0
IsAccepted (Refused e) = ⊥
IsAccepted _ = Unit {0}

-- the machine accepts this request of session 1, and is another one then
abbrev pub Accepts : Machine cgroups → Request cgroups → Machine cgroups → Type 0
Accepts m r n = (a : Answer) × (step cgroups m 1 r ≡ (n, a)) × IsAccepted a

-- it accepts these, one after another
abbrev pub AcceptsAll : Machine cgroups → List (Request cgroups) → Machine cgroups → Type 0
AcceptsAll m [] end = end ≡ m
AcceptsAll m (r ∷ rs) end = (n : Machine cgroups) × Accepts m r n × AcceptsAll n rs end

-- the requests of a script, in a transaction of their own
abbrev pub in_transaction : List (Request cgroups) → List (Request cgroups)
in_transaction rs = Begin ∷ rs ++ Commit ∷ []

-- the text is a script that, run in one transaction on the tree A, is accepted request by request, commits, and leaves the tree B
pub record Leads (text : List ℕ) (A B : Tree) : Type 0 where
  pub requests : List (Request cgroups)
  pub spelled : SpellsScript text requests false
  pub end : Machine cgroups
  pub accepted : AcceptsAll (opened cgroups A 1048576) (in_transaction requests) end
  pub leaves : end.tree ≡ B

-- a command, as a request
abbrev pub asked_for : Command → Request cgroups
asked_for c = Do c
