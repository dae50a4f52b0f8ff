-- What a history asked for, asked again of a machine over the opening tree, is answered as it was.
use Rattle.std.specs.Prelude.{◌≡◌, ℕ, List, map, reverse}
use Rattle.cg_model.specs.System.{System}
use Rattle.cg_model.specs.Tree.{Tree}
use Rattle.cg_model.specs.Sound.{Sound}
use Rattle.cg_model.specs.Cgroups.{cgroups}
use Rattle.cg_model.specs.History.{Request, Answer, History}
use Rattle.cg_model.specs.Opens.{opens}
use Rattle.cg_model.specs.Run.{tree_of}
use Rattle.cg_model.specs.Machine.{opened}
use Rattle.cg_model.specs.Output.{answers}
use Rattle.cg_core_laws.specs.MachineOf.{Reached}

-- what the records asked for, the oldest first, where sessions have new numbers
abbrev pub asked_again : {y : System} → (ℕ → ℕ) → History y → List (ℕ × Request y)
asked_again number h = map (λ r. (number r.session, r.request)) (reverse h)

-- what they were answered, the oldest first
abbrev pub recorded_answers : {y : System} → History y → List Answer
recorded_answers h = map (λ r. r.answer) (reverse h)

-- the new numbers tell sessions apart
abbrev pub TellsApart : (ℕ → ℕ) → Type 0
TellsApart number = (s t : ℕ) → number s ≡ number t → s ≡ t

-- a machine over the tree O, asked again what h asked for, answers what was recorded, and comes to the tree of h with the same
-- transactions open
pub record AnswersAgain (O : Tree) (bound : ℕ) (h : History cgroups) (number : ℕ → ℕ) : Type 0 where
  pub same : (answers cgroups (opened cgroups O bound) (asked_again number h)).0 ≡ recorded_answers h
  pub tree : (answers cgroups (opened cgroups O bound) (asked_again number h)).1.tree ≡ tree_of cgroups O h
  pub transactions : opens (answers cgroups (opened cgroups O bound) (asked_again number h)).1.history ≡ map (λ p. (number p.0, p.1)) (opens h)

-- so it is of every history that steps lead to, with its own bound
abbrev pub HistoriesAnswerAgain : Type 0
HistoriesAnswerAgain = (O : Tree) (bound : ℕ) (h : History cgroups) (number : ℕ → ℕ) → Sound O → Reached O bound h → TellsApart number → AnswersAgain O bound h number
