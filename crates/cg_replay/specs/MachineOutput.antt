-- The output of a schedule is that of the machine of the definitions, which is asked what the lines ask.
use Rattle.std.specs.Prelude.{◌≡◌, ℕ, List, [], ◌∷◌, ◌++◌}
use Rattle.std.specs.List.{flat_map}
use Rattle.cg_name.specs.Refusal.{refusal_text}
use Rattle.cg_name.specs.declared.refusal.Refusal.TheVariants.{Syntax}
use Rattle.cg_text.specs.Words.{lines_of}
use Rattle.cg_model.specs.Tree.{Tree}
use Rattle.cg_model.specs.Sound.{Sound}
use Rattle.cg_model.specs.Cgroups.{cgroups}
use Rattle.cg_model.specs.History.{Answer}
use Rattle.cg_model.specs.Machine.{opened}
use Rattle.cg_model.specs.Output.{output}
use Rattle.cg_core_laws.specs.Serial.{AreProper}
use Rattle.cg_world_text.specs.World.{world_text}
use Rattle.cg_script.specs.Answer.{answer_text}
use Rattle.cg_script.specs.Request.{newline}
use Rattle.cg_script.specs.Turns.{Turn, Skip, Ask, Fail, AreTurns, asked}
use Rattle.cg_replay.specs.Replay.{IsOutput}

-- the lines of answers
abbrev pub answer_lines : List Answer → List ℕ
answer_lines answers = flat_map (λ a. answer_text a ++ newline) answers

-- the same with the refusals of lines at their places: a request takes the next answer; those left are written behind all lines
abbrev pub written : List Turn → List Answer → List ℕ
written [] answers = answer_lines answers
written (Skip ∷ ts) answers = written ts answers
written (Fail ∷ ts) answers = (refusal_text Syntax ++ newline) ++ written ts answers
written (Ask k r ∷ ts) [] = written ts []
written (Ask k r ∷ ts) (a ∷ answers) = (answer_text a ++ newline) ++ written ts answers

-- The machine of the definitions, opened on the tree, is asked what the lines ask, and then to abort what is open, the least number
-- first. Its answers are written, and then its tree.
pub record IsMachineOutput (T : Tree) (limit : ℕ) (text out : List ℕ) : Type 0 where
  pub turns : List Turn
  pub told : AreTurns [] (lines_of text) turns
  pub proper : AreProper (asked turns)
  pub whole : out ≡ (let o = output cgroups (opened cgroups T limit) (asked turns) in written turns o.0 ++ world_text o.1.tree)

-- the law of outputs and the machine: over a sound tree each output is the machine's
abbrev pub OutputsAreTheMachines : Type 0
OutputsAreTheMachines = (T : Tree) (limit : ℕ) (text out : List ℕ) → Sound T → IsOutput T limit text out → IsMachineOutput T limit text out
