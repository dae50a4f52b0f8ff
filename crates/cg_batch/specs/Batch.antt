-- A batch: scripts run over a world, and what is told of them.
use Rattle.std.specs.Prelude.{◌≡◌, ◌<◌, ◌≤◌, ◌⊎◌, ℕ, Bool, true, false, List, ◌++◌, length, Option, Some, None, IfSome, ⊤}
use Rattle.std.specs.List.{AllZip, Any}
use Rattle.std.specs.Io.KnownBytes.{Appends}
use Rattle.cg_json_world.specs.WorldValue.{world_line}
use Rattle.cg_name.specs.declared.refusal.Refusal.{Refusal}
use Rattle.cg_name.specs.declared.refusal.Refusal.TheVariants.{Syntax, Memory, Disagree, ReadFault, WriteFault}
use Rattle.cg_model.specs.Cgroups.{cgroups}
use Rattle.cg_model.specs.History.{History}
use Rattle.cg_model.specs.Run.{tree_of}
use Rattle.cg_model.specs.Sound.{Sound}
use Rattle.cg_model.specs.Tree.{Tree}
use Rattle.cg_core_laws.specs.MachineOf.{Reached}
use Rattle.cg_lines.specs.Device.{AppendsFront, Failed}
use Rattle.cg_script.specs.HistoryText.{history_text}
use Rattle.cg_script.specs.ScriptOf.{SpellsAs, SpellsNoScript, text_left}
use Rattle.cg_script.specs.WorldPart.{HasNoWorld, ReadsWorld}
use Rattle.cg_script.specs.declared.script.Script.{Script}
use Rattle.cg_runner.specs.Closed.{HaveHappened, IsClosed}
use Rattle.cg_runner.specs.End.{CanEnd}
use Rattle.cg_runner.specs.declared.end.ScriptEnd.{ScriptEnd}
use Rattle.cg_batch.specs.Ends.{ends_text}
use Rattle.cg_batch.specs.declared.form.BatchForm.{BatchForm}
use Rattle.cg_batch.specs.declared.form.BatchForm.TheVariants.{Plain, Explained, Json}

-- a refusal at which a run of scripts as a whole may stop
abbrev pub stops_run : Refusal → Bool
stops_run Syntax = true
stops_run Memory = true
stops_run Disagree = true
stops_run ReadFault = true
stops_run WriteFault = true
stops_run _ = false

-- a world stands at the head of the text, where that is known
abbrev pub BeginsWithWorld : Option (List ℕ) → Type 0
BeginsWithWorld known = IfSome known (λ text. (T : Tree) × (rest : Option (List ℕ)) × ReadsWorld text T rest)

-- one of the texts spells no script
abbrev pub SomeSpellsNone : List (List ℕ) → Type 0
SomeSpellsNone texts = Any SpellsNoScript texts

-- each text spells a script; these may be begun so often, and can end so; and so many workers ran them: each ended as is told, by
-- its calls in this history
abbrev pub EndSo : ℕ → ℕ → List (List ℕ) → List ScriptEnd → History cgroups → Type 0
EndSo workers tries texts ends h =
    (scripts : List Script) × AllZip SpellsAs texts scripts × AllZip (CanEnd tries) scripts ends × HaveHappened workers tries scripts ends h

-- the world that a batch left
abbrev pub world_left : BatchForm → Tree → History cgroups → List ℕ
world_left Plain opening h = text_left opening h
world_left Explained opening h = text_left opening h
world_left Json opening h = world_line (tree_of cgroups opening h)

-- what is told of a batch: how each script ended, and the world that they left
abbrev pub batch_text : BatchForm → List ScriptEnd → Tree → History cgroups → List ℕ
batch_text form ends opening h = ends_text form h ends ++ world_left form opening h

-- the text was appended where a sink is given for it
abbrev pub AppendsGiven : {K : Type 0} → (K → Option (List ℕ)) → Option K → Option K → List ℕ → Type 0
AppendsGiven taken (Some old) (Some new) text = Appends (taken old) (taken new) text
AppendsGiven taken None None text = ⊤
AppendsGiven taken _ _ text = ⊥

-- some of the text's front was appended where a sink is given for it
abbrev pub AppendsFrontGiven : {K : Type 0} → (K → Option (List ℕ)) → Option K → Option K → List ℕ → Type 0
AppendsFrontGiven taken (Some old) (Some new) text = AppendsFront (taken old) (taken new) text
AppendsFrontGiven taken None None text = ⊤
AppendsFrontGiven taken _ _ text = ⊥

-- a write to the sink that is given for it failed
abbrev pub FailedGiven : {K : Type 0} → (K → ℕ) → Option K → Option K → Type 0
FailedGiven failed (Some old) (Some new) = Failed (failed old) (failed new)
FailedGiven failed _ _ = ⊥

-- the scripts of the texts ended, run by so many workers: how they did, the sound tree on which their history began, and the history,
-- which steps of a machine with that bound reach
pub record Batch (workers tries : ℕ) (texts : List (List ℕ)) : Type 0 where
  pub ends : List ScriptEnd
  pub opening : Tree
  pub history : History cgroups
  pub so : EndSo workers tries texts ends history
  pub closed : IsClosed workers history
  pub sound : Sound opening
  pub bound : ℕ
  pub low : 2 ≤ bound
  pub within : bound ≤ 1048576
  pub reached : Reached opening bound history

-- such a batch was run, and this done with what is told of it in this form and with the text of its history
abbrev pub Tells : BatchForm → ℕ → ℕ → List (List ℕ) → (List ℕ → List ℕ → Type 0) → Type 0
Tells form workers tries texts P = (b : Batch workers tries texts) × P (batch_text form b.ends b.opening b.history) (history_text b.history)

-- the telling of a batch stopped: at the front of what is told, with nothing of the history; or in the history, behind all of it
abbrev pub StopsIn : {K : Type 0} → Option (List ℕ) → Option (List ℕ) → (K → Option (List ℕ)) → Option K → Option K → List ℕ → List ℕ → Type 0
StopsIn old new taken history history' told past =
    (AppendsFront old new told × (history' ≡ history)) ⊎ (Appends old new told × AppendsFrontGiven taken history history' past)

-- one of the files with these names, as far as they are known, is longer than the text of a script may be
abbrev pub SomeTooLong : (List ℕ → Option (List ℕ)) → List (List ℕ) → Type 0
SomeTooLong file names = Any (λ name. IfSome (file name) (λ known. 16777216 < length known)) names

-- these are the texts of the files with these names, as far as those are known
abbrev pub AreTexts : (List ℕ → Option (List ℕ)) → List (List ℕ) → List (List ℕ) → Type 0
AreTexts file names texts = AllZip (λ name text. IfSome (file name) (λ known. text ≡ known)) names texts

-- the world, where its text is known, or one of the scripts, as far as their files are, spells nothing
abbrev pub SpellNothing : Option (List ℕ) → (List ℕ → Option (List ℕ)) → List (List ℕ) → Type 0
SpellNothing world file names = IfSome world HasNoWorld ⊎ ((texts : List (List ℕ)) × AreTexts file names texts × SomeSpellsNone texts)
