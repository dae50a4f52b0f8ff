-- Why a file is not told.
use Rattle.std.proofs.Common.{◌≡◌, ◌≢◌, ◌⊎◌, ℕ, List, Result, Ok, Err, IfErr, refl, sym, ◌∙◌, ap}
use Rattle.cg_model.specs.File.{file}
use Rattle.cg_model.specs.Tree.{Tree}
use Rattle.cg_name.specs.FileName.{file_word}
use Rattle.cg_name.specs.Path.{Path, SpellsPath}
use Rattle.cg_name.specs.declared.file_name.FileName.{FileName}
use Rattle.cg_name.specs.declared.refusal.Refusal.{Refusal}
use Rattle.cg_name.specs.declared.refusal.Refusal.TheVariants.{Syntax, NoTransaction, AlreadyOpen, Full, Busy, NoGroup, Exists, IsRoot, HasChildren, HasProcesses, NoProcess, Controlled, Unavailable, InUse, NoFile, NoSavepoint, NameTaken, NothingToUndo, Memory, Lost, Disagree, TooMany, TooDeep, ReadFault, WriteFault}
use Rattle.cg_replay.specs.Replay.{Replay, tree_now}
use Rattle.cg_line_machine.specs.Files.{IsFileAsked, NamesNoFile, SpellsNoPath}
use Rattle.cg_line_machine.specs.Teller.{WhyNoFile}

-- what refuses the file of a tree refuses what two words ask for in the machine with this tree
pub file_refused : {X : Type 0} (s : Replay) (path name : List ℕ) (T : Tree) (p : Path) (f : FileName) (r : Result X Refusal)
    → T ≡ tree_now s.core → SpellsPath path p → name ≡ file_word f
    → IfErr r (λ e. e ≢ Memory → file T p f ≡ Err e) → IfErr r (λ e. e ≢ Memory → e ≢ Syntax → IsFileAsked s path name (Err e))
file_refused s path name T p f (Ok x) same spelled named h = tt
file_refused s path name T p f (Err e) same spelled named h = λ memory syntax. (p, f, spelled, named, ap (λ t. file t p f) (sym same) ∙ h memory)

pub why_no_file : (s : Replay) (path name : List ℕ) (e : Refusal)
    → (e ≡ Syntax → SpellsNoPath path ⊎ NamesNoFile name) → (e ≢ Memory → e ≢ Syntax → IsFileAsked s path name (Err e)) → WhyNoFile s path name e
why_no_file s path name Syntax syntax other = syntax refl
why_no_file s path name NoTransaction syntax other = other (λ e. cc) (λ e. cc)
why_no_file s path name AlreadyOpen syntax other = other (λ e. cc) (λ e. cc)
why_no_file s path name Full syntax other = other (λ e. cc) (λ e. cc)
why_no_file s path name (Busy t) syntax other = other (λ e. cc) (λ e. cc)
why_no_file s path name NoGroup syntax other = other (λ e. cc) (λ e. cc)
why_no_file s path name Exists syntax other = other (λ e. cc) (λ e. cc)
why_no_file s path name IsRoot syntax other = other (λ e. cc) (λ e. cc)
why_no_file s path name HasChildren syntax other = other (λ e. cc) (λ e. cc)
why_no_file s path name HasProcesses syntax other = other (λ e. cc) (λ e. cc)
why_no_file s path name NoProcess syntax other = other (λ e. cc) (λ e. cc)
why_no_file s path name Controlled syntax other = other (λ e. cc) (λ e. cc)
why_no_file s path name (Unavailable c) syntax other = other (λ e. cc) (λ e. cc)
why_no_file s path name (InUse c) syntax other = other (λ e. cc) (λ e. cc)
why_no_file s path name NoFile syntax other = other (λ e. cc) (λ e. cc)
why_no_file s path name NoSavepoint syntax other = other (λ e. cc) (λ e. cc)
why_no_file s path name NameTaken syntax other = other (λ e. cc) (λ e. cc)
why_no_file s path name NothingToUndo syntax other = other (λ e. cc) (λ e. cc)
why_no_file s path name Memory syntax other = tt
why_no_file s path name Lost syntax other = other (λ e. cc) (λ e. cc)
why_no_file s path name Disagree syntax other = other (λ e. cc) (λ e. cc)
why_no_file s path name TooMany syntax other = other (λ e. cc) (λ e. cc)
why_no_file s path name TooDeep syntax other = other (λ e. cc) (λ e. cc)
why_no_file s path name ReadFault syntax other = other (λ e. cc) (λ e. cc)
why_no_file s path name WriteFault syntax other = other (λ e. cc) (λ e. cc)
