-- The laws of interface texts, for contracts to cite.
use Rattle.std.specs.Prelude.{◌≡◌, ℕ, ◌≤◌, Bool, true, List, Option}
use Rattle.std.specs.List.{AllByRecursion}
use Rattle.std.specs.Fmt.{decimal}
use Rattle.cg_maps.specs.FiniteSet.{FiniteSet}
use Rattle.cg_maps.specs.FiniteSet as sets
use Rattle.cg_name.specs.FileName.{file_word}
use Rattle.cg_cpus.specs.CpuList.{SpellsCpus}
use Rattle.cg_text.specs.Controllers.{AreApart}
use Rattle.cg_text.specs.FileText.{line_text, cpus_line, flag_text, limit_text, ops_text}
use Rattle.cg_text.specs.Limit.{number_of}
use Rattle.cg_text.specs.Words.{Line, Word, lines_of, Cuts, Says, SayAll, text_of, IsWrittenLine}
use Rattle.cg_text.specs.Reading.{SpellsFlag, SpellsPid, SpellsLimit, SpellsOps}
use Rattle.cg_text.specs.declared.control_ops.ControlOps.{ControlOps}
use Rattle.cg_name.specs.declared.file_name.FileName.{FileName}
use Rattle.cg_text.specs.declared.limit.Limit.{Limit}

-- a text spells at most one value
abbrev pub SpellsOne : {A : Type 0} → (List ℕ → A → Type 0) → Type 0
SpellsOne {A} Spells = (text : List ℕ) (x y : A) → Spells text x → Spells text y → x ≡ y

abbrev pub OneFlag : Type 0
OneFlag = SpellsOne SpellsFlag

abbrev pub OnePid : Type 0
OnePid = SpellsOne SpellsPid

abbrev pub OneLimit : Type 0
OneLimit = SpellsOne SpellsLimit

abbrev pub OneOps : Type 0
OneOps = SpellsOne SpellsOps

-- a word names one interface file at most
abbrev pub OneFile : Type 0
OneFile = (f g : FileName) → file_word f ≡ file_word g → f ≡ g

-- what is written is read back
abbrev pub FlagIsSpelled : Type 0
FlagIsSpelled = (b : Bool) → SpellsFlag (flag_text b) b

-- the line of a PID
abbrev pub PidIsSpelled : Type 0
PidIsSpelled = (k : ℕ) → 1 ≤ k → k ≤ 4194303 → SpellsPid (line_text (decimal k)) k

abbrev pub LimitIsSpelled : Type 0
LimitIsSpelled = (l : Limit) → SpellsLimit (limit_text l) l

-- limits with one number are one
abbrev pub LimitIsItsNumber : Type 0
LimitIsItsNumber = (l m : Limit) → number_of l ≡ number_of m → l ≡ m

-- the line of a set of numbers up to 1,023
abbrev pub CpusAreSpelled : Type 0
CpusAreSpelled = (s : FiniteSet) → ((n : ℕ) → sets.has s n ≡ true → n ≤ 1023) → SpellsCpus (cpus_line s) s

-- no controller is both enabled and disabled
abbrev pub OpsAreApart : Type 0
OpsAreApart = (ops : ControlOps) → AreApart ops.plus ops.minus

-- operations with the same sets are one
abbrev pub OpsAreTheirSets : Type 0
OpsAreTheirSets = (ops others : ControlOps) → ops.plus ≡ others.plus → ops.minus ≡ others.minus → ops ≡ others

abbrev pub OpsAreSpelled : Type 0
OpsAreSpelled = (ops : ControlOps) → SpellsOps (ops_text ops) ops

-- a line is cut into words in one way at most
abbrev pub OneCut : Type 0
OneCut = (line : Line) (ws vs : List Word) → Cuts line ws → Cuts line vs → ws ≡ vs

-- a line says one thing at most, and so do lines
abbrev pub OneSaying : Type 0
OneSaying = (line : Line) (a b : Option (List Word)) → Says line a → Says line b → a ≡ b

abbrev pub OneText : Type 0
OneText = (lines : List Line) (said told : List (List Word)) → SayAll lines said → SayAll lines told → said ≡ told

-- words that are written in lines are what the lines of the text say
abbrev pub WrittenLinesSay : Type 0
WrittenLinesSay = (lines : List (List Word)) → AllByRecursion IsWrittenLine lines → SayAll (lines_of (text_of lines)) lines
