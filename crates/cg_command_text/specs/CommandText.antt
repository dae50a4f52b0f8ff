-- Commands as words of a line: the words that spell a command, and those that are written for it.
use Rattle.std.specs.Prelude.{◌≡◌, ℕ, false, cond, List, [], ◌∷◌, codes}
use Rattle.std.specs.Fmt.{decimal}
use Rattle.cg_maps.specs.FiniteSet.{FiniteSet, is_empty_set, no_members}
use Rattle.cg_name.specs.FileName.{file_word}
use Rattle.cg_name.specs.Path.{IsPath, SpellsPath, path_word}
use Rattle.cg_cpus.specs.CpuList.{SpellsCpus, cpus_text}
use Rattle.cg_text.specs.FileText.{flag_word, limit_word, op_words}
use Rattle.cg_text.specs.Reading.{SpellsFlag, SpellsLimit, SpellsOpsAfter, SpellsPid, no_ops}
use Rattle.cg_text.specs.Words.{Word, line_of}
use Rattle.cg_model.specs.Command.{Command, Create, Remove, Migrate, Subtree, Freeze, Cpus, Show, Online, MaxDescendants, MaxDepth}
use Rattle.cg_world.specs.Representable.{AreCpusUpTo, IsPid}

-- no word for no CPU, or a list as one word
abbrev pub SpellsCpuWords : List Word → FiniteSet → Type 0
SpellsCpuWords [] s = s ≡ no_members
SpellsCpuWords (list ∷ []) s = SpellsCpus list s
SpellsCpuWords (list ∷ other ∷ words) s = ⊥

-- the words of a command
abbrev pub SpellsCommand : List Word → Command → Type 0
SpellsCommand ws (Create p) = (path : Word) × (ws ≡ codes "create" ∷ path ∷ []) × SpellsPath path p
SpellsCommand ws (Remove p) = (path : Word) × (ws ≡ codes "remove" ∷ path ∷ []) × SpellsPath path p
SpellsCommand ws (Migrate k p) = (pid path : Word) × (ws ≡ codes "migrate" ∷ pid ∷ path ∷ []) × SpellsPid pid k × SpellsPath path p
SpellsCommand ws (Subtree p ops) = (path : Word) × (words : List Word) × (ws ≡ codes "subtree" ∷ path ∷ words) × SpellsPath path p × SpellsOpsAfter no_ops words ops
SpellsCommand ws (Freeze p v) = (path value : Word) × (ws ≡ codes "freeze" ∷ path ∷ value ∷ []) × SpellsPath path p × SpellsFlag value v
SpellsCommand ws (Cpus p s) = (path : Word) × (words : List Word) × (ws ≡ codes "cpus" ∷ path ∷ words) × SpellsPath path p × SpellsCpuWords words s
SpellsCommand ws (Show p f) = (path : Word) × (ws ≡ codes "show" ∷ path ∷ file_word f ∷ []) × SpellsPath path p
SpellsCommand ws (Online s) = (list : Word) × (ws ≡ codes "online" ∷ list ∷ []) × SpellsCpus list s × (is_empty_set s ≡ false)
SpellsCommand ws (MaxDescendants p l) = (path value : Word) × (ws ≡ codes "maxdescendants" ∷ path ∷ value ∷ []) × SpellsPath path p × SpellsLimit value l
SpellsCommand ws (MaxDepth p l) = (path value : Word) × (ws ≡ codes "maxdepth" ∷ path ∷ value ∷ []) × SpellsPath path p × SpellsLimit value l

-- ---- what is written

-- a set of CPUs as one word, and no word for the empty set
abbrev pub cpu_words : FiniteSet → List Word
cpu_words s = cond (is_empty_set s) [] (cpus_text s ∷ [])

-- the words that are written for a command
abbrev pub command_words : Command → List Word
command_words (Create p) = codes "create" ∷ path_word p ∷ []
command_words (Remove p) = codes "remove" ∷ path_word p ∷ []
command_words (Migrate k p) = codes "migrate" ∷ decimal k ∷ path_word p ∷ []
command_words (Subtree p ops) = codes "subtree" ∷ path_word p ∷ op_words ops
command_words (Freeze p v) = codes "freeze" ∷ path_word p ∷ flag_word v ∷ []
command_words (Cpus p s) = codes "cpus" ∷ path_word p ∷ cpu_words s
command_words (Show p f) = codes "show" ∷ path_word p ∷ file_word f ∷ []
command_words (Online s) = codes "online" ∷ cpu_words s
command_words (MaxDescendants p l) = codes "maxdescendants" ∷ path_word p ∷ limit_word l ∷ []
command_words (MaxDepth p l) = codes "maxdepth" ∷ path_word p ∷ limit_word l ∷ []

-- the text of a command: its words with single spaces
abbrev pub command_text : Command → List ℕ
command_text c = line_of (command_words c)

-- ---- what can be asked for

-- a command that can be asked for: its path is one of a group, its PID is from 1 to 4,194,303, its CPUs are up to 1,023, and some CPU is online
abbrev pub CanAskFor : Command → Type 0
CanAskFor (Create p) = IsPath p
CanAskFor (Remove p) = IsPath p
CanAskFor (Migrate k p) = IsPid k × IsPath p
CanAskFor (Subtree p ops) = IsPath p
CanAskFor (Freeze p v) = IsPath p
CanAskFor (Cpus p s) = IsPath p × AreCpusUpTo 1023 s
CanAskFor (Show p f) = IsPath p
CanAskFor (Online s) = AreCpusUpTo 1023 s × (is_empty_set s ≡ false)
CanAskFor (MaxDescendants p l) = IsPath p
CanAskFor (MaxDepth p l) = IsPath p
