-- Commands as lines for a POSIX shell, over the tree that is mounted at a folder.
use Rattle.std.specs.Prelude.{◌≡◌, ℕ, false, List, [], ◌∷◌, ◌++◌, Some, map, codes}
use Rattle.std.specs.Fmt.{decimal}
use Rattle.std.specs.List.{AllByRecursion, flat_map}
use Rattle.cg_command_text.specs.CommandText.{CanAskFor}
use Rattle.cg_cpus.specs.CpuList.{cpus_text}
use Rattle.cg_name.specs.FileName.{file_word}
use Rattle.cg_name.specs.Path.{Path}
use Rattle.cg_name.specs.declared.file_name.FileName.{FileName}
use Rattle.cg_name.specs.declared.file_name.FileName.TheVariants as files
use Rattle.cg_text.specs.FileText.{flag_word, limit_word, line_text, ops_text}
use Rattle.cg_model.specs.Command.{Command, Create, Remove, Migrate, Subtree, Freeze, Cpus, Show, Online, MaxDescendants, MaxDepth}
use Rattle.cg_model.specs.Tree.{Tree}
use Rattle.cg_script.specs.Script.{SpellsScript}
use Rattle.cg_plan.specs.Leads.{Leads, asked_for}
use Rattle.cg_plan.specs.ShellWord.{Token, Word, Into, End, shell_word, tokens_of}

-- the folder of a group, below that of the root
abbrev pub folder : List ℕ → Path → List ℕ
folder root p = root ++ flat_map (λ n. 47 ∷ n) p

-- a file in it
abbrev pub file_in : List ℕ → Path → FileName → List ℕ
file_in root p f = folder root p ++ 47 ∷ file_word f

-- the line that calls a program on a file or a folder
abbrev pub call_line : List ℕ → List ℕ → List ℕ
call_line program name = line_text (program ++ codes " -- " ++ shell_word name)

-- the line that writes a value and a newline into a file of a group
abbrev pub write_line : List ℕ → Path → FileName → List ℕ → List ℕ
write_line root p f value = line_text (codes "printf '%s\\n' " ++ shell_word value ++ codes " > " ++ shell_word (file_in root p f))

-- what stands behind the CPUs that are to be online: no file of a tree sets them
abbrev pub by_hand : List ℕ
by_hand = codes ": by hand, 1 into /sys/devices/system/cpu/cpuN/online of each of these, and 0 into that of each other"

-- the line of a command
abbrev pub shell_line : List ℕ → Command → List ℕ
shell_line root (Create p) = call_line (codes "mkdir") (folder root p)
shell_line root (Remove p) = call_line (codes "rmdir") (folder root p)
shell_line root (Migrate k p) = write_line root p files.Procs (decimal k)
shell_line root (Subtree p ops) = write_line root p files.SubtreeControl (ops_text ops)
shell_line root (Freeze p v) = write_line root p files.Freeze (flag_word v)
shell_line root (Cpus p s) = write_line root p files.Cpus (cpus_text s)
shell_line root (Show p f) = call_line (codes "cat") (file_in root p f)
shell_line root (Online s) = line_text (codes "# online " ++ cpus_text s ++ by_hand)
shell_line root (MaxDescendants p l) = write_line root p files.MaxDescendants (limit_word l)
shell_line root (MaxDepth p l) = write_line root p files.MaxDepth (limit_word l)

-- the first lines: what reads the text, and that the first line that fails ends it
abbrev pub shell_head : List ℕ
shell_head = codes "#!/bin/sh\nset -e\n"

-- the text of some commands
abbrev pub shell_text : List ℕ → List Command → List ℕ
shell_text root cs = shell_head ++ flat_map (shell_line root) cs

-- a text for a shell does what a script does: these commands and no other request
pub record IsInShell (root script text : List ℕ) : Type 0 where
  pub commands : List Command
  pub spelled : SpellsScript script (map asked_for commands) false
  pub lines : text ≡ shell_text root commands

-- it does what a script does that leads from the one tree to the other
pub record LeadsInShell (root text : List ℕ) (A B : Tree) : Type 0 where
  pub script : List ℕ
  pub leads : Leads script A B
  pub same : IsInShell root script text

-- ---- what a shell finds in such a text

-- a call of a program on a file or a folder
abbrev pub call_tokens : List ℕ → List ℕ → List Token
call_tokens program name = Word program ∷ Word (codes "--") ∷ Word name ∷ End ∷ []

-- what prints a value and a newline, into a file of a group
abbrev pub write_tokens : List ℕ → Path → FileName → List ℕ → List Token
write_tokens root p f value = Word (codes "printf") ∷ Word (codes "%s\\n") ∷ Word value ∷ Into ∷ Word (file_in root p f) ∷ End ∷ []

-- of a command; what is to be done by hand is a comment
abbrev pub command_tokens : List ℕ → Command → List Token
command_tokens root (Create p) = call_tokens (codes "mkdir") (folder root p)
command_tokens root (Remove p) = call_tokens (codes "rmdir") (folder root p)
command_tokens root (Migrate k p) = write_tokens root p files.Procs (decimal k)
command_tokens root (Subtree p ops) = write_tokens root p files.SubtreeControl (ops_text ops)
command_tokens root (Freeze p v) = write_tokens root p files.Freeze (flag_word v)
command_tokens root (Cpus p s) = write_tokens root p files.Cpus (cpus_text s)
command_tokens root (Show p f) = call_tokens (codes "cat") (file_in root p f)
command_tokens root (Online s) = End ∷ []
command_tokens root (MaxDescendants p l) = write_tokens root p files.MaxDescendants (limit_word l)
command_tokens root (MaxDepth p l) = write_tokens root p files.MaxDepth (limit_word l)

-- the law: of the text of commands that can be asked for a shell finds just this
abbrev pub TextsAreRead : Type 0
TextsAreRead =
    (root : List ℕ) (cs : List Command) → AllByRecursion CanAskFor cs
    → tokens_of (shell_text root cs) ≡ Some (End ∷ Word (codes "set") ∷ Word (codes "-e") ∷ End ∷ flat_map (command_tokens root) cs)
