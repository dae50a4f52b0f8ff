-- The laws of commands as words, for contracts to cite.
use Rattle.std.specs.Prelude.{◌≡◌, ◌≤◌, List, length}
use Rattle.std.specs.List.{AllByRecursion}
use Rattle.cg_name.specs.Word.{FitsLine}
use Rattle.cg_text.specs.Words.{Word}
use Rattle.cg_model.specs.Command.{Command}
use Rattle.cg_command_text.specs.CommandText.{SpellsCommand, CanAskFor, command_words, command_text}

-- words spell one command at most
abbrev pub OneCommand : Type 0
OneCommand = (ws : List Word) (c d : Command) → SpellsCommand ws c → SpellsCommand ws d → c ≡ d

-- what words spell can be asked for
abbrev pub SpelledCanBeAsked : Type 0
SpelledCanBeAsked = (ws : List Word) (c : Command) → SpellsCommand ws c → CanAskFor c

-- the words that are written for a command may stand in a line, with a name of 16 bytes and a space before them, and spell the command
pub record IsWritten (c : Command) : Type 0 where
  pub spelled : SpellsCommand (command_words c) c
  pub fit : AllByRecursion FitsLine (command_words c)
  pub short : length (command_text c) ≤ 65519

-- so it is of every command that can be asked for
abbrev pub WrittenCommandsAreSpelled : Type 0
WrittenCommandsAreSpelled = (c : Command) → CanAskFor c → IsWritten c
