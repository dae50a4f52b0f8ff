-- What reading a command gives.
use Rattle.std.specs.Prelude.{List, Result, IfOk, IfErr}
use Rattle.std.specs.Result.{IsErrOf}
use Rattle.cg_name.specs.Refusal.{IsSyntaxOrMemory}
use Rattle.cg_name.specs.declared.refusal.Refusal.{Refusal}
use Rattle.cg_name.specs.declared.refusal.Refusal.TheVariants.{Syntax}
use Rattle.cg_text.specs.Words.{Word}
use Rattle.cg_model.specs.Command.{Command}
use Rattle.cg_command.specs.Meaning.{command_of}
use Rattle.cg_command.specs.declared.command.Command as rust
use Rattle.cg_command_text.specs.CommandText.{SpellsCommand}

-- r is the command that the words spell: Syntax where they spell none, and Memory where there is none for its path
pub record ReadsCommand (ws : List Word) (r : Result rust.Command Refusal) : Type 0 where
  pub value : IfOk r (λ c. SpellsCommand ws (command_of c))
  pub syntax : IsErrOf r Syntax → (c : Command) → SpellsCommand ws c → ⊥
  pub refusals : IfErr r IsSyntaxOrMemory
