-- `==` of commands tells whether they mean the same.
use Rattle.std.proofs.Common.{◌≡◌}
use Rattle.std.specs.Bool.{Decides}
use Rattle.cg_command.specs.Alike.{alike_decides}
use Rattle.cg_command.specs.Meaning.{command_of}
use Rattle.cg_command.specs.contracts.command.CommandPartialEq.TheImpl as eq
use Rattle.cg_command.specs.declared.command.Command.{Command}

pub commands : (a b : Command) → Decides (eq.ghosts.eq a b) (command_of a ≡ command_of b)
commands a b = alike_decides (command_of a) (command_of b)
