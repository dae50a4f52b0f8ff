-- Every command of the code is proper: its CPUs that are to be online aren't none.
use Rattle.cg_command.specs.Meaning.{command_of}
use Rattle.cg_command.specs.declared.command.Command.{Command}
use Rattle.cg_command.specs.declared.command.Command.TheVariants as commands
use Rattle.cg_model.specs.Command.{IsProper}

pub proper : (c : Command) → IsProper (command_of c)
proper (commands.Create p) = tt
proper (commands.Remove p) = tt
proper (commands.Migrate k p) = tt
proper (commands.Subtree p ops) = tt
proper (commands.Freeze p v) = tt
proper (commands.LowCpus p v) = tt
proper (commands.WideCpus p v) = tt
proper (commands.Show p f) = tt
proper (commands.Online v) = v.some
proper (commands.MaxDescendants p l) = tt
proper (commands.MaxDepth p l) = tt
