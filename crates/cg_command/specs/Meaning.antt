-- What a command of the code means in the model.
use Rattle.std.specs.Prelude.{Option, Some, None}
use Rattle.cg_name.specs.Path.{Path}
use Rattle.cg_command.specs.declared.command.Command as rust
use Rattle.cg_command.specs.declared.command.Command.TheVariants as commands
use Rattle.cg_model.specs.Command as model

abbrev pub command_of : rust.Command → model.Command
command_of (commands.Create p) = model.Create p
command_of (commands.Remove p) = model.Remove p
command_of (commands.Migrate k p) = model.Migrate k.number p
command_of (commands.Subtree p ops) = model.Subtree p ops
command_of (commands.Freeze p v) = model.Freeze p v
command_of (commands.LowCpus p v) = model.Cpus p v
command_of (commands.WideCpus p v) = model.Cpus p v
command_of (commands.Show p f) = model.Show p f
command_of (commands.Online v) = model.Online v.cpus
command_of (commands.MaxDescendants p l) = model.MaxDescendants p l
command_of (commands.MaxDepth p l) = model.MaxDepth p l

-- the path that a command names, if it names one
abbrev pub path_of : model.Command → Option Path
path_of (model.Create p) = Some p
path_of (model.Remove p) = Some p
path_of (model.Migrate k p) = Some p
path_of (model.Subtree p ops) = Some p
path_of (model.Freeze p v) = Some p
path_of (model.Cpus p v) = Some p
path_of (model.Show p f) = Some p
path_of (model.Online v) = None
path_of (model.MaxDescendants p l) = Some p
path_of (model.MaxDepth p l) = Some p
