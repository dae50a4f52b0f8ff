-- What a machine lends of its committed scripts.
use Rattle.std.specs.Prelude.{Option, Some, None}
use Rattle.cg_command.specs.Meaning.{command_of}
use Rattle.cg_model.specs.Command.{Command}
use Rattle.cg_view.specs.declared.walk.Step.{Step}
use Rattle.cg_view.specs.declared.walk.Step.TheVariants.{Does, Ends}

-- the command of an operation that is lent; none at the end of a script
abbrev pub step_meant : Step → Option Command
step_meant (Does c) = Some (command_of c.now)
step_meant Ends = None
