use Rattle.cg_command_text.proofs.WrittenCommands.{written_commands_are_spelled}
use Rattle.cg_command_text.proofs.laws.written_commands_are_spelled.Goals as goal

pub returns : goal.returns
returns c = written_commands_are_spelled
