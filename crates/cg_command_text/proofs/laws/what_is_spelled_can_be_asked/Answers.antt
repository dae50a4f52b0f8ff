use Rattle.cg_command_text.proofs.SpelledCommands.{spelled_can_be_asked}
use Rattle.cg_command_text.proofs.laws.what_is_spelled_can_be_asked.Goals as goal

pub returns : goal.returns
returns c = spelled_can_be_asked
