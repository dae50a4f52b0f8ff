use Rattle.cg_model_laws.proofs.AcceptedCommands.{changes_marked, frame, frame_of_commands}
use Rattle.cg_model_laws.proofs.accepted_commands_change_what_they_mark.Goals as goal

pub returns-clause-changes : goal.returns-clause-changes
returns-clause-changes c = changes_marked

pub returns-clause-marks : goal.returns-clause-marks
returns-clause-marks c = frame

pub returns-clause-commands : goal.returns-clause-commands
returns-clause-commands c = frame_of_commands
