use Rattle.cg_model_laws.proofs.SoundCommands.{sound_kept}
use Rattle.cg_model_laws.proofs.accepted_commands_keep_trees_sound.Goals as goal

pub returns : goal.returns
returns c = sound_kept
