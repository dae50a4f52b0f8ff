-- The laws of one command, at the command that was run.
use Rattle.std.proofs.lemmas.Result.{IfOk-weaker}
use Rattle.cg_command.specs.Applied.{outcome_of}
use Rattle.cg_command.specs.Meaning.{command_of}
use Rattle.cg_command.proofs.Applying.{fits_after, undone_after, sound_kept_by}
use Rattle.cg_command.proofs.Proper.{proper}
use Rattle.cg_command.proofs.command.Command.apply.Goals as goal

pub returns-clause-effect : goal.returns-clause-effect
returns-clause-effect c = IfOk-weaker c.run.result _ _ (λ r a. a.effect) c.run.ensures.ok

pub returns-clause-tree : goal.returns-clause-tree
returns-clause-tree c = IfOk-weaker c.run.result _ _ (λ r a. a.tree) c.run.ensures.ok

pub returns-clause-room : goal.returns-clause-room
returns-clause-room c = IfOk-weaker c.run.result _ _ (λ r a. a.room) c.run.ensures.ok

pub returns-clause-fits : goal.returns-clause-fits
returns-clause-fits c = IfOk-weaker c.run.result _ _ (λ r a. fits_after _ _ _ _ _ a) c.run.ensures.ok

pub returns-clause-identity : goal.returns-clause-identity
returns-clause-identity c = IfOk-weaker c.run.result _ _ (λ r a. undone_after _ _ _ _ _ a) c.run.ensures.ok

pub returns-clause-sound : goal.returns-clause-sound
returns-clause-sound c = sound_kept_by (command_of c.args.self.now) c.args.tree.now _ (λ r. outcome_of r.0) (λ r. r.1) c.run.result c.run.ensures.ok c.run.ensures.err (proper c.args.self.now)
