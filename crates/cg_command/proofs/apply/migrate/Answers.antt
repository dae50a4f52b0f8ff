-- The groups that a process is moved from and into have their entries.
use Rattle.cg_command.proofs.Changing.{moved_into_group}
use Rattle.cg_command.proofs.apply.migrate.Goals as goal

pub put_place-requires : goal.put_place-requires
put_place-requires c = c.laws.ensures.groups c.args.path.now (moved_into_group c.args.tree.now.tree c.args.pid c.args.path.now c.requires)
