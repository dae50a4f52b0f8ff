use Rattle.cg_world_text.specs.World.{group_line}
use Rattle.cg_world_text.proofs.ToCome.{group_first}
use Rattle.cg_world_text.proofs.tree_writing.append_listed.Goals as goal

pub returns-in-Some-clause-line : goal.returns-in-Some-clause-line
returns-in-Some-clause-line c = (
  group_line c.args.version (c.in-Some.path, c.in-Some.settings.now),
  c.in_ok-append_group.ensures.ok,
  group_first c.args.version (c.in-Some.path, c.in-Some.settings.now) c.args.groups.now c.next.new.self c.args.places.now c.in-Some.ensures.steps,
)
