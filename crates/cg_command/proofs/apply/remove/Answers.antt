-- Where there is no memory for its settings, the group is put back.
use Rattle.std.proofs.Common.{Some, ap, ◌∙◌}
use Rattle.cg_command.proofs.Changing.{put_back}
use Rattle.cg_command.proofs.apply.remove.Goals as goal

pub returns-in-Err : goal.returns-in-Err
returns-in-Err c = record {
  ok = tt;
  err =
      put_back c.args.tree.now c.take_group.new.self c.put_group.new.self c.args.path.now (Some c.in-Err.failed.value) (ap Some c.in-Err.ensures.value_returned ∙ c.in-Some.ensures.group)
      c.take_group.ensures.tree c.take_group.ensures.entries c.put_group.ensures.tree c.put_group.ensures.entries;
}
