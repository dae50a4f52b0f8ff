use Rattle.std.proofs.Common.{length}
use Rattle.cg_json_world.proofs.values.+append_controllers_of.Given as goal

abbrev pub decreases-append_controllers_of : goal.decreases-append_controllers_of
decreases-append_controllers_of l = length l.all.now
