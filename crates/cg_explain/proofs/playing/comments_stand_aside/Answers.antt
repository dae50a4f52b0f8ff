use Rattle.cg_explain.proofs.Aside.{comments_stand_aside}
use Rattle.cg_explain.proofs.playing.comments_stand_aside.Goals as goal

pub returns : goal.returns
returns c = comments_stand_aside
