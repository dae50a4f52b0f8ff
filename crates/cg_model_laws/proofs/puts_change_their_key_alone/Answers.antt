use Rattle.cg_model_laws.proofs.Keys.{put_there, put_apart, part_absent, place_absent}
use Rattle.cg_model_laws.proofs.puts_change_their_key_alone.Goals as goal

pub returns : goal.returns
returns c = record {
  held = λ T k v h. put_there k v T h;
  others = λ T k l v e. put_apart l k v T e;
  absent = λ T. (part_absent T, place_absent T);
}
