use Rattle.cg_maps.proofs.Sets.{has-no_members, has-with_member, has-in_common, has-set_of, has-such_that_below, empty_has_none}
use Rattle.cg_maps.proofs.sets_have_their_members.Goals as goal

pub returns : goal.returns
returns c = record {
  with_member = λ s n k. (has-no_members n, has-with_member s k n);
  in_common = has-in_common;
  of_list = has-set_of;
  such_that_below = has-such_that_below;
  is_empty = empty_has_none;
}
