-- One place more has the number.
use Rattle.std.proofs.Common.{◌<◌, get_or, vec_len, arith}
use Rattle.cg_commits.proofs.Numbering.{all_at, one_more}
use Rattle.cg_commits.proofs.room.give_number.Goals as goal

pub loop-place-preserved : goal.loop-place-preserved
loop-place-preserved c =
    let lt = c.loop-place-test.true in
    let within : get_or c.args.places.now c.loop-place.place-index 0 < vec_len c.args.numbers.now = all_at (λ n. n < vec_len c.args.numbers.now) c.args.places.now c.loop-place.place-index c.requires lt in
    record {
      numbers =
          one_more c.loop-place.numbers.items c.args.numbers.now.items c.args.places.now c.loop-place.place-index c.args.number lt
          (let len = c.loop-place.invariant.len in let items = c.loop-place.numbers.ok.0 in omega (arith, within, len, items)) c.loop-place.invariant.numbers;
      len = c.loop-place.invariant.len;
    }
