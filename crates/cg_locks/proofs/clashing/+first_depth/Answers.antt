use Rattle.std.proofs.Common.{◌≡◌, ◌+◌, true, false, length, sym, arith}
use Rattle.cg_locks.proofs.FirstClash.{comes_last, descending_on, stands_first}
use Rattle.cg_locks.proofs.clashing.+first_depth.Goals as goal

pub first_depth-requires : goal.first_depth-requires
first_depth-requires t c =
    let longer : length c.args.depths.now ≡ length c.in-Some.shorter.now + 1 = sym c.in-Some.ensures.cases.1 in (
      omega (arith, longer),
      ((descending_on (length c.args.path.now) c.in-Some.depth.now c.in-Some.shorter.now c.args.depths.now c.in-Some.ensures.cases.0 c.requires.these).1, c.requires.others),
    )

pub returns-in-Some-first_depth : goal.returns-in-Some-first_depth
returns-in-Some-first_depth t c =
    let p = c.args.path.now in
    let d = c.in-Some.depth.now in
    let ds = c.in-Some.shorter.now in
    let here = descending_on (length p) d ds c.args.depths.now c.in-Some.ensures.cases.0 c.requires.these in
    stands_first p d ds c.args.depths.now _ _ c.in-Some.ensures.cases.0 here.0 c.in-Some-first_depth.ensures

pub returns-then-is_counted : goal.returns-then-is_counted
returns-then-is_counted t c =
    let p = c.args.path.now in
    let d = c.in-Some.depth.now in
    let ds = c.in-Some.shorter.now in
    let here = descending_on (length p) d ds c.args.depths.now c.in-Some.ensures.cases.0 c.requires.these in
    comes_last p d ds c.args.depths.now _ true c.in-Some.ensures.cases.0 here.0 c.in_default-first_depth.ensures c.if-is_counted.ensures

pub returns-else-is_counted : goal.returns-else-is_counted
returns-else-is_counted t c =
    let p = c.args.path.now in
    let d = c.in-Some.depth.now in
    let ds = c.in-Some.shorter.now in
    let here = descending_on (length p) d ds c.args.depths.now c.in-Some.ensures.cases.0 c.requires.these in
    comes_last p d ds c.args.depths.now _ false c.in-Some.ensures.cases.0 here.0 c.in_default-first_depth.ensures c.if-is_counted.ensures
