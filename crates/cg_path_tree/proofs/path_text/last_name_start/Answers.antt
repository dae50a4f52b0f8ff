-- Behind the last zero byte stands the last name alone.
use Rattle.std.proofs.Common.{◌-◌, ◌<◌, length, arith}
use Rattle.cg_path_tree.proofs.LastName.{before_last}
use Rattle.cg_path_tree.proofs.path_text.last_name_start.Goals as goal

pub returns-then-bytes-i-eq0-clause-value : goal.returns-then-bytes-i-eq0-clause-value
returns-then-bytes-i-eq0-clause-value c =
    let low : c.loop-i.i - 1 < length c.args.bytes.now = omega arith in
    before_last c.args.bytes.now (c.loop-i.i - 1) low c.if-bytes-i-eq0.true (λ k behind within. c.loop-i.invariant k (omega arith) within)
