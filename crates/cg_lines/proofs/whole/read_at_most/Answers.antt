use Rattle.std.proofs.Common.{◌≡◌, ◌+◌, ◌≤◌, length, vec_len, arith}
use Rattle.cg_lines.proofs.WholeLemmas.{taken_more}
use Rattle.cg_lines.proofs.whole.read_at_most.Goals as goal

pub returns-then-n-room-clause-takes : goal.returns-then-n-room-clause-takes
returns-then-n-room-clause-takes g c =
    let bytes = c.chunks.bytes in
    let len : c.len.result ≡ vec_len bytes = c.len.ensures in
    let items = bytes.ok in
    let few : length bytes.items + c.in_ok-n.n ≤ c.args.most + 1 = omega (arith, c.in_ok-n.ensures.bound) in
    taken_more (g.S.Source.left c.args.source.now) (g.S.Source.left c.chunks.source) (g.S.Source.left c.read_behind.new.source) bytes.items c.read_behind.new.chunk c.in_ok-n.n (c.args.most + 1) c.chunks.invariant.taken c.in_ok-n.ensures.bytes.0 few

pub returns-in_err-extend_from_slice-clause-takes : goal.returns-in_err-extend_from_slice-clause-takes
returns-in_err-extend_from_slice-clause-takes g c =
    let bytes = c.chunks.bytes in
    let len : c.len.result ≡ vec_len bytes = c.len.ensures in
    let items = bytes.ok in
    let few : length bytes.items + c.in_ok-n.n ≤ c.args.most + 1 = omega (arith, c.in_ok-n.ensures.bound) in
    taken_more (g.S.Source.left c.args.source.now) (g.S.Source.left c.chunks.source) (g.S.Source.left c.read_behind.new.source) bytes.items c.read_behind.new.chunk c.in_ok-n.n (c.args.most + 1) c.chunks.invariant.taken c.in_ok-n.ensures.bytes.0 few
