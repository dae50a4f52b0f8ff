-- A node that holds nothing goes, and then what is free above it.
use Rattle.std.proofs.Common.{arith}
use Rattle.cg_path_tree.specs.Nodes.{parent_path}
use Rattle.cg_locks.proofs.HeldMaps.{alike_then, dropped_alike}
use Rattle.cg_locks.proofs.Keys.{above_of_key, left_above, shorter_left}
use Rattle.cg_locks.proofs.upward.+drop_free.Goals as goal

pub drop_free-requires : goal.drop_free-requires
drop_free-requires t c =
    let keys = c.args.nodes.now.keys in
    let p = c.requires.0 in
    let h = c.requires.1 in
    let above = above_of_key keys c.args.key c.in-Some.parent (λ q k. c.in-Some.ensures.root q k) (λ q k r. c.in-Some.ensures.value q k r) p h in
    let less = shorter_left keys c.args.key c.in-Some.parent c.laws.ensures.one_path p h above c.remove.new.self.keys c.laws-then-len-kept_above.ensures.one_path (c.remove.ensures.keys p h) in
    (omega (arith, c.decreases, less), (parent_path p, left_above keys c.args.key c.in-Some.parent c.laws.ensures.one_path p h above c.remove.new.self.keys (c.remove.ensures.keys p h)))

pub returns-then-len-kept_above : goal.returns-then-len-kept_above
returns-then-len-kept_above t c =
    let p = c.requires.0 in
    let h = c.requires.1 in
    alike_then c.args.nodes.now.values c.remove.new.self.values c.drop_free.new.nodes.values
    (dropped_alike c.args.nodes.now.values c.remove.new.self.values p c.get.result.now (c.get.ensures p h) (c.remove.ensures.values p h) (c.is_empty.ensures c.if-not-is_empty.false)) c.drop_free.ensures

pub returns-else-len-kept_above : goal.returns-else-len-kept_above
returns-else-len-kept_above t c =
    let p = c.requires.0 in
    let h = c.requires.1 in
    dropped_alike c.args.nodes.now.values c.remove.new.self.values p c.get.result.now (c.get.ensures p h) (c.remove.ensures.values p h) (c.is_empty.ensures c.if-not-is_empty.false)

pub returns-in_default : goal.returns-in_default
returns-in_default t c =
    let p = c.requires.0 in
    let h = c.requires.1 in
    dropped_alike c.args.nodes.now.values c.remove.new.self.values p c.get.result.now (c.get.ensures p h) (c.remove.ensures.values p h) (c.is_empty.ensures c.if-not-is_empty.false)
