-- One less at the path, and in the part below it and above.
use Rattle.std.proofs.Common.{sym, subst}
use Rattle.cg_locks.specs.HeldByPath.{IsOneMoreIn}
use Rattle.cg_locks.proofs.Keys.{same_key}
use Rattle.cg_locks.proofs.Parts.{aligned}
use Rattle.cg_locks.proofs.Walks.{alone_more, left_filled, left_more, mark_more, up_then_at}
use Rattle.cg_locks.proofs.upward.remove_mark.Goals as goal

pub remove_up-requires-clause-branches : goal.remove_up-requires-clause-branches
remove_up-requires-clause-branches c =
    let p = c.requires.there.0 in
    let first = c.requires.there.1 in
    left_filled c.args.nodes.now.values c.remove_at.new.nodes.values c.args.kind c.in-Some.below p c.args.transaction.0 (sym c.in-Some.ensures) (aligned c.args.kind c.in-Some.below (sym c.in-Some.ensures)) c.requires.summed
    (subst (λ s. IsOneMoreIn c.remove_at.new.nodes.values s p c.args.transaction.0 c.args.nodes.now.values) c.at_path.ensures (c.remove_at.ensures.less p first))

pub remove_up-requires-clause-more : goal.remove_up-requires-clause-more
remove_up-requires-clause-more c = λ p h.
    let first = same_key c.remove_at.new.nodes.keys c.args.nodes.now.keys p c.args.key (sym c.remove_at.ensures.keys) h in
    left_more c.args.nodes.now.values c.remove_at.new.nodes.values c.args.kind c.in-Some.below p c.args.transaction.0 (sym c.in-Some.ensures) (aligned c.args.kind c.in-Some.below (sym c.in-Some.ensures)) c.requires.summed
    (subst (λ s. IsOneMoreIn c.remove_at.new.nodes.values s p c.args.transaction.0 c.args.nodes.now.values) c.at_path.ensures (c.remove_at.ensures.less p first)) (c.requires.held p first)

pub returns-in-Some-clause-less : goal.returns-in-Some-clause-less
returns-in-Some-clause-less c = λ p h.
    let T = c.args.nodes.now.values in
    let M = c.remove_at.new.nodes.values in
    let last = same_key c.args.nodes.now.keys c.remove_at.new.nodes.keys p c.args.key c.remove_at.ensures.keys h in
    mark_more c.remove_up.new.nodes.values T c.args.kind c.in-Some.below p c.args.transaction.0 (aligned c.args.kind c.in-Some.below (sym c.in-Some.ensures))
    (up_then_at c.remove_up.new.nodes.values M T c.args.kind c.in-Some.below p c.args.transaction.0 (c.remove_up.ensures.less p last)
    (subst (λ s. IsOneMoreIn M s p c.args.transaction.0 T) c.at_path.ensures (c.remove_at.ensures.less p h)))

pub returns-in_default-clause-less : goal.returns-in_default-clause-less
returns-in_default-clause-less c = λ p h.
    alone_more c.remove_at.new.nodes.values c.args.nodes.now.values c.args.kind p c.args.transaction.0 (sym c.in_default.ensures)
    (subst (λ s. IsOneMoreIn c.remove_at.new.nodes.values s p c.args.transaction.0 c.args.nodes.now.values) c.at_path.ensures (c.remove_at.ensures.less p h))
