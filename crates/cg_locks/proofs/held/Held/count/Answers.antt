-- As often as the first holds it, or as is told beside the transaction's number.
use Rattle.std.proofs.Common.{ap, ◌∙◌, unwrap_or}
use Rattle.std.specs.FinMap.Entries.{find}
use Rattle.std.specs.Ordering.{nat_cmp}
use Rattle.cg_locks.specs.FirstsAndOthers.{others_in}
use Rattle.cg_locks.specs.Held.{part_of}
use Rattle.cg_locks.proofs.Firsts.{count_first, count_other}
use Rattle.cg_locks.proofs.HeldParts.{are_holders, as_seen, part_sorted}
use Rattle.cg_locks.proofs.held.Held.count.Goals as goal

pub returns-then-first-transaction : goal.returns-then-first-transaction
returns-then-first-transaction c =
    let s = c.args.part in let F = c.self.inside.firsts in let es = c.self.inside.others.items in let x = c.get-first.result in
    count_first x.holder x.times (others_in s es) (are_holders s F es c.self.invariant x c.get-first.ensures) (part_of s c.args.self.now) (as_seen s F es c.self.invariant x c.get-first.ensures c.args.self.now c.self.view_is) c.args.transaction.0 c.if-first-transaction.true

pub place_in-times-requires : goal.place_in-times-requires
place_in-times-requires c = part_sorted c.args.part c.self.inside.firsts c.self.inside.others.items c.self.invariant c.deref.result.now c.deref.ensures.value

pub returns : goal.returns
returns c =
    let s = c.args.part in let F = c.self.inside.firsts in let es = c.self.inside.others.items in let x = c.get-first.result in
    c.place_in-times.ensures.count ∙ ap (λ xs. unwrap_or (find nat_cmp c.args.transaction.0 (others_in s xs)) 0) c.deref.ensures.value
    ∙ count_other x.holder x.times (others_in s es) (are_holders s F es c.self.invariant x c.get-first.ensures) (part_of s c.args.self.now) (as_seen s F es c.self.invariant x c.get-first.ensures c.args.self.now c.self.view_is) c.args.transaction.0 c.if-first-transaction.false
