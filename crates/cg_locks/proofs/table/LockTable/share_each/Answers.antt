-- A holding that stands apart is one of the others each turn.
use Rattle.std.proofs.Common.{◌≡◌, ◌+◌, ◌<◌, true, false, refl, sym, ap, ◌∙◌, arith}
use Rattle.cg_locks.specs.Holdings.{holdings}
use Rattle.cg_locks.specs.Meaning.{mark_of}
use Rattle.cg_locks.specs.Single.{IsHeldOnceMore}
use Rattle.cg_locks.proofs.Boths.{both_told, once_moved, sum_of}
use Rattle.cg_locks.proofs.Totals.{total_more}
use Rattle.cg_locks.proofs.table.LockTable.share_each.Goals as goal

pub loop-holder-init : goal.loop-holder-init
loop-holder-init c = λ u m. sym (sum_of c.self.inside.sole c.self.inside.shared c.args.self.now c.self.view_is u m)

pub returns-in_err-holder : goal.returns-in_err-holder
returns-in_err-holder c = λ u m. both_told c.loop-holder.self-inside.sole c.loop-holder.self-inside.shared u m ∙ c.loop-holder.invariant u m

pub returns-in_err-take_mark : goal.returns-in_err-take_mark
returns-in_err-take_mark c = λ u m.
    both_told c.loop-holder.self-inside.sole c.take_mark.new.self u m
    ∙ ap (λ H. holdings c.loop-holder.self-inside.sole u m + holdings H u m) c.in_err-take_mark.ensures.err ∙ c.loop-holder.invariant u m

-- the last is held, so it goes
gone : (c : goal.After-drop) → IsHeldOnceMore c.remove.new.self c.in-Some.holder.0 (mark_of c.in-Some.mark) c.loop-holder.self-inside.sole
gone c =
    let low : 0 < holdings c.loop-holder.self-inside.sole c.in-Some.holder.0 (mark_of c.in-Some.mark) = rw c.in-Some.is at c.in_ok-holder.ensures in
    c.remove.ensures.gone (elim c.remove.result as (λ b. c.remove.result ≡ b → b ≡ true) [
      | true ↦ λ _. refl
      | false ↦ λ not. let none = c.remove.ensures.none not in absurd (omega (arith, low, none))
    ] refl)

pub loop-holder-preserved : goal.loop-holder-preserved
loop-holder-preserved c = λ u m.
    once_moved c.loop-holder.self-inside.sole c.loop-holder.self-inside.shared c.remove.new.self c.take_mark.new.self c.in-Some.holder.0 (mark_of c.in-Some.mark) (gone c) c.in_ok-take_mark.ensures.ok u m
    ∙ c.loop-holder.invariant u m

pub loop-holder-smaller : goal.loop-holder-smaller
loop-holder-smaller c = let more = total_more c.remove.new.self c.loop-holder.self-inside.sole c.in-Some.holder.0 (mark_of c.in-Some.mark) (gone c) in omega (arith, more)

pub returns : goal.returns
returns c = λ u m. both_told c.loop-holder.self-inside.sole c.loop-holder.self-inside.shared u m ∙ c.loop-holder.invariant u m
