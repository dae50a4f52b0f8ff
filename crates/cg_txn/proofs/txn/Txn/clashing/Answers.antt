-- The first item that is in the way is the oldest.
use Rattle.std.proofs.Common.{◌+◌, drop, refl, sym, ap, ◌∙◌, arith}
use Rattle.std.specs.Option.{option_or}
use Rattle.cg_txn.specs.Clashing.{oldest_clashing}
use Rattle.cg_txn.proofs.ClashingItems.{first_in, first_is_oldest, next_item, no_more}
use Rattle.cg_txn.proofs.txn.Txn.clashing.Goals as goal

pub loop-index-init : goal.loop-index-init
loop-index-init c = refl

pub returns-in-Some : goal.returns-in-Some
returns-in-Some c =
    let g = c.args.footprint.now in
    let xs = c.self.inside.items.items in
    let i = c.loop-index.index in
    ap (λ o. option_or o (first_in g (drop (i + 1) xs))) c.in-Some.ensures
    ∙ sym (next_item g xs i c.index.result.now (omega arith) c.index.ensures)
    ∙ c.loop-index.invariant
    ∙ first_is_oldest g xs
    ∙ ap (λ s. oldest_clashing g s.items) c.self.view_is

pub returns : goal.returns
returns c =
    let g = c.args.footprint.now in
    let xs = c.self.inside.items.items in
    sym (no_more g xs c.loop-index.index (omega arith)) ∙ c.loop-index.invariant ∙ first_is_oldest g xs ∙ ap (λ s. oldest_clashing g s.items) c.self.view_is
