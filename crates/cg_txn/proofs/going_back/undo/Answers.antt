-- The newest item is that command.
use Rattle.std.proofs.Common.{◌≡◌, ◌∷◌, refl, sym, subst, ap, take}
use Rattle.cg_txn.specs.Steps.{Each}
use Rattle.cg_txn.specs.TakingOff.{ComesOff}
use Rattle.cg_txn.specs.Items.{command_item}
use Rattle.cg_txn.proofs.going_back.undo.Goals as goal

pub returns-clause-off : goal.returns-clause-off
returns-clause-off c =
    let t = c.args.txn.now.number in
    let e = c.in_ok-entry.entry in
    let is : c.args.txn.now.items ≡ command_item e ∷ c.undo.new.self.items = ap (λ s. s.items) c.in_ok-entry.ensures.ok in
    let off : ComesOff t e.inverse e.footprint c.args.tree.now c.args.locks.now c.take_off.new.tree c.take_off.new.locks =
    subst (λ n. ComesOff n e.inverse e.footprint c.args.tree.now c.args.locks.now c.take_off.new.tree c.take_off.new.locks) c.number-number.ensures c.take_off.ensures in
    subst (λ l. Each (ComesOff t) (take 1 l) c.args.tree.now c.args.locks.now c.take_off.new.tree c.take_off.new.locks) (sym is) (c.take_off.new.tree, c.take_off.new.locks, off, (refl, refl))
