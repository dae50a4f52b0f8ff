-- By whether an entry may be dead, whether a subtree is marked, whether a group is there, and whether it is held on.
use Rattle.std.proofs.Common.{◌≡◌, sym, ◌∙◌}
use Rattle.cg_model.specs.Footprint.{X}
use Rattle.cg_locks.specs.Holdings.{holdings}
use Rattle.cg_txn.proofs.Letting.{group_stays, held_on, let_go_there, may_sweep, none_dead, not_held}
use Rattle.cg_txn.proofs.letting_go.let_go.Goals as goal

pub returns-then-not-has_dead_entries : goal.returns-then-not-has_dead_entries
returns-then-not-has_dead_entries c =
    none_dead c.args.number.0 c.args.footprint.now c.args.tree.now c.args.locks.now c.release.new.self c.release.ensures (c.has_dead_entries.ensures c.if-not-has_dead_entries.true)

pub returns-then-find : goal.returns-then-find
returns-then-find c =
    group_stays c.args.number.0 c.args.footprint.now c.args.tree.now c.args.locks.now c.release.new.self c.in-Some.path.now (sym c.in-Some.ensures) c.release.ensures (sym c.find.ensures.value ∙ c.if-find.true)

pub sweep-requires : goal.sweep-requires
sweep-requires c =
    let none : holdings c.release.new.self c.args.number.0 (X c.in-Some.path.now) ≡ 0 = not_held c.holds_changed.result _ c.if-not-holds_changed.true c.holds_changed.ensures.1 in
    may_sweep c.args.number.0 c.args.footprint.now c.args.tree.now c.args.locks.now c.release.new.self c.in-Some.path.now (sym c.in-Some.ensures) c.release.ensures none c.requires

pub returns-then-not-holds_changed : goal.returns-then-not-holds_changed
returns-then-not-holds_changed c =
    let none : holdings c.release.new.self c.args.number.0 (X c.in-Some.path.now) ≡ 0 = not_held c.holds_changed.result _ c.if-not-holds_changed.true c.holds_changed.ensures.1 in
    let_go_there c.args.number.0 c.args.footprint.now c.args.tree.now c.args.locks.now c.release.new.self c.in-Some.path.now (sym c.in-Some.ensures) c.release.ensures none c.sweep.new.self c.sweep.ensures.tree c.sweep.ensures.entries

pub returns-else-not-holds_changed : goal.returns-else-not-holds_changed
returns-else-not-holds_changed c =
    held_on c.args.number.0 c.args.footprint.now c.args.tree.now c.args.locks.now c.release.new.self c.in-Some.path.now (sym c.in-Some.ensures) c.release.ensures (c.holds_changed.ensures.0 c.if-not-holds_changed.false)
