-- Each turn takes the newest command off that stands above the savepoint.
use Rattle.std.proofs.Common.{◌≡◌, false, true, length, refl, sym, subst, ap, ◌∙◌, arith}
use Rattle.cg_txn.specs.Items.{command_item}
use Rattle.cg_txn.specs.TakingOff.{AllComeOff, AllMayComeOff, ComesOff, MayComeOff}
use Rattle.cg_txn.proofs.Backwards.{few_above}
use Rattle.cg_txn.proofs.Steps.{arrives, may_step, starts, steps_on}
use Rattle.cg_txn.proofs.StepsBack.{last_step, step_takes}
use Rattle.cg_txn.specs.Laws.{below, commands_above}
use Rattle.cg_txn.specs.Stack.{has_savepoint}
use Rattle.cg_txn.proofs.going_back.back.Goals as goal

pub loop-entry-init : goal.loop-entry-init
loop-entry-init c =
    let t = c.number-number.result.0 in
    let all = commands_above c.args.name c.args.txn.now.items in
    let there : has_savepoint c.args.name c.args.txn.now.items ≡ true = sym c.has_savepoint.ensures ∙ c.if-not-has_savepoint.false in
    record {
      way = starts (MayComeOff t) (ComesOff t) all c.args.tree.now c.args.locks.now
          (subst (λ n. AllMayComeOff n all c.args.tree.now c.args.locks.now) (sym c.number-number.ensures) (c.requires there));
      transaction = refl;
      same_below = refl;
      still_there = there;
      counted = omega arith;
    }

pub take_off-requires : goal.take_off-requires
take_off-requires c =
    let e = c.in-Some.entry in
    let rest = c.step_back.new.self.items in
    may_step c.loop-entry.invariant.way e.place e.inverse e.footprint (commands_above c.args.name rest)
    (step_takes c.args.name c.loop-entry.txn.items rest (command_item e) c.loop-entry.invariant.still_there (sym c.in-Some.ensures.step)).0

pub prove-unreachable-requires : goal.prove-unreachable-requires
prove-unreachable-requires c =
    let off = step_takes c.args.name c.loop-entry.txn.items c.step_back.new.self.items (command_item c.in-Some.entry) c.loop-entry.invariant.still_there (sym c.in-Some.ensures.step) in
    omega (arith, ap length off.0, few_above c.args.name c.args.txn.now.items, c.loop-entry.invariant.counted, c.len-standing.ensures)

pub loop-entry-smaller : goal.loop-entry-smaller
loop-entry-smaller c =
    let off = step_takes c.args.name c.loop-entry.txn.items c.step_back.new.self.items (command_item c.in-Some.entry) c.loop-entry.invariant.still_there (sym c.in-Some.ensures.step) in
    omega (arith, ap length off.0)

pub loop-entry-preserved : goal.loop-entry-preserved
loop-entry-preserved c =
    let e = c.in-Some.entry in
    let rest = c.step_back.new.self.items in
    let off = step_takes c.args.name c.loop-entry.txn.items rest (command_item e) c.loop-entry.invariant.still_there (sym c.in-Some.ensures.step) in
    record {
      way = steps_on c.loop-entry.invariant.way e.place e.inverse e.footprint (commands_above c.args.name rest) off.0 c.take_off.new.tree c.take_off.new.locks c.take_off.ensures;
      transaction = c.in-Some.ensures.number ∙ c.loop-entry.invariant.transaction;
      same_below = off.1 ∙ c.loop-entry.invariant.same_below;
      still_there = off.2;
      counted = omega (arith, ap length off.0, c.loop-entry.invariant.counted);
    }

pub returns-clause-off : goal.returns-clause-off
returns-clause-off c =
    let none = last_step c.args.name c.loop-entry.txn.items c.step_back.new.self.items c.loop-entry.invariant.still_there (sym c.in_default.ensures.step) in
    subst (λ n. AllComeOff n (commands_above c.args.name c.args.txn.now.items) c.args.tree.now c.args.locks.now c.loop-entry.tree c.loop-entry.locks) c.number-number.ensures
    (arrives c.loop-entry.invariant.way none.0)

pub returns-clause-stack : goal.returns-clause-stack
returns-clause-stack c =
    let none = last_step c.args.name c.loop-entry.txn.items c.step_back.new.self.items c.loop-entry.invariant.still_there (sym c.in_default.ensures.step) in
    let number : c.step_back.new.self.number ≡ c.args.txn.now.number = c.in_default.ensures.number ∙ c.loop-entry.invariant.transaction in
    let items : c.step_back.new.self.items ≡ below c.args.name c.args.txn.now.items = none.1 ∙ c.loop-entry.invariant.same_below in
    let reserved : c.step_back.new.self.reserved ≡ false = c.in_default.ensures.reserved in
    λ i. record { number = number i; items = items i; reserved = reserved i }

pub returns-clause-count : goal.returns-clause-count
returns-clause-count c =
    let none = last_step c.args.name c.loop-entry.txn.items c.step_back.new.self.items c.loop-entry.invariant.still_there (sym c.in_default.ensures.step) in
    omega (arith, ap length none.0, c.loop-entry.invariant.counted)
