-- Each turn lets go of the oldest command that is held.
use Rattle.std.proofs.Common.{◌++◌, ◌+◌, drop, reverse, sym, subst, ap, ◌∙◌, arith}
use Rattle.std.specs.Option.{option_copied}
use Rattle.cg_txn.specs.Items.{taken_items}
use Rattle.cg_txn.specs.LettingGo.{IsLetGo, MayLetGo}
use Rattle.cg_txn.specs.Stack.{commands}
use Rattle.cg_txn.specs.TakingOff.{AllLetGo, AllMayLetGo}
use Rattle.cg_txn.proofs.OldestFirst.{behind_all}
use Rattle.cg_txn.proofs.Steps.{IsOnTheWay, arrives, keys_kept, may_step, sets_out, steps_on}
use Rattle.cg_txn.proofs.going_back.commit.Goals.{in-Some, in_default}
use Rattle.cg_txn.proofs.going_back.commit.Goals as goal

pub loop-index-init : goal.loop-index-init
loop-index-init c =
    let t = c.number-number.result.0 in
    sets_out (λ d f. MayLetGo t f) (λ d f. IsLetGo t f) (reverse c.args.txn.items) c.args.tree.now c.args.locks.now
    (subst (λ n. AllMayLetGo n (reverse c.args.txn.items) c.args.tree.now c.args.locks.now) (sym c.number-number.ensures) c.requires)

pub let_go-requires : goal.let_go-requires
let_go-requires c =
    let e = c.in-Some.entry.now in
    let next = c.command_at.ensures ∙ ap (λ r. taken_items (option_copied r) ++ commands (drop (c.loop-index.index + 1) (reverse c.args.txn.items))) c.in-Some.is in
    may_step c.loop-index.invariant e.place e.inverse e.footprint (commands (drop (c.loop-index.index + 1) (reverse c.args.txn.items))) next

pub loop-index-preserved : goal.loop-index-preserved
loop-index-preserved c =
    let t = c.number-number.result.0 in
    let rest = commands (drop (c.loop-index.index + 1) (reverse c.args.txn.items)) in
    let OnTheWay = IsOnTheWay (λ d f. MayLetGo t f) (λ d f. IsLetGo t f) (reverse c.args.txn.items) c.args.tree.now c.args.locks.now in
    elim c.match-command_at.branch [
      | in-Some w ↦
          let e = w.in-Some.entry.now in
          let next = c.command_at.ensures ∙ ap (λ r. taken_items (option_copied r) ++ rest) w.in-Some.is in
          let on = steps_on c.loop-index.invariant e.place e.inverse e.footprint rest next w.let_go.new.tree w.let_go.new.locks w.let_go.ensures in
          subst (λ R. OnTheWay rest R c.match-command_at.locks) (sym w.tree-is) (subst (λ H. OnTheWay rest w.let_go.new.tree H) (sym w.locks-is) on)
      | in_default w ↦
          let same = c.command_at.ensures ∙ ap (λ r. taken_items (option_copied r) ++ rest) w.in_default.is in
          subst (λ R. OnTheWay rest R c.match-command_at.locks) (sym w.tree-is)
          (subst (λ H. OnTheWay rest c.loop-index.tree H) (sym w.locks-is) (subst (λ l. OnTheWay l c.loop-index.tree c.loop-index.locks) same c.loop-index.invariant))
    ]

pub returns-clause-let_go : goal.returns-clause-let_go
returns-clause-let_go c =
    let none = behind_all c.args.txn.items c.loop-index.index (omega (arith, c.len-index-end.ensures)) in
    subst (λ n. AllLetGo n (reverse c.args.txn.items) c.args.tree.now c.args.locks.now c.loop-index.tree c.loop-index.locks) c.number-number.ensures (arrives c.loop-index.invariant none)

pub returns-clause-tree : goal.returns-clause-tree
returns-clause-tree c =
    let none = behind_all c.args.txn.items c.loop-index.index (omega (arith, c.len-index-end.ensures)) in
    keys_kept c.number-number.result.0 (reverse c.args.txn.items) c.args.tree.now c.args.locks.now c.loop-index.tree c.loop-index.locks (arrives c.loop-index.invariant none)
