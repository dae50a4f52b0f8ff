use Rattle.std.proofs.Common.{sym, ap, ◌∙◌, map, subst}
use Rattle.std.specs.Prelude.{IsSome}
use Rattle.cg_model.specs.Tree.{place_of}
use Rattle.cg_import.proofs.Processes.{item_put, items_are_in, all_are_in}
use Rattle.cg_import.proofs.tree.Import.take_processes.Goals as goal
use Rattle.cg_import.proofs.tree.Import.take_processes.Goals.{then-not-are_known+in_ok-add, else-not-are_known}

pub loop-line-preserved : goal.loop-line-preserved
loop-line-preserved c =
    let lines = ap (map (λ line. line.now)) c.as_slice-line-items.ensures.value ∙ c.in_ok-lines.ensures in
    let step = c.in_ok-is_known.ensures in
    record {
      same = step.same ∙ c.loop-line.invariant.same;
      puts = item_put (λ line. line.now) c.as_slice-line-items.result.now c.args.pids.now lines c.loop-line.line-index _ c.loop-line-test.true c.args.self.now.tree c.loop-line.self.tree c.take_process.new.self.tree c.args.path.now c.loop-line.invariant.puts step.puts;
      all = items_are_in (λ line. line.now) c.as_slice-line-items.result.now c.args.pids.now lines c.loop-line.line-index _ c.loop-line-test.true c.loop-line.self.tree c.take_process.new.self.tree c.args.path.now c.loop-line.invariant.all step.puts step.all;
    }

pub returns-clause-all : goal.returns-clause-all
returns-clause-all c = λ may k lists.
    let lines = ap (map (λ line. line.now)) c.as_slice-line-items.ensures.value ∙ c.in_ok-lines.ensures in
    let is_in = all_are_in (λ line. line.now) c.as_slice-line-items.result.now c.args.pids.now c.loop-line.line-index c.loop-line.self.tree lines c.loop-line-test.false c.loop-line.invariant.all k lists in
    elim c.if-not-are_known.branch [
      | then-not-are_known+in_ok-add w ↦ subst (λ s. IsSome (place_of s.tree k)) (sym w.self-is) is_in
      | else-not-are_known w ↦ subst (λ s. IsSome (place_of s.tree k)) (sym w.self-is) is_in
    ]
