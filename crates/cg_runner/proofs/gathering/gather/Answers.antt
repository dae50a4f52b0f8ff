use Rattle.std.proofs.Common.{◌≡◌, ◌+◌, [], ◌∷◌, List, Option, None, Some, replicate, map, sym, subst, ap, take, length, ◌∙◌, arith}
use Rattle.std.proofs.Math.Seq.{take-length}
use Rattle.std.proofs.lemmas.Result.{IfOk-weaker}
use Rattle.std.specs.List.{AllByRecursion}
use Rattle.cg_runner.specs.Workers.{told_by, AreEnds, ArePut}
use Rattle.cg_runner.specs.declared.end.ScriptEnd.{ScriptEnd}
use Rattle.cg_runner.specs.declared.worker.Worker.{Worker}
use Rattle.cg_runner.proofs.Each.{all_left, each_append, take_item}
use Rattle.cg_runner.proofs.Placing.{are_ends, put_more, told_behind}
use Rattle.cg_runner.proofs.gathering.gather.Goals as goal

-- what one worker more tells is put behind the rest
pub loop-worker-preserved : goal.loop-worker-preserved
loop-worker-preserved c =
    let i = c.loop-worker.worker-index in
    let workers = c.args.workers.now in
    let w = c.worker-item.result in
    let none : List (Option ScriptEnd) = replicate c.args.scripts None in
    let old = c.loop-worker.places.items in
    let new = c.put_all.new.places in
    let put : ArePut w.finished.items old new =
    subst (λ finished. ArePut finished old new) c.as_slice.ensures.value
    (subst (λ places. ArePut c.as_slice.result.now places new) c.as_mut_slice.ensures.value c.in_ok-put_all.ensures.put) in
    let all : ArePut (told_by (take (i + 1) workers)) none new =
    subst (λ finished. ArePut finished none new) (sym (told_behind workers i w c.loop-worker-test.true c.worker-item.is))
    (put_more (told_by (take i workers)) w.finished.items none old new c.loop-worker.invariant.0 put) in
    let P = λ (v : Worker). v.fault ≡ None in (
      subst (λ places. ArePut (told_by (take (i + 1) workers)) none places) (sym (all_left old new c.loop-worker.places.len put.length_is c.loop-worker.places.ok.0)) all,
      subst (AllByRecursion P) (sym (take_item workers i w c.loop-worker-test.true c.worker-item.is))
          (each_append P (take i workers) (w ∷ []) c.loop-worker.invariant.1 (c.in_default.is, tt)),
    )

-- all workers were gone through
pub returns-clause-ends : goal.returns-clause-ends
returns-clause-ends c =
    let workers = c.args.workers.now in
    let places = c.loop-worker.places.items in
    let none : List (Option ScriptEnd) = replicate c.args.scripts None in
    let all : c.loop-worker.worker-index ≡ length workers = omega arith in
    let whole : take c.loop-worker.worker-index workers ≡ workers = ap (λ k. take k workers) all ∙ take-length workers in
    let put : ArePut (told_by workers) none places = subst (λ ws. ArePut (told_by ws) none places) whole c.loop-worker.invariant.0 in
    IfOk-weaker c.ends_of.result (λ ends. map Some ends.items ≡ c.as_slice-2.result.now) (λ ends. AreEnds c.args.scripts (told_by workers) ends.items)
    (λ ends is. are_ends c.args.scripts (told_by workers) places ends.items put (is ∙ c.as_slice-2.ensures.value)) c.ends_of.ensures.ends
