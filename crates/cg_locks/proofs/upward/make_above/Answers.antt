-- A node more each turn.
use Rattle.std.proofs.Common.{◌≡◌, ◌+◌, ◌<◌, suc, length, take, Some, ap, subst, ◌∙◌, arith}
use Rattle.cg_maps.specs.FiniteMap.{set_at}
use Rattle.cg_locks.proofs.HeldMaps.{alike_then}
use Rattle.cg_locks.proofs.Missing.{next_last, next_missing, next_reached, AreMissing, IsLast, IsReached}
use Rattle.cg_locks.proofs.upward.make_above.Goals as goal

pub loop-depth-preserved : goal.loop-depth-preserved
loop-depth-preserved c =
    let d = c.loop-depth.depth in
    let p = c.args.path.now in
    let short : d < length p = omega (arith, c.loop-depth-test.true, c.depth-end.ensures.value) in
    let next : suc d ≡ d + 1 = omega arith in
    let put : c.put.new.nodes.keys ≡ set_at c.loop-depth.nodes.keys (take d p) (Some c.in_ok-put.field-0) = c.in_ok-put.ensures.keys ∙ ap (λ q. set_at c.loop-depth.nodes.keys q (Some c.in_ok-put.field-0)) c.in_ok-above.ensures in
    record {
      held = alike_then c.args.nodes.now.values c.loop-depth.nodes.values c.put.new.nodes.values c.loop-depth.invariant.held c.in_ok-put.ensures.held;
      missing = subst (AreMissing c.put.new.nodes.keys p) next (next_missing c.loop-depth.nodes.keys c.put.new.nodes.keys p d c.in_ok-put.field-0 short put c.loop-depth.invariant.missing);
      reached = subst (IsReached c.put.new.nodes.keys p) next (next_reached c.loop-depth.nodes.keys c.put.new.nodes.keys p d c.in_ok-put.field-0 short put);
      last = subst (λ n. IsLast c.put.new.nodes.keys p n (Some c.in_ok-put.field-0)) next (next_last c.loop-depth.nodes.keys c.put.new.nodes.keys p d c.in_ok-put.field-0 short put);
    }
