use Rattle.std.proofs.Common.{◌≡◌, Some}
use Rattle.std.proofs.lemmas.Result.{IfOk-weaker}
use Rattle.cg_maps.specs.FiniteMap.{get, set_at}
use Rattle.cg_locks.proofs.Keys.{key_found}
use Rattle.cg_locks.proofs.upward.make.Goals as goal

pub returns-then-is_some-clause-key : goal.returns-then-is_some-clause-key
returns-then-is_some-clause-key c =
    IfOk-weaker c.put.result (λ k. c.put.new.nodes.keys ≡ set_at c.args.nodes.now.keys c.args.path.now (Some k)) (λ k. get c.put.new.nodes.keys c.args.path.now ≡ Some k) (λ k set. key_found c.args.nodes.now.keys c.put.new.nodes.keys c.args.path.now k set) c.put.ensures.keys

pub returns-clause-key : goal.returns-clause-key
returns-clause-key c =
    IfOk-weaker c.put-2.result (λ k. c.put-2.new.nodes.keys ≡ set_at c.make_above.new.nodes.keys c.args.path.now (Some k)) (λ k. get c.put-2.new.nodes.keys c.args.path.now ≡ Some k)
    (λ k set. key_found c.make_above.new.nodes.keys c.put-2.new.nodes.keys c.args.path.now k set) c.put-2.ensures.keys
