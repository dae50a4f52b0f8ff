-- The command in the way is that of the history.
use Rattle.std.proofs.Common.{None, ap, ◌∙◌}
use Rattle.cg_model.specs.Live.{live}
use Rattle.cg_model.specs.Opens.{opens}
use Rattle.cg_txn.specs.Clashing.{told_clash}
use Rattle.cg_core.specs.InTheWay.{in_the_way}
use Rattle.cg_core.proofs.HolderFound.{some_in_the_way, way_found, way_none}
use Rattle.cg_core.proofs.machine.Core.in_the_way.Goals as goal

pub returns-in-Some-clause-value : goal.returns-in-Some-clause-value
returns-in-Some-clause-value c =
    let h = c.self.inside.history.0 in
    c.clashing.ensures
    ∙ way_found c.self.inside.opening (λ t. live t h) c.args.holder.0 c.args.footprint.now c.self.inside.open (opens h) c.self.invariant.transactions c.in-Some.txn.now c.in-Some.ensures
    ∙ ap (λ v. in_the_way v c.args.holder.0 c.args.footprint.now) c.self.view_is

pub returns-in-Some-clause-some : goal.returns-in-Some-clause-some
returns-in-Some-clause-some c =
    let h = c.self.inside.history.0 in
    some_in_the_way told_clash c.clashing.result c.args.self.now c.args.holder.0 c.args.footprint.now
    (c.clashing.ensures
    ∙ way_found c.self.inside.opening (λ t. live t h) c.args.holder.0 c.args.footprint.now c.self.inside.open (opens h) c.self.invariant.transactions c.in-Some.txn.now c.in-Some.ensures
    ∙ ap (λ v. in_the_way v c.args.holder.0 c.args.footprint.now) c.self.view_is)

pub returns-in-None-clause-value : goal.returns-in-None-clause-value
returns-in-None-clause-value c =
    let h = c.self.inside.history.0 in
    way_none c.self.inside.opening (λ t. live t h) c.args.holder.0 c.args.footprint.now c.self.inside.open (opens h) c.self.invariant.transactions c.in-None.ensures
    ∙ ap (λ v. in_the_way v c.args.holder.0 c.args.footprint.now) c.self.view_is

pub returns-in-None-clause-some : goal.returns-in-None-clause-some
returns-in-None-clause-some c =
    let h = c.self.inside.history.0 in
    some_in_the_way told_clash None c.args.self.now c.args.holder.0 c.args.footprint.now
    (way_none c.self.inside.opening (λ t. live t h) c.args.holder.0 c.args.footprint.now c.self.inside.open (opens h) c.self.invariant.transactions c.in-None.ensures
    ∙ ap (λ v. in_the_way v c.args.holder.0 c.args.footprint.now) c.self.view_is)
