-- The names are taken from the front.
use Rattle.std.proofs.Common.{map, ap, subst, sym, arith}
use Rattle.std.proofs.lemmas.List.{drop_all}
use Rattle.cg_world_text.specs.Statement.{AddsControllers}
use Rattle.cg_world_text.proofs.Adding.{next_word, next_round, no_round, all_taken, at_err}
use Rattle.cg_world_text.proofs.parts.read_controllers.Goals as goal

pub loop-name-init : goal.loop-name-init
loop-name-init c = λ all.
    ((λ h. subst (λ s. AddsControllers s (map (λ w. w.now) c.args.names.now) all) (sym c.empty-set.ensures) h), (λ h. subst (λ s. AddsControllers s (map (λ w. w.now) c.args.names.now) all) c.empty-set.ensures h))

pub loop-name-preserved : goal.loop-name-preserved
loop-name-preserved c = λ all.
    next_round _ c.loop-name.set c.add_controller.new.set _ _ _ all (next_word c.args.names.now c.loop-name.name-index (omega arith)) c.in_ok-add_controller.ensures.value (c.loop-name.invariant all)

pub returns-in_err-add_controller-clause-syntax : goal.returns-in_err-add_controller-clause-syntax
returns-in_err-add_controller-clause-syntax c =
    at_err c.from_residual.result (λ all. no_round _ c.loop-name.set _ _ _ all (next_word c.args.names.now c.loop-name.name-index (omega arith)) c.in_err-add_controller.ensures.syntax (c.loop-name.invariant all))

pub returns-clause-value : goal.returns-clause-value
returns-clause-value c = all_taken _ c.loop-name.set _ (ap (map (λ w. w.now)) (drop_all c.loop-name.name-index c.args.names.now (omega arith))) (c.loop-name.invariant c.loop-name.set)
