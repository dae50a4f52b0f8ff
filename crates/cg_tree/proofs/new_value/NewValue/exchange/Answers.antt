-- The value that is matched is the new one.
use Rattle.std.proofs.Common.{sym, ap, ◌∙◌}
use Rattle.cg_model.specs.Key.{with_setting}
use Rattle.cg_tree.specs.declared.new_value.NewValue.TheVariants as vs
use Rattle.cg_tree.specs.NewValue.{field_of, value_of, value_there}
use Rattle.cg_tree.proofs.new_value.NewValue.exchange.Goals as goal

pub returns-in-Control-clause-settings : goal.returns-in-Control-clause-settings
returns-in-Control-clause-settings c = c.set_control.ensures ∙ ap (λ n. with_setting (field_of n) (value_of n) c.args.settings.now) (sym c.in-Control.is)

pub returns-in-Control-clause-before : goal.returns-in-Control-clause-before
returns-in-Control-clause-before c = ap vs.Control c.control-before.ensures ∙ ap (λ n. value_there n c.args.settings.now) (sym c.in-Control.is)

pub returns-in-Freeze-clause-settings : goal.returns-in-Freeze-clause-settings
returns-in-Freeze-clause-settings c = c.set_freeze.ensures ∙ ap (λ n. with_setting (field_of n) (value_of n) c.args.settings.now) (sym c.in-Freeze.is)

pub returns-in-Freeze-clause-before : goal.returns-in-Freeze-clause-before
returns-in-Freeze-clause-before c = ap vs.Freeze c.freeze-before.ensures ∙ ap (λ n. value_there n c.args.settings.now) (sym c.in-Freeze.is)

pub returns-in-Cpus-clause-settings : goal.returns-in-Cpus-clause-settings
returns-in-Cpus-clause-settings c = c.set_cpus.ensures.settings ∙ ap (λ n. with_setting (field_of n) (value_of n) c.args.settings.now) (sym c.in-Cpus.is)

pub returns-in-Cpus-clause-before : goal.returns-in-Cpus-clause-before
returns-in-Cpus-clause-before c = ap vs.Cpus c.set_cpus.ensures.before ∙ ap (λ n. value_there n c.args.settings.now) (sym c.in-Cpus.is)

pub returns-in-MaxDescendants-clause-settings : goal.returns-in-MaxDescendants-clause-settings
returns-in-MaxDescendants-clause-settings c = c.set_max_descendants.ensures ∙ ap (λ n. with_setting (field_of n) (value_of n) c.args.settings.now) (sym c.in-MaxDescendants.is)

pub returns-in-MaxDescendants-clause-before : goal.returns-in-MaxDescendants-clause-before
returns-in-MaxDescendants-clause-before c = ap vs.MaxDescendants c.max_descendants-before.ensures ∙ ap (λ n. value_there n c.args.settings.now) (sym c.in-MaxDescendants.is)

pub returns-in-MaxDepth-clause-settings : goal.returns-in-MaxDepth-clause-settings
returns-in-MaxDepth-clause-settings c = c.set_max_depth.ensures ∙ ap (λ n. with_setting (field_of n) (value_of n) c.args.settings.now) (sym c.in-MaxDepth.is)

pub returns-in-MaxDepth-clause-before : goal.returns-in-MaxDepth-clause-before
returns-in-MaxDepth-clause-before c = ap vs.MaxDepth c.max_depth-before.ensures ∙ ap (λ n. value_there n c.args.settings.now) (sym c.in-MaxDepth.is)
