-- Another setting leaves the controllers.
use Rattle.std.proofs.Common.{Some, sym, ap, ◌∙◌}
use Rattle.cg_tree.specs.NewValue.{with_new}
use Rattle.cg_tree.specs.Passing.{control_of}
use Rattle.cg_tree.proofs.Writing.{same_control}
use Rattle.cg_tree.proofs.new_value.NewValue.control.Goals as goal

pub returns-in-Control : goal.returns-in-Control
returns-in-Control c = ap (λ n. control_of (with_new n (Some c.args.settings.now))) (sym c.in-Control.is)

pub returns-in_default : goal.returns-in_default
returns-in_default c = c.control.ensures ∙ same_control c.args.self.now (Some c.args.settings.now) c.in_default.not-Control
