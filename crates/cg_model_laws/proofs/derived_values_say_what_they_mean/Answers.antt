use Rattle.cg_model_laws.proofs.Values as values
use Rattle.cg_model_laws.proofs.derived_values_say_what_they_mean.Goals as goal

pub returns : goal.returns
returns c = record {
  parents = values.parent_groups;
  below_root = values.values_below_root;
  populated = values.populated_below;
  frozen = values.frozen_above;
  effective_root = values.effective_of_root;
  effective_child = values.effective_of_child;
  effective_cpuset = values.effective_needs_cpuset;
  none = values.no_values;
}
