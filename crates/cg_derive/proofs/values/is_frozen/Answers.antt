-- Each group on the way is asked.
use Rattle.std.proofs.Common.{◌&&◌, nat_lt, rules, ◌∙◌}
use Rattle.std.proofs.lemmas.Iterator.Consumers.{YieldsList-from_first}
use Rattle.std.proofs.lemmas.Iterator.Search.{any_from_yields_List}
use Rattle.cg_model.specs.Derived.{has_freeze}
use Rattle.cg_tree.specs.declared.ancestors.Ancestor.{Ancestor}
use Rattle.cg_tree.specs.Ancestors.{ancestors}
use Rattle.cg_derive.proofs.Way.{frozen_upward}
use Rattle.cg_derive.proofs.values.is_frozen.Goals as goal

pub returns : goal.returns
returns c =
    any_from_yields_List (λ (a : Ancestor). nat_lt 0 a.depth && has_freeze a.settings) _ _ c.any.result c.any.ensures.ran
    (YieldsList-from_first (λ a. a) (λ rest. rest) (ancestors c.args.tree.now.tree c.args.path.now) c.ancestors.ensures) (search rules)
    ∙ frozen_upward c.args.tree.now.tree c.args.path.now
