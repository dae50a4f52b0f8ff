-- Each group above is asked.
use Rattle.std.proofs.Common.{rules, sym, ◌∙◌}
use Rattle.std.proofs.lemmas.Iterator.Consumers.{YieldsList-from_first}
use Rattle.std.proofs.lemmas.Iterator.Search.{any_from_yields_List}
use Rattle.cg_model.specs.Groups.{reaches_descendants}
use Rattle.cg_tree.specs.declared.ancestors.Ancestor.{Ancestor}
use Rattle.cg_tree.specs.Ancestors.{ancestors_above}
use Rattle.cg_command.proofs.Above.{asked_of_descendants, not_many}
use Rattle.cg_command.proofs.limits.too_many.Goals as goal

pub returns : goal.returns
returns c =
    any_from_yields_List (λ (a : Ancestor). reaches_descendants a.settings a.descendants) _ _ c.any.result c.any.ensures.ran
    (YieldsList-from_first (λ a. a) (λ rest. rest) (ancestors_above c.args.tree.now.tree c.args.path.now) c.above.ensures) (search rules)
    ∙ asked_of_descendants c.args.tree.now.tree c.args.path.now

pub returns-then-not-may_limit : goal.returns-then-not-may_limit
returns-then-not-may_limit c = sym (not_many c.args.tree.now.tree (c.may_limit.ensures c.if-not-may_limit.true) c.args.path.now)
