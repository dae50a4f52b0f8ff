-- Each group above is asked.
use Rattle.std.proofs.Common.{◌-◌, rules, sym, ◌∙◌}
use Rattle.std.proofs.lemmas.Iterator.Consumers.{YieldsList-from_first}
use Rattle.std.proofs.lemmas.Iterator.Search.{any_from_yields_List}
use Rattle.cg_model.specs.Groups.{exceeds_depth}
use Rattle.cg_tree.specs.declared.ancestors.Ancestor.{Ancestor}
use Rattle.cg_tree.specs.Ancestors.{ancestors_above}
use Rattle.cg_command.proofs.Above.{asked_of_depth, not_deep}
use Rattle.cg_command.proofs.limits.too_deep.Goals as goal

pub returns : goal.returns
returns c =
    any_from_yields_List (λ (a : Ancestor). exceeds_depth a.settings (c.depth-depth.result - a.depth)) _ _ c.any.result c.any.ensures.ran
    (YieldsList-from_first (λ a. a) (λ rest. rest) (ancestors_above c.args.tree.now.tree c.args.path.now) c.above.ensures) (search rules)
    ∙ asked_of_depth c.args.tree.now.tree c.args.path.now c.depth-depth.result c.depth-depth.ensures.value

pub returns-then-not-may_limit : goal.returns-then-not-may_limit
returns-then-not-may_limit c = sym (not_deep c.args.tree.now.tree (c.may_limit.ensures c.if-not-may_limit.true) c.args.path.now)
