-- Further above than the parent, which has no node.
use Rattle.std.proofs.Common.{sym, ◌∙◌}
use Rattle.cg_tree.proofs.Rising.{deepest_there, without_parent}
use Rattle.cg_tree.proofs.ancestors.deepest_above.Goals as goal

pub returns : goal.returns
returns c =
    deepest_there c.args.nodes.now c.args.path.now _ c.in_ok-key.key
    (without_parent c.args.nodes.now c.args.path.now c.in_ok-key.key _ c.laws.ensures.closed (sym c.is_root.ensures ∙ c.if-is_root.false)
    (sym (c.find_parent.ensures.value (sym c.is_root.ensures ∙ c.if-is_root.false)) ∙ c.in_default.is) c.in_ok-key.ensures.found c.in_ok-key.ensures.deepest)
