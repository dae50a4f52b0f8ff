use Rattle.std.proofs.Common.{sym, subst, ◌∙◌}
use Rattle.std.specs.Map.Iter.{deref_pair}
use Rattle.std.proofs.lemmas.Map.Iter.{rest_more, rest_all}
use Rattle.cg_tree.proofs.Unlimited.{AllUnlimited, unlimited_listed}
use Rattle.cg_tree.proofs.limits.have_limit.Goals as goal

pub loop-settings-init : goal.loop-settings-init
loop-settings-init c = λ all. subst AllUnlimited c.into_iter-settings-iterator.ensures.into_iter_gives.0 all

pub loop-settings-preserved : goal.loop-settings-preserved
loop-settings-preserved c = λ rest.
    c.loop-settings.invariant (subst AllUnlimited (sym (rest_more deref_pair _ _ _ _ c.in-Some.is c.next.ensures.steps)) (record { descendants = sym c.max_descendants.ensures ∙ c.is_limited.ensures.descendants c.if-is_limited.false; depth = sym c.max_depth.ensures ∙ c.is_limited.ensures.depth c.if-is_limited.false }, rest))

pub returns : goal.returns
returns c = λ no. unlimited_listed c.args.listed.now.entries (c.loop-settings.invariant (subst AllUnlimited (sym (rest_all deref_pair _ _ _ c.in-None.is c.next.ensures.steps)) tt))
