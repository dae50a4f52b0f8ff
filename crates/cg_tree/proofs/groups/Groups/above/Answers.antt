-- The way from the deepest node above.
use Rattle.std.proofs.Common.{length, sym, subst, ap, ◌∙◌, arith}
use Rattle.cg_tree.specs.Ancestors.{ancestor_in, downward}
use Rattle.cg_tree.specs.Contents.{Contents}
use Rattle.cg_tree.specs.Upward.{going_up, IsDeepest}
use Rattle.cg_tree.proofs.Rising.{all_told, starts_below}
use Rattle.cg_tree.proofs.groups.Groups.above.Goals as goal

pub new-requires : goal.new-requires
new-requires c =
    let nodes = c.self.inside.nodes in
    let p = c.args.path.now in
    starts_below nodes c.laws.ensures.one_path p c.depth.result (omega (arith, c.depth.ensures.value)) c.deepest_above-at.result (subst (λ n. IsDeepest nodes p n c.deepest_above-at.result) (sym c.depth.ensures.value) c.deepest_above-at.ensures)

pub returns : goal.returns
returns c =
    let nodes = c.self.inside.nodes in
    let p = c.args.path.now in
    c.new.ensures
    ∙ ap (going_up nodes c.deepest_above-at.result) c.depth.ensures.value
    ∙ all_told nodes c.laws.ensures.closed c.laws.ensures.one_path c.laws.ensures.both c.self.invariant.counted p (length p) (omega arith) c.deepest_above-at.result c.deepest_above-at.ensures
    ∙ ap (λ (v : Contents). downward (ancestor_in v.groups p) (length p)) c.self.view_is
