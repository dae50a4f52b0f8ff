-- The way from the deepest node on the path.
use Rattle.std.proofs.Common.{◌≡◌, ◌+◌, suc, length, sym, subst, ap, ◌∙◌, arith}
use Rattle.cg_tree.specs.Ancestors.{ancestor_in, downward}
use Rattle.cg_tree.specs.Contents.{Contents}
use Rattle.cg_tree.specs.Upward.{going_up, IsDeepest}
use Rattle.cg_tree.proofs.Rising.{all_told, starts_below}
use Rattle.cg_tree.proofs.groups.Groups.ancestors.Goals as goal

pub new-requires : goal.new-requires
new-requires c =
    let nodes = c.self.inside.nodes in
    let p = c.args.path.now in
    let all : c.deepest-at.result.1 + 1 ≡ suc (length p) = omega (arith, c.deepest-at.ensures.depth) in
    starts_below nodes c.laws.ensures.one_path p (c.deepest-at.result.1 + 1) (omega (arith, all)) c.deepest-at.result.0 (subst (λ n. IsDeepest nodes p n c.deepest-at.result.0) (sym all) c.deepest-at.ensures.node)

pub returns : goal.returns
returns c =
    let nodes = c.self.inside.nodes in
    let p = c.args.path.now in
    let all : c.deepest-at.result.1 + 1 ≡ suc (length p) = omega (arith, c.deepest-at.ensures.depth) in
    c.new.ensures
    ∙ ap (going_up nodes c.deepest-at.result.0) all
    ∙ all_told nodes c.laws.ensures.closed c.laws.ensures.one_path c.laws.ensures.both c.self.invariant.counted p (suc (length p)) (omega arith) c.deepest-at.result.0 c.deepest-at.ensures.node
    ∙ ap (λ (v : Contents). downward (ancestor_in v.groups p) (suc (length p))) c.self.view_is
