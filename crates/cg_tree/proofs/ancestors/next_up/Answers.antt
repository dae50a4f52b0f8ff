-- The node has so many names, or none on the way has.
use Rattle.std.proofs.Common.{◌≡◌, ◌≢◌, suc, length, Some, ◌∷◌, ap, sym, ◌∙◌, arith}
use Rattle.cg_path_tree.specs.declared.node.NodeKey.{NodeKey}
use Rattle.cg_tree.specs.Entries.{path_at}
use Rattle.cg_tree.specs.Upward.{going_up}
use Rattle.cg_tree.proofs.Rising.{no_node, none_here, not_so_deep, own_told, parent_below, rest_told, still_below, there}
use Rattle.cg_tree.proofs.ancestors.next_up.Goals as goal
use Rattle.cg_tree.proofs.ancestors.next_up.Goals.{in-Some+else-depth, in_default}

pub depth-requires : goal.depth-requires
depth-requires c = (c.requires c.in-Some.key c.in-Some.is).0

pub parent-requires : goal.parent-requires
parent-requires c = (c.requires c.in-Some.key c.in-Some.is).0

pub get-entry-requires : goal.get-entry-requires
get-entry-requires c = (c.requires c.in-Some.key c.in-Some.is).0

pub returns-then-depth-clause-below : goal.returns-then-depth-clause-below
returns-then-depth-clause-below c =
    let nodes = c.args.nodes.now in
    let key = (c.requires c.in-Some.key c.in-Some.is).0 in
    let at = there nodes c.laws.ensures.one_path c.in-Some.key key c.parent.result c.parent.ensures.root c.parent.ensures.value in
    parent_below nodes c.laws.ensures.one_path c.in-Some.key key c.parent.result c.parent.ensures.root c.parent.ensures.value c.in_ok-depth.depth (sym (c.depth.ensures _ at) ∙ c.if-depth.true)

pub returns-then-depth-clause-value : goal.returns-then-depth-clause-value
returns-then-depth-clause-value c =
    let nodes = c.args.nodes.now in
    let d = c.in_ok-depth.depth in
    let more : c.args.left.now ≡ suc d = omega (arith, c.in_ok-depth.ensures.0, c.in_ok-depth.ensures.1) in
    let key = (c.requires c.in-Some.key c.in-Some.is).0 in
    let at = there nodes c.laws.ensures.one_path c.in-Some.key key c.parent.result c.parent.ensures.root c.parent.ensures.value in
    let long = sym (c.depth.ensures _ at) ∙ c.if-depth.true in
    let own = own_told nodes c.laws.ensures.one_path c.in-Some.key key c.parent.result c.parent.ensures.root c.parent.ensures.value c.get-entry.result.now d long (c.get-entry.ensures _ at) in
    let rest = rest_told nodes c.laws.ensures.one_path c.in-Some.key key c.parent.result c.parent.ensures.root c.parent.ensures.value d long in
    ap (going_up nodes c.args.at.now) more ∙ ap (λ w. going_up nodes w (suc d)) c.in-Some.is ∙ (λ i. own i ∷ rest i) ∙ (λ i. record { depth = d; settings = sym c.as_ref.ensures.value i; descendants = c.get-entry.result.now.below } ∷ going_up nodes c.parent.result d)

absent : (c : goal.Joined-at) → (l : NodeKey) → c.args.at.now ≡ Some l → length (path_at c.args.nodes.now l) ≢ c.in_ok-depth.depth
absent c = elim c.match-at.branch [
  | in-Some+else-depth w ↦ not_so_deep c.args.nodes.now c.laws.ensures.one_path c.args.at.now w.in-Some.key w.depth.result c.in_ok-depth.depth w.in-Some.is (c.requires w.in-Some.key w.in-Some.is).0 w.depth.ensures w.if-depth.false
  | in_default w ↦ no_node c.args.nodes.now c.args.at.now c.in_ok-depth.depth w.in_default.is
]

pub returns-clause-below : goal.returns-clause-below
returns-clause-below c =
    let more : c.args.left.now ≡ suc c.in_ok-depth.depth = omega (arith, c.in_ok-depth.ensures.0, c.in_ok-depth.ensures.1) in
    still_below c.args.nodes.now c.args.at.now c.in_ok-depth.depth c.args.left.now more c.requires (absent c)

pub returns-clause-value : goal.returns-clause-value
returns-clause-value c =
    let nodes = c.args.nodes.now in
    let d = c.in_ok-depth.depth in
    let more : c.args.left.now ≡ suc d = omega (arith, c.in_ok-depth.ensures.0, c.in_ok-depth.ensures.1) in
    let here = none_here nodes c.args.at.now d (still_below nodes c.args.at.now d c.args.left.now more c.requires (absent c)) in
    ap (going_up nodes c.args.at.now) more ∙ ap (λ a. a ∷ going_up nodes c.args.at.now d) here
