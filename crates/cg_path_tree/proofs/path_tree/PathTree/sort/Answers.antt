-- The nodes, each with the text of its path.
use Rattle.std.proofs.Common.{◌≡◌, get_or, sym, subst, ◌∙◌, arith}
use Rattle.std.proofs.lemmas.Option.{slice_get-get_or}
use Rattle.std.proofs.lemmas.Result.{IfOk-weaker}
use Rattle.cg_path_tree.specs.Nodes.{ArePassing}
use Rattle.cg_path_tree.specs.Listing.{texts_of, keys_in}
use Rattle.cg_path_tree.proofs.Listing.{passing_in_order, take_all, StandOnce}
use Rattle.cg_path_tree.proofs.path_tree.PathTree.sort.Goals as goal

pub text_of-requires : goal.text_of-requires
text_of-requires g c =
    let nodes = c.args.nodes.now in
    let node = get_or nodes c.loop-node.node-index (record { 0 = 0 }) in
    c.requires.live c.loop-node.node-index node (slice_get-get_or nodes c.loop-node.node-index (record { 0 = 0 }) c.loop-node-test.true)

pub returns : goal.returns
returns g c =
    let nodes = c.args.nodes.now in
    let es = texts_of c.loop-node.found.items in
    let all : keys_in es ≡ nodes = c.loop-node.invariant.keys ∙ take_all c.loop-node.node-index nodes (omega arith) in
    IfOk-weaker c.in_order.result _ _ (λ ks order test passing.
    passing_in_order c.args.self.now.keys test es ks.items c.laws.ensures.one_path c.loop-node.invariant.texts
    (subst StandOnce (sym all) c.requires.once) order (subst (ArePassing c.args.self.now.keys test) (sym all) passing)) c.in_order.ensures
