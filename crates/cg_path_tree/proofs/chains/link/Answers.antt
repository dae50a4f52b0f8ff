-- The node goes first in its chain.
use Rattle.std.proofs.Common.{Some, option_map, set, refl, sym, ap, subst, ◌∙◌, ◌++◌, ◌∷◌, []}
use Rattle.slab.specs.Slab as slab
use Rattle.cg_path_tree.specs.Chains.{link_of, link_in, AreChained}
use Rattle.cg_path_tree.proofs.Chaining.{chained-linked, head_at}
use Rattle.cg_path_tree.proofs.Views.{other_number, links-updates, same_views, written_at}
use Rattle.cg_path_tree.proofs.chains.link.Goals as goal

pub returns-clause-same : goal.returns-clause-same
returns-clause-same g c =
    let nodes = c.args.nodes.now in
    let n = c.index_mut-node.result.now in
    let m = record n { next = c.index.result.now } in
    let up = written_at nodes c.args.key c.number.result n m c.number.ensures c.index_mut-node.ensures.value in
    same_views nodes (slab.with_value nodes c.number.result m) c.args.key n m (ap (slab.get nodes) (sym c.number.ensures) ∙ c.index_mut-node.ensures.value) up refl

pub returns-clause-rest : goal.returns-clause-rest
returns-clause-rest g c i ne =
    let n = c.index_mut-node.result.now in
    let m = record n { next = c.index.result.now } in
    (written_at c.args.nodes.now c.args.key c.number.result n m c.number.ensures c.index_mut-node.ensures.value).others i.0 (other_number i c.args.key ne)

pub returns-clause-chained : goal.returns-clause-chained
returns-clause-chained g c ks a absent =
    let nodes = c.args.nodes.now in
    let heads = c.args.heads.now.items in
    let n = c.index_mut-node.result.now in
    let m = record n { next = c.index.result.now } in
    let later = slab.with_value nodes c.number.result m in
    let up = written_at nodes c.args.key c.number.result n m c.number.ensures c.index_mut-node.ensures.value in
    let head = head_at heads c.len.result n.hash c.slot_of-slot.result c.index.result.now (c.len.ensures ∙ c.args.heads.now.ok.0) c.slot_of-slot.ensures.value c.slot_of-slot.ensures.within c.index.ensures in
    subst (λ s. AreChained (ks ++ c.args.key ∷ []) (set heads s c.args.key) (link_in later)) (sym head.0)
    (chained-linked ks heads (link_in nodes) (link_in later) a c.args.key (link_of n) c.index.result.now absent c.requires.below head.1 (ap (option_map link_of) up.changed) (links-updates nodes later c.args.key (Some m) up))
