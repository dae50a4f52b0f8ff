-- The node before the one that goes names the next of that, or the chain begins with it.
use Rattle.std.proofs.Common.{◌≡◌, ◌<◌, length, Some, option_map, set, refl, sym, ap, subst, ◌∙◌, arith}
use Rattle.std.proofs.lemmas.Option.{slice_get_within}
use Rattle.slab.specs.Slab as slab
use Rattle.cg_path_tree.specs.Chains.{Link, link_of, link_in, slot_in, AreChained}
use Rattle.cg_path_tree.proofs.Chaining.{head_at}
use Rattle.cg_path_tree.proofs.Linking.{same_key, other_key}
use Rattle.cg_path_tree.proofs.ListChanges.{same_some}
use Rattle.cg_path_tree.proofs.Unchaining.{chained-first, chained-behind, is_behind}
use Rattle.cg_path_tree.proofs.Views.{link_at, link_slot, links-updates, same_views, written_at}
use Rattle.cg_path_tree.proofs.chains.unlink.Goals as goal

pub index-node-requires : goal.index-node-requires
index-node-requires g c =
    let r = c.requires.chained in
    let e = r.1.each c.args.key r.2 in
    link_slot c.args.nodes.now c.args.key c.number.result c.number.ensures e.own e.there

pub slot_of-slot-requires : goal.slot_of-slot-requires
slot_of-slot-requires g c =
    let heads = c.args.heads.now.items in
    let r = c.requires.chained in
    let e = r.1.each c.args.key r.2 in
    let low : slot_in (length heads) e.own.hash < length heads = slice_get_within heads (slot_in (length heads) e.own.hash) e.head e.begins in
    let many : c.len.result ≡ length heads = c.len.ensures ∙ c.args.heads.now.ok.0 in
    omega arith

pub returns-then-eq-clause-chained : goal.returns-then-eq-clause-chained
returns-then-eq-clause-chained g c ks left a at are =
    let nodes = c.args.nodes.now in
    let heads = c.args.heads.now.items in
    let n = c.index-node.result.now in
    let there = link_at nodes c.args.key c.number.result n c.number.ensures c.index-node.ensures in
    let head = head_at heads c.len.result n.hash c.slot_of-slot.result c.index.result.now (c.len.ensures ∙ c.args.heads.now.ok.0) c.slot_of-slot.ensures.value c.slot_of-slot.ensures.within c.index.ensures in
    subst (λ s. AreChained left (set heads s n.next) (link_in nodes)) (sym head.0)
    (chained-first ks heads (link_in nodes) a c.args.key at (link_of n) there left are c.index.result.now head.1 (same_key c.index.result.now c.args.key c.eq.result c.eq.ensures c.if-eq.true))

pub find_before-before-requires : goal.find_before-before-requires
find_before-before-requires g c =
    let nodes = c.args.nodes.now in
    let heads = c.args.heads.now.items in
    let n = c.index-node.result.now in
    let r = c.requires.chained in
    let there = link_at nodes c.args.key c.number.result n c.number.ensures c.index-node.ensures in
    let head = head_at heads c.len.result n.hash c.slot_of-slot.result c.index.result.now (c.len.ensures ∙ c.args.heads.now.ok.0) c.slot_of-slot.ensures.value c.slot_of-slot.ensures.within c.index.ensures in
    is_behind r.0 heads (link_in nodes) r.1 c.args.key r.2 (link_of n) there c.index.result.now head.1 (other_key c.index.result.now c.args.key c.eq.result c.eq.ensures c.if-eq.false)

pub returns-clause-chained : goal.returns-clause-chained
returns-clause-chained g c ks left a at are =
    let nodes = c.args.nodes.now in
    let heads = c.args.heads.now.items in
    let n = c.index-node.result.now in
    let there = link_at nodes c.args.key c.number.result n c.number.ensures c.index-node.ensures in
    let head = head_at heads c.len.result n.hash c.slot_of-slot.result c.index.result.now (c.len.ensures ∙ c.args.heads.now.ok.0) c.slot_of-slot.ensures.value c.slot_of-slot.ensures.within c.index.ensures in
    let b = c.find_before-before.result in
    let o = c.index_mut-2.result.now in
    let m = record o { next = n.next } in
    let later = slab.with_value nodes c.number-2.result m in
    let up = written_at nodes b c.number-2.result o m c.number-2.ensures c.index_mut-2.ensures.value in
    let own = link_at nodes b c.number-2.result o c.number-2.ensures c.index_mut-2.ensures.value in
    chained-behind ks heads (link_in nodes) a c.args.key at (link_of n) there left are c.index.result.now head.1 (other_key c.index.result.now c.args.key c.eq.result c.eq.ensures c.if-eq.false)
    (link_in later) b c.find_before-before.ensures
    (λ l has. ap (option_map link_of) up.changed ∙ ap (λ (x : Link). Some (record { hash = x.hash; next = n.next })) (same_some (link_of o) l (sym own ∙ has)))
    (links-updates nodes later b (Some m) up)

pub returns-clause-same : goal.returns-clause-same
returns-clause-same g c =
    let nodes = c.args.nodes.now in
    let o = c.index_mut-2.result.now in
    let m = record o { next = c.index-node.result.now.next } in
    let b = c.find_before-before.result in
    let up = written_at nodes b c.number-2.result o m c.number-2.ensures c.index_mut-2.ensures.value in
    same_views nodes (slab.with_value nodes c.number-2.result m) b o m (ap (slab.get nodes) (sym c.number-2.ensures) ∙ c.index_mut-2.ensures.value) up refl
