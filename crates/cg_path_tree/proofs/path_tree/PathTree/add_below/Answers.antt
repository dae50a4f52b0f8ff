-- A node goes in at a path that has none, first in its chain, and its parent lists it.
use Rattle.std.proofs.Common.{Some, IsSome, refl, sym, ap, subst, ◌∙◌}
use Rattle.cg_maps.specs.FiniteMap.{from_entries, set_at}
use Rattle.cg_name.specs.Path.{path_cmp}
use Rattle.cg_path_tree.specs.Chains.{text_hash, path_hash, link_in, SameLinks, AreChained}
use Rattle.cg_path_tree.specs.LastFound.{IsTrueOf}
use Rattle.cg_path_tree.specs.Linked.{entries_of, node_in}
use Rattle.cg_path_tree.proofs.Chaining.{links-kept}
use Rattle.cg_path_tree.proofs.Coming.{kept_still, parent_there, parent_room, is_fresh, seen_more, kept_more}
use Rattle.cg_path_tree.proofs.LastFound.{true_of_absent, true_of_seen}
use Rattle.cg_path_tree.proofs.Listing.{all_live, all_once}
use Rattle.cg_path_tree.proofs.Ordered.{keys-keyed}
use Rattle.cg_path_tree.proofs.Seen.{key_there, parent_key_there}
use Rattle.cg_path_tree.proofs.path_tree.PathTree.add_below.Goals as goal

pub make_chains-requires : goal.make_chains-requires
make_chains-requires g c =
    let order = c.deref.result.now in
    let keys = keys-keyed (node_in c.self.inside.nodes) c.self.inside.order.items ∙ sym c.deref.ensures.value in
    record {
      chained = subst (λ ks. AreChained ks c.self.inside.heads.items (link_in c.self.inside.nodes)) (sym c.deref.ensures.value) c.self.invariant.chained;
      there = λ j k at. key_there (entries_of c.self.inside.nodes c.self.inside.order.items) c.self.inside.nodes c.self.invariant.linked c.args.self.now c.self.view_is k (all_live (entries_of c.self.inside.nodes c.self.inside.order.items) c.self.inside.nodes c.self.invariant.linked c.args.self.now c.self.view_is order keys j k at);
      once = all_once (entries_of c.self.inside.nodes c.self.inside.order.items) c.self.inside.nodes c.self.invariant.linked c.args.self.now c.self.view_is order keys;
    }

pub invariant_of-self-in_default-make_chains : goal.invariant_of-self-in_default-make_chains
invariant_of-self-in_default-make_chains g c =
    kept_still c.self.inside.order.items c.self.inside.order.items c.self.inside.nodes c.make_chains.new.nodes c.self.invariant.linked refl c.make_chains.ensures.same c.make_chains.new.heads.items c.turn_to.new.self
    (subst (λ ks. AreChained ks c.make_chains.new.heads.items (link_in c.make_chains.new.nodes)) c.deref.ensures.value c.make_chains.ensures.chained)
    (c.turn_to.ensures.still (from_entries path_cmp (entries_of c.self.inside.nodes c.self.inside.order.items))
    (true_of_absent (entries_of c.self.inside.nodes c.self.inside.order.items) c.self.inside.nodes c.args.self.now c.args.path.now c.args.parent c.self.view_is c.requires.absent c.requires.root c.requires.parent) c.self.invariant.last)

pub make_room-requires : goal.make_room-requires
make_room-requires g c = record {
  there = λ k is.
      subst IsSome (sym (c.make_chains.ensures.same k)) (parent_key_there (entries_of c.self.inside.nodes c.self.inside.order.items) c.self.inside.nodes c.self.invariant.linked c.args.self.now c.self.view_is c.args.path.now c.args.parent c.requires.root c.requires.parent k is);
}

pub invariant_of-self-in_default-make_room : goal.invariant_of-self-in_default-make_room
invariant_of-self-in_default-make_room g c =
    kept_still c.self.inside.order.items c.self.inside.order.items c.self.inside.nodes c.make_room.new.nodes c.self.invariant.linked refl (λ k. c.make_room.ensures.same k ∙ c.make_chains.ensures.same k) c.make_chains.new.heads.items c.turn_to.new.self
    (links-kept c.make_chains.new.heads.items c.self.inside.order.items c.make_chains.new.nodes c.make_room.new.nodes c.make_room.ensures.links (subst (λ ks. AreChained ks c.make_chains.new.heads.items (link_in c.make_chains.new.nodes)) c.deref.ensures.value c.make_chains.ensures.chained))
    (c.turn_to.ensures.still (from_entries path_cmp (entries_of c.self.inside.nodes c.self.inside.order.items))
    (true_of_absent (entries_of c.self.inside.nodes c.self.inside.order.items) c.self.inside.nodes c.args.self.now c.args.path.now c.args.parent c.self.view_is c.requires.absent c.requires.root c.requires.parent) c.self.invariant.last)

pub invariant_of-self-in_default-enter : goal.invariant_of-self-in_default-enter
invariant_of-self-in_default-enter g c =
    let links : SameLinks c.make_chains.new.nodes c.enter.new.nodes = λ k. ap (λ s. link_in s k) c.in_default-enter.ensures.slots ∙ c.make_room.ensures.links k in
    kept_still c.self.inside.order.items c.enter.new.order.items c.self.inside.nodes c.enter.new.nodes c.self.invariant.linked c.in_default-enter.ensures.err (λ k. ap (λ s. node_in s k) c.in_default-enter.ensures.slots ∙ c.make_room.ensures.same k ∙ c.make_chains.ensures.same k) c.make_chains.new.heads.items c.turn_to.new.self
    (subst (λ ks. AreChained ks c.make_chains.new.heads.items (link_in c.enter.new.nodes)) (sym c.in_default-enter.ensures.err)
    (links-kept c.make_chains.new.heads.items c.self.inside.order.items c.make_chains.new.nodes c.enter.new.nodes links (subst (λ ks. AreChained ks c.make_chains.new.heads.items (link_in c.make_chains.new.nodes)) c.deref.ensures.value c.make_chains.ensures.chained)))
    (c.turn_to.ensures.still (from_entries path_cmp (entries_of c.self.inside.nodes c.self.inside.order.items))
    (true_of_absent (entries_of c.self.inside.nodes c.self.inside.order.items) c.self.inside.nodes c.args.self.now c.args.path.now c.args.parent c.self.view_is c.requires.absent c.requires.root c.requires.parent) c.self.invariant.last)

pub add_child-requires-clause-there : goal.add_child-requires-clause-there
add_child-requires-clause-there g c =
    parent_there c.self.inside.order.items c.self.inside.nodes c.self.invariant.linked c.args.self.now c.self.view_is c.args.path.now c.requires.absent c.requires.there
    c.make_chains.new.nodes c.make_room.new.nodes c.enter.new.nodes c.insert_reserved.new.self c.link.new.nodes c.make_chains.ensures.same c.make_room.ensures.same c.in-Ok-enter.ensures.slots
    c.in-Ok-enter.key c.in-Ok-enter.ensures.key c.in-Ok-enter.ensures.key_below c.in-Ok-enter.ensures.vacant c.insert_reserved.result c.insert_reserved.ensures.key _ c.insert_reserved.ensures.updates c.link.ensures.same c.link.ensures.rest
    c.in-Ok.ensures.value (c.hash_of.ensures ∙ ap text_hash c.text.ensures.text ∙ ap path_hash c.in-Ok.ensures.value) c.in-Ok-enter.ensures.entry c.in-Ok-enter.ensures.below c.depth_below-depth.ensures c.new.ensures.items
    c.args.parent c.requires.root c.requires.parent c.unwrap_or.ensures c.in-Ok-make_room.ensures.place c.in-Ok-make_room.ensures.below

pub add_child-requires-clause-room : goal.add_child-requires-clause-room
add_child-requires-clause-room g c k is =
    parent_room c.self.inside.order.items c.self.inside.nodes c.self.invariant.linked c.args.self.now c.self.view_is c.args.path.now c.requires.absent c.requires.there
    c.make_chains.new.nodes c.make_room.new.nodes c.enter.new.nodes c.insert_reserved.new.self c.link.new.nodes c.make_chains.ensures.same c.make_room.ensures.same c.in-Ok-enter.ensures.slots
    c.in-Ok-enter.key c.in-Ok-enter.ensures.key c.in-Ok-enter.ensures.key_below c.in-Ok-enter.ensures.vacant c.insert_reserved.result c.insert_reserved.ensures.key _ c.insert_reserved.ensures.updates c.link.ensures.same c.link.ensures.rest
    c.in-Ok.ensures.value (c.hash_of.ensures ∙ ap text_hash c.text.ensures.text ∙ ap path_hash c.in-Ok.ensures.value) c.in-Ok-enter.ensures.entry c.in-Ok-enter.ensures.below c.depth_below-depth.ensures c.new.ensures.items
    c.args.parent c.requires.root c.requires.parent c.unwrap_or.ensures c.in-Ok-make_room.ensures.place c.in-Ok-make_room.ensures.below k is (c.in-Ok-make_room.ensures.room k is)

pub invariant_of-self-2 : goal.invariant_of-self-2
invariant_of-self-2 g c =
    kept_more c.self.inside.order.items c.self.inside.nodes c.self.invariant.linked c.args.self.now c.self.view_is c.args.path.now c.requires.absent c.requires.there
    c.make_chains.new.nodes c.make_room.new.nodes c.enter.new.nodes c.insert_reserved.new.self c.link.new.nodes c.make_chains.ensures.same c.make_room.ensures.same c.in-Ok-enter.ensures.slots
    c.in-Ok-enter.key c.in-Ok-enter.ensures.key c.in-Ok-enter.ensures.key_below c.in-Ok-enter.ensures.vacant c.insert_reserved.result c.insert_reserved.ensures.key _ c.insert_reserved.ensures.updates c.link.ensures.same c.link.ensures.rest
    c.in-Ok.ensures.value (c.hash_of.ensures ∙ ap text_hash c.text.ensures.text ∙ ap path_hash c.in-Ok.ensures.value) c.in-Ok-enter.ensures.entry c.in-Ok-enter.ensures.below c.depth_below-depth.ensures c.new.ensures.items
    c.args.parent c.requires.root c.requires.parent c.unwrap_or.ensures c.in-Ok-make_room.ensures.place c.in-Ok-make_room.ensures.below
    c.add_child.new.nodes c.add_child.ensures.none c.add_child.ensures.some c.enter.new.order.items c.in-Ok-enter.ensures.keys
    c.make_chains.new.heads.items c.link.new.heads.items (subst (λ ks. AreChained ks c.make_chains.new.heads.items (link_in c.make_chains.new.nodes)) c.deref.ensures.value c.make_chains.ensures.chained)
    c.make_room.ensures.links c.link.ensures.chained c.add_child.ensures.links c.gain.new.self
    (subst (λ q. IsTrueOf (set_at c.args.self.now.keys q (Some c.in-Ok-enter.key)) c.gain.new.self) c.in-Ok-turn_to.ensures.path
    (c.gain.ensures c.args.self.now.keys (true_of_seen (entries_of c.self.inside.nodes c.self.inside.order.items) c.self.inside.nodes c.args.self.now c.turn_to.new.self c.self.view_is
    (c.turn_to.ensures.still (from_entries path_cmp (entries_of c.self.inside.nodes c.self.inside.order.items))
    (true_of_absent (entries_of c.self.inside.nodes c.self.inside.order.items) c.self.inside.nodes c.args.self.now c.args.path.now c.args.parent c.self.view_is c.requires.absent c.requires.root c.requires.parent) c.self.invariant.last))))

pub returns-clause-keys : goal.returns-clause-keys
returns-clause-keys g c =
    ap (λ t. t.keys)
    (seen_more c.self.inside.order.items c.self.inside.nodes c.self.invariant.linked c.args.self.now c.self.view_is c.args.path.now c.requires.absent c.requires.there
    c.make_chains.new.nodes c.make_room.new.nodes c.enter.new.nodes c.insert_reserved.new.self c.link.new.nodes c.make_chains.ensures.same c.make_room.ensures.same c.in-Ok-enter.ensures.slots
    c.in-Ok-enter.key c.in-Ok-enter.ensures.key c.in-Ok-enter.ensures.key_below c.in-Ok-enter.ensures.vacant c.insert_reserved.result c.insert_reserved.ensures.key _ c.insert_reserved.ensures.updates c.link.ensures.same c.link.ensures.rest
    c.in-Ok.ensures.value (c.hash_of.ensures ∙ ap text_hash c.text.ensures.text ∙ ap path_hash c.in-Ok.ensures.value) c.in-Ok-enter.ensures.entry c.in-Ok-enter.ensures.below c.depth_below-depth.ensures c.new.ensures.items
    c.args.parent c.requires.root c.requires.parent c.unwrap_or.ensures c.in-Ok-make_room.ensures.place c.in-Ok-make_room.ensures.below
    c.add_child.new.nodes c.add_child.ensures.none c.add_child.ensures.some c.enter.new.order.items c.in-Ok-enter.ensures.keys)

pub returns-clause-values : goal.returns-clause-values
returns-clause-values g c =
    ap (λ t. t.values)
    (seen_more c.self.inside.order.items c.self.inside.nodes c.self.invariant.linked c.args.self.now c.self.view_is c.args.path.now c.requires.absent c.requires.there
    c.make_chains.new.nodes c.make_room.new.nodes c.enter.new.nodes c.insert_reserved.new.self c.link.new.nodes c.make_chains.ensures.same c.make_room.ensures.same c.in-Ok-enter.ensures.slots
    c.in-Ok-enter.key c.in-Ok-enter.ensures.key c.in-Ok-enter.ensures.key_below c.in-Ok-enter.ensures.vacant c.insert_reserved.result c.insert_reserved.ensures.key _ c.insert_reserved.ensures.updates c.link.ensures.same c.link.ensures.rest
    c.in-Ok.ensures.value (c.hash_of.ensures ∙ ap text_hash c.text.ensures.text ∙ ap path_hash c.in-Ok.ensures.value) c.in-Ok-enter.ensures.entry c.in-Ok-enter.ensures.below c.depth_below-depth.ensures c.new.ensures.items
    c.args.parent c.requires.root c.requires.parent c.unwrap_or.ensures c.in-Ok-make_room.ensures.place c.in-Ok-make_room.ensures.below
    c.add_child.new.nodes c.add_child.ensures.none c.add_child.ensures.some c.enter.new.order.items c.in-Ok-enter.ensures.keys)

pub returns-clause-fresh : goal.returns-clause-fresh
returns-clause-fresh g c =
    is_fresh c.self.inside.order.items c.self.inside.nodes c.self.invariant.linked c.args.self.now c.self.view_is c.args.path.now c.requires.absent c.requires.there
    c.make_chains.new.nodes c.make_room.new.nodes c.enter.new.nodes c.insert_reserved.new.self c.link.new.nodes c.make_chains.ensures.same c.make_room.ensures.same c.in-Ok-enter.ensures.slots
    c.in-Ok-enter.key c.in-Ok-enter.ensures.key c.in-Ok-enter.ensures.key_below c.in-Ok-enter.ensures.vacant c.insert_reserved.result c.insert_reserved.ensures.key _ c.insert_reserved.ensures.updates c.link.ensures.same c.link.ensures.rest
    c.in-Ok.ensures.value (c.hash_of.ensures ∙ ap text_hash c.text.ensures.text ∙ ap path_hash c.in-Ok.ensures.value) c.in-Ok-enter.ensures.entry c.in-Ok-enter.ensures.below c.depth_below-depth.ensures c.new.ensures.items
    c.args.parent c.requires.root c.requires.parent c.unwrap_or.ensures c.in-Ok-make_room.ensures.place c.in-Ok-make_room.ensures.below
