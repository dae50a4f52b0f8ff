-- The walk along the chain for the text's hash comes to the node of its path, if there is one.
use Rattle.std.proofs.Common.{length, option_map, slice_get, sym, ap, ◌∙◌}
use Rattle.std.specs.Option.{option_copied}
use Rattle.std.proofs.lemmas.Bool.{eqb-true}
use Rattle.slab.specs.Slab as slab
use Rattle.cg_path_tree.specs.Chains.{link_of, link_in, slot_in}
use Rattle.cg_path_tree.proofs.Chaining.{head_at, search_none, search_far, search_on}
use Rattle.cg_path_tree.proofs.Searching.{Sought, none_found, search_starts, no_heads, found_so, other_text, other_hash}
use Rattle.cg_path_tree.proofs.Views.{link_at}
use Rattle.cg_path_tree.proofs.path_tree.PathTree.find_text.Goals as goal
use Rattle.cg_path_tree.proofs.path_tree.PathTree.find_text.Goals.{else-node-hash-via-then-node-hash+else-eq, else-node-hash-via-else-node-hash}

pub returns-then-is_empty : goal.returns-then-is_empty
returns-then-is_empty g c =
    sym (none_found c.self.inside.order.items c.self.inside.nodes c.self.invariant.linked c.args.self.now c.self.view_is c.args.text.now c.requires (no_heads c.self.inside.order.items c.self.inside.nodes c.self.invariant.linked c.args.self.now c.self.view_is c.args.text.now c.requires c.self.inside.heads.items c.self.invariant.chained (sym c.self.inside.heads.ok.0 ∙ eqb-true _ 0 (sym c.is_empty.ensures ∙ c.if-is_empty.true))))

pub loop-init : goal.loop-init
loop-init g c =
    let heads = c.self.inside.heads.items in
    let head = head_at heads c.len.result c.hash_of-hash.result c.slot_of.result c.index-at.result.now (c.len.ensures ∙ c.self.inside.heads.ok.0) c.slot_of.ensures.value c.slot_of.ensures.within c.index-at.ensures in
    search_starts c.self.inside.order.items c.self.inside.nodes c.self.invariant.linked c.args.self.now c.self.view_is c.args.text.now c.requires heads c.self.invariant.chained c.index-at.result.now (ap (λ h. slice_get heads (slot_in (length heads) h)) (sym c.hash_of-hash.ensures) ∙ head.1)

pub returns-in_default : goal.returns-in_default
returns-in_default g c =
    sym (none_found c.self.inside.order.items c.self.inside.nodes c.self.invariant.linked c.args.self.now c.self.view_is c.args.text.now c.requires (search_none c.self.inside.order.items (link_in c.self.inside.nodes) c.loop.at c.loop.counter (Sought c.self.inside.nodes c.args.text.now) c.loop.invariant (ap (option_map link_of) (ap (slab.get c.self.inside.nodes) (sym c.number.ensures) ∙ sym c.get.ensures ∙ ap option_copied c.in_default.is))))

pub returns-then-eq : goal.returns-then-eq
returns-then-eq g c =
    sym (found_so c.self.inside.order.items c.self.inside.nodes c.self.invariant.linked c.args.self.now c.self.view_is c.args.text.now c.requires c.loop.at c.number.result c.in-Some.node.now c.number.ensures (sym c.get.ensures ∙ ap option_copied c.in-Some.is) c.as_str.result.now c.eq.result c.as_str.ensures.value c.as_str.ensures.valid c.eq.ensures c.if-eq.true)

pub loop-preserved : goal.loop-preserved
loop-preserved g c =
    let own = link_at c.self.inside.nodes c.loop.at c.number.result c.in-Some.node.now c.number.ensures (sym c.get.ensures ∙ ap option_copied c.in-Some.is) in
    elim c.else-node-hash.branch [
      | else-node-hash-via-then-node-hash+else-eq w ↦
          search_on c.self.inside.order.items (link_in c.self.inside.nodes) c.loop.at c.loop.counter (Sought c.self.inside.nodes c.args.text.now) c.loop.invariant c.self.invariant.chained.ends (link_of c.in-Some.node.now) own
          (other_text c.self.inside.order.items c.self.inside.nodes c.self.invariant.linked c.args.self.now c.self.view_is c.args.text.now c.requires c.loop.at c.number.result c.in-Some.node.now c.number.ensures (sym c.get.ensures ∙ ap option_copied c.in-Some.is) w.as_str.result.now w.eq.result w.as_str.ensures.value w.eq.ensures w.if-eq.false)
      | else-node-hash-via-else-node-hash w ↦
          search_on c.self.inside.order.items (link_in c.self.inside.nodes) c.loop.at c.loop.counter (Sought c.self.inside.nodes c.args.text.now) c.loop.invariant c.self.invariant.chained.ends (link_of c.in-Some.node.now) own
          (other_hash c.self.inside.order.items c.self.inside.nodes c.self.invariant.linked c.args.self.now c.self.view_is c.args.text.now c.requires c.loop.at c.number.result c.in-Some.node.now c.number.ensures (sym c.get.ensures ∙ ap option_copied c.in-Some.is) (λ same. w.if-node-hash.false (same ∙ sym c.hash_of-hash.ensures)))
    ]

pub returns : goal.returns
returns g c = sym (none_found c.self.inside.order.items c.self.inside.nodes c.self.invariant.linked c.args.self.now c.self.view_is c.args.text.now c.requires (search_far c.self.inside.order.items (link_in c.self.inside.nodes) c.loop.at c.loop.counter (Sought c.self.inside.nodes c.args.text.now) c.loop.invariant c.loop-test.false))
