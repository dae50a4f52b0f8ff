-- A value is written at the path of its key, and nothing else.
use Rattle.std.proofs.Common.{Some, is_some, refl, sym, ap, subst, ◌∙◌}
use Rattle.slab.specs.Slab as slab
use Rattle.slab.proofs.SlabLemmas.{Updates-with_value}
use Rattle.cg_path_tree.specs.Nodes.{with_value}
use Rattle.cg_path_tree.specs.Linked.{entries_of, node_in, node_view}
use Rattle.cg_path_tree.proofs.Seen.{slot_there, value_at, have_one_path}
use Rattle.cg_path_tree.proofs.Changing.{linked-written, seen-written, path_of-is}
use Rattle.cg_path_tree.proofs.Chaining.{links-kept}
use Rattle.cg_path_tree.proofs.Ordered.{keys-keyed, kept_as, seen_as}
use Rattle.cg_path_tree.proofs.Views.{seen_at, writes-updates, written_at, same_links}
use Rattle.cg_path_tree.proofs.path_tree.PathTree.get_mut.Goals as goal

pub index_mut-requires : goal.index_mut-requires
index_mut-requires g c = slot_there (entries_of c.self.inside.nodes c.self.inside.order.items) c.self.inside.nodes c.self.invariant.linked c.args.self.now c.self.view_is c.args.key c.number.result c.number.ensures c.requires

pub invariant_of-self-lent : goal.invariant_of-self-lent
invariant_of-self-lent g c w =
    let nodes = c.self.inside.nodes in
    let n = c.index_mut.result.now in
    let at = seen_at nodes c.args.key c.number.result n c.number.ensures c.index_mut.ensures.value in
    let m = record n { value = w } in
    let later = slab.with_value nodes c.number.result m in
    let up = Updates-with_value nodes c.number.result m (ap is_some c.index_mut.ensures.value) in
    let writes = writes-updates nodes later c.args.key (Some m) (subst (λ i. slab.Updates nodes later i (Some m)) c.number.ensures up) in
    let linked = linked-written (entries_of c.self.inside.nodes c.self.inside.order.items) c.self.inside.nodes c.self.invariant.linked c.args.self.now c.self.view_is later c.requires.0 c.args.key (node_view n) (node_view m) c.requires.1 at writes refl refl refl refl refl refl in
    kept_as (entries_of c.self.inside.nodes c.self.inside.order.items) later c.self.inside.order.items linked (keys-keyed (node_in c.self.inside.nodes) c.self.inside.order.items) c.self.inside.heads.items c.self.inside.last
    (links-kept c.self.inside.heads.items c.self.inside.order.items nodes later (same_links nodes later c.args.key n m (ap (slab.get nodes) (sym c.number.ensures) ∙ c.index_mut.ensures.value) (written_at nodes c.args.key c.number.result n m c.number.ensures c.index_mut.ensures.value) refl) c.self.invariant.chained)
    c.self.invariant.last

pub returns : goal.returns
returns g c =
    let nodes = c.self.inside.nodes in
    let n = c.index_mut.result.now in
    let at = seen_at nodes c.args.key c.number.result n c.number.ensures c.index_mut.ensures.value in
    let one = have_one_path (entries_of c.self.inside.nodes c.self.inside.order.items) c.self.inside.nodes c.self.invariant.linked c.args.self.now c.self.view_is in (
      (
        refl,
        λ w.
            let m = record n { value = w } in
            let later = slab.with_value nodes c.number.result m in
            let up = Updates-with_value nodes c.number.result m (ap is_some c.index_mut.ensures.value) in
            let writes = writes-updates nodes later c.args.key (Some m) (subst (λ i. slab.Updates nodes later i (Some m)) c.number.ensures up) in
            let linked = linked-written (entries_of c.self.inside.nodes c.self.inside.order.items) c.self.inside.nodes c.self.invariant.linked c.args.self.now c.self.view_is later c.requires.0 c.args.key (node_view n) (node_view m) c.requires.1 at writes refl refl refl refl refl refl in
            seen_as (entries_of c.self.inside.nodes c.self.inside.order.items) later c.self.inside.order.items linked (keys-keyed (node_in c.self.inside.nodes) c.self.inside.order.items)
            ∙ seen-written (entries_of c.self.inside.nodes c.self.inside.order.items) c.self.inside.nodes c.self.invariant.linked c.args.self.now c.self.view_is later c.requires.0 c.args.key (node_view n) (node_view m) c.requires.1 at writes refl refl refl refl refl refl
            ∙ ap (λ p. with_value c.args.self.now p w) (sym (path_of-is c.args.self.now.keys c.args.key c.requires.0 one c.requires.1)),
      ),
      record {
        writes_back = tt;
        path = λ p h. path_of-is c.args.self.now.keys c.args.key p one h;
        value = λ p h. value_at (entries_of c.self.inside.nodes c.self.inside.order.items) c.self.inside.nodes c.self.invariant.linked c.args.self.now c.self.view_is p c.args.key (node_view n) h at;
      },
    )
