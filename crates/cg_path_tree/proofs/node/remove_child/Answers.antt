-- The child that got the place is another node than the parent, and is there.
use Rattle.std.proofs.Common.{◌≡◌, Some, IsSome, get_or, swap_remove, sym, ap, subst, ◌∙◌}
use Rattle.std.proofs.lemmas.Option.{slice_get-get_or}
use Rattle.cg_path_tree.specs.Linked.{node_in, Writes}
use Rattle.cg_path_tree.proofs.ListChanges.{same_some}
use Rattle.cg_path_tree.proofs.Views.{some_there, takes}
use Rattle.cg_path_tree.proofs.node.remove_child.Goals as goal

pub set_place-requires : goal.set_place-requires
set_place-requires g c =
    let k = c.in-Some.key in
    let n = some_there _ (c.requires.there k c.in-Some.is) in
    let at = slice_get-get_or n.0.children c.args.place k (c.requires.listed k n.0 c.in-Some.is n.1) in
    let d = c.in-Some-take_child.moved in
    let child = get_or n.0.children c.args.place k in
    let moved = sym (c.in-Some-take_child.ensures.moved n.0 child n.1 at) in
    let other = c.requires.others k d n.0 child c.in-Some.is n.1 at moved in
    subst IsSome (sym ((c.in-Some-take_child.ensures.taken n.0 child n.1 at).others d other.0)) other.1

pub returns-in-Some-take_child-clause-some : goal.returns-in-Some-take_child-clause-some
returns-in-Some-take_child-clause-some g c k n child is there at =
    let own : c.in-Some.key ≡ k = same_some c.in-Some.key k (sym c.in-Some.is ∙ is) in
    let d = c.in-Some-take_child.moved in
    let there' = ap (node_in c.args.nodes.now) own ∙ there in
    let moved = sym (c.in-Some-take_child.ensures.moved n child there' at) in
    let other = c.requires.others k d n child is there at moved in
    let m = some_there (node_in c.args.nodes.now d) other.1 in
    let taken = subst (λ x. Writes c.args.nodes.now c.take_child.new.nodes x (Some (record n { children = swap_remove n.children c.args.place child }))) own (c.in-Some-take_child.ensures.taken n child there' at) in
    takes c.args.nodes.now c.take_child.new.nodes c.set_place.new.nodes k d n m.0 (swap_remove n.children c.args.place child) c.args.place other.0 taken moved m.1 c.set_place.ensures.value
