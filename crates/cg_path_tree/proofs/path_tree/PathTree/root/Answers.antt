-- The node of no names is the root's, wherever its key stands.
use Rattle.std.proofs.Common.{slice_get, Some, sym, ap, subst, ◌∙◌}
use Rattle.std.specs.Option.{option_copied}
use Rattle.cg_path_tree.specs.Linked.{entries_of, node_in}
use Rattle.cg_path_tree.specs.Nodes.{IsKey}
use Rattle.cg_path_tree.proofs.Ordered.{keys-keyed, entry_stands}
use Rattle.cg_path_tree.proofs.Seen.{first_is_root, entry_found, key_of_entry}
use Rattle.cg_path_tree.proofs.path_tree.PathTree.root.Goals as goal

pub depth-requires : goal.depth-requires
depth-requires g c =
    let at = ap (λ ks. slice_get ks 0) (sym c.deref.ensures.value) ∙ sym c.first.ensures.value ∙ ap option_copied c.in-Some.is in
    let e = entry_stands (entries_of c.self.inside.nodes c.self.inside.order.items) c.self.inside.order.items (keys-keyed (node_in c.self.inside.nodes) c.self.inside.order.items) 0 c.in-Some.first.now at in
    subst (IsKey c.args.self.now.keys) e.2 (key_of_entry (entries_of c.self.inside.nodes c.self.inside.order.items) c.self.inside.nodes c.self.invariant.linked c.args.self.now c.self.view_is 0 e.0 e.1)

pub returns-then-depth-eq0 : goal.returns-then-depth-eq0
returns-then-depth-eq0 g c =
    let at = ap (λ ks. slice_get ks 0) (sym c.deref.ensures.value) ∙ sym c.first.ensures.value ∙ ap option_copied c.in-Some.is in
    let e = entry_stands (entries_of c.self.inside.nodes c.self.inside.order.items) c.self.inside.order.items (keys-keyed (node_in c.self.inside.nodes) c.self.inside.order.items) 0 c.in-Some.first.now at in
    let found = entry_found (entries_of c.self.inside.nodes c.self.inside.order.items) c.self.inside.nodes c.self.invariant.linked c.args.self.now c.self.view_is 0 e.0 e.1 in
    ap Some (sym e.2) ∙ first_is_root (entries_of c.self.inside.nodes c.self.inside.order.items) c.self.inside.nodes c.self.invariant.linked c.args.self.now c.self.view_is e.0.0 e.0.1 e.1 (sym (c.depth.ensures e.0.0 (found ∙ ap Some e.2)) ∙ c.if-depth-eq0.true)
