-- The text of the node's path is that of the path.
use Rattle.std.proofs.Common.{sym, ap, subst, ◌∙◌}
use Rattle.cg_maps.specs.FiniteMap.{get}
use Rattle.cg_name.specs.Packed.{names_in, IsPacked}
use Rattle.cg_path_tree.proofs.path_tree.PathTree.path.Goals as goal

pub new-requires : goal.new-requires
new-requires g c = subst IsPacked (sym c.as_bytes.ensures.value) c.text_of.ensures.packed

pub returns : goal.returns
returns g c = ap (get c.args.self.now.keys) (c.new.ensures ∙ ap names_in c.as_bytes.ensures.value) ∙ c.text_of.ensures.found
