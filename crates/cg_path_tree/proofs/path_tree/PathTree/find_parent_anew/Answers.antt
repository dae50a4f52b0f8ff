use Rattle.std.proofs.Common.{ap, ◌∙◌}
use Rattle.cg_maps.specs.FiniteMap.{get}
use Rattle.cg_path_tree.proofs.path_tree.PathTree.find_parent_anew.Goals as goal

pub returns-clause-value : goal.returns-clause-value
returns-clause-value g c deep = c.find_text.ensures ∙ ap (get c.args.self.now.keys) c.parent_text-text.ensures.value
