use Rattle.std.proofs.Common.{ap, ◌∙◌}
use Rattle.cg_maps.specs.FiniteMap.{get}
use Rattle.cg_path_tree.proofs.path_tree.PathTree.find_anew.Goals as goal

pub returns : goal.returns
returns g c = c.find_text.ensures ∙ ap (get c.args.self.now.keys) c.text.ensures.value
