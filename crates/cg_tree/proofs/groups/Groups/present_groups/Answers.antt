use Rattle.std.proofs.Common.{ap, ◌∙◌}
use Rattle.cg_maps.specs.FiniteMap.{entries}
use Rattle.cg_tree.specs.Contents.{Contents}
use Rattle.cg_tree.specs.Present.{present}
use Rattle.cg_tree.proofs.NodeLists.{all_keys, listed_all}
use Rattle.cg_tree.proofs.groups.Groups.present_groups.Goals as goal

pub new-requires : goal.new-requires
new-requires c = all_keys c.self.inside.nodes c.in_ok-keys.keys.items c.in_ok-keys.ensures

pub returns : goal.returns
returns c = c.new.ensures ∙ listed_all c.self.inside.nodes c.laws.ensures.both c.in_ok-keys.keys.items c.in_ok-keys.ensures ∙ ap (λ g. entries (present g)) (ap (λ (v : Contents). v.groups) c.self.view_is)
