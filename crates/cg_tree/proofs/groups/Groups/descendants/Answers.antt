-- Where there is no entry, nothing is below.
use Rattle.std.proofs.Common.{◌≡◌, None, is_some, take, ap, sym, ◌∙◌}
use Rattle.cg_maps.specs.FiniteMap.{get}
use Rattle.cg_name.specs.Path.{is_above}
use Rattle.cg_tree.specs.Contents.{Contents}
use Rattle.cg_tree.specs.Entries.{group_count}
use Rattle.cg_tree.proofs.Putting.{none_counted_below}
use Rattle.cg_tree.proofs.groups.Groups.descendants.Goals as goal

pub returns-in-None : goal.returns-in-None
returns-in-None c =
    let q = take c.args.depth c.args.path.now in
    let none : None ≡ get c.self.inside.nodes.values q = c.in-None.ensures in
    sym (none_counted_below c.self.inside.nodes c.laws.ensures.closed c.laws.ensures.both q (sym (c.laws.ensures.both q) ∙ ap is_some (sym none)))
    ∙ ap (λ g. group_count g (is_above q)) (ap (λ (v : Contents). v.groups) c.self.view_is)
