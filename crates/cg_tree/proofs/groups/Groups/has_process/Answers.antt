use Rattle.std.proofs.Common.{is_some, ap, sym, ◌∙◌}
use Rattle.cg_maps.specs.FiniteMap.{get}
use Rattle.cg_tree.specs.Contents.{path_numbered, Contents}
use Rattle.cg_tree.proofs.Seeing.{there-seen}
use Rattle.cg_tree.proofs.groups.Groups.has_process.Goals as goal

pub returns : goal.returns
returns c =
    c.has.ensures
    ∙ sym (there-seen (path_numbered c.self.inside.nodes.keys) c.self.inside.places.places c.args.pid)
    ∙ ap (λ (v : Contents). is_some (get v.places c.args.pid)) c.self.view_is
