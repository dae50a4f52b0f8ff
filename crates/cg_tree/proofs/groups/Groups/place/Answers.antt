-- The path of the node with the number of the process's group.
use Rattle.std.proofs.Common.{◌≡◌, Some, ap, sym, option_map, ◌∙◌}
use Rattle.cg_maps.specs.FiniteMap.{get}
use Rattle.cg_tree.specs.Contents.{numbered, path_numbered, Contents}
use Rattle.cg_tree.proofs.Numbering.{numbered_path}
use Rattle.cg_tree.proofs.Seeing.{get-seen}
use Rattle.cg_tree.proofs.groups.Groups.place.Goals as goal

pub returns-in_err-group : goal.returns-in_err-group
returns-in_err-group c =
    c.from_residual.ensures
    ∙ ap (option_map (path_numbered c.self.inside.nodes.keys)) c.in_err-group.ensures
    ∙ sym (get-seen (path_numbered c.self.inside.nodes.keys) c.self.inside.places.places c.args.pid)
    ∙ ap (λ (v : Contents). get v.places c.args.pid) c.self.view_is

pub returns : goal.returns
returns c =
    let key : c.new.result ≡ numbered c.in_ok-group.group = λ i. record { 0 = c.new.ensures i } in
    ap Some (sym (numbered_path c.self.inside.nodes.keys c.laws.ensures.one_path c.path.result c.in_ok-group.group (c.path.ensures ∙ ap Some key)))
    ∙ ap (option_map (path_numbered c.self.inside.nodes.keys)) c.in_ok-group.ensures
    ∙ sym (get-seen (path_numbered c.self.inside.nodes.keys) c.self.inside.places.places c.args.pid)
    ∙ ap (λ (v : Contents). get v.places c.args.pid) c.self.view_is
