-- The process's group has the number of the path's node.
use Rattle.std.proofs.Common.{◌==◌, ap, sym, ◌∙◌}
use Rattle.cg_maps.specs.FiniteMap.{get}
use Rattle.cg_model.specs.Derived.{is_in}
use Rattle.cg_places.specs.Located.{is_group}
use Rattle.cg_tree.specs.Contents.{Contents}
use Rattle.cg_tree.specs.Contents.{path_numbered}
use Rattle.cg_tree.proofs.Numbering.{in_by_number, in_none}
use Rattle.cg_tree.proofs.Seeing.{get-seen}
use Rattle.std.proofs.Common.{option_map}
use Rattle.cg_tree.proofs.groups.Groups.is_at.Goals as goal

pub returns-in_default : goal.returns-in_default
returns-in_default c =
    ap (λ w. is_in c.args.path.now (option_map (path_numbered c.self.inside.nodes.keys) w)) c.in_default.ensures
    ∙ ap (is_in c.args.path.now) (sym (get-seen (path_numbered c.self.inside.nodes.keys) c.self.inside.places.places c.args.pid))
    ∙ ap (λ (v : Contents). is_in c.args.path.now (get v.places c.args.pid)) c.self.view_is

pub returns-in-Some-find : goal.returns-in-Some-find
returns-in-Some-find c =
    ap (λ n. n == c.in-Some.group) c.number.ensures
    ∙ ap (is_group c.in-Some-find.key.0) c.in-Some.ensures
    ∙ sym (in_by_number c.self.inside.nodes.keys c.laws.ensures.one_path c.self.inside.places.places c.self.invariant.placed c.args.path.now c.in-Some-find.key (sym c.in-Some-find.ensures) c.args.pid)
    ∙ ap (λ (v : Contents). is_in c.args.path.now (get v.places c.args.pid)) c.self.view_is

pub returns-in-None : goal.returns-in-None
returns-in-None c =
    sym (in_none c.self.inside.nodes.keys c.laws.ensures.one_path c.self.inside.places.places c.self.invariant.placed c.args.path.now (sym c.in-None.ensures) c.args.pid)
    ∙ ap (λ (v : Contents). is_in c.args.path.now (get v.places c.args.pid)) c.self.view_is
