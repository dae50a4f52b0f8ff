-- Some process has the number of the path's node.
use Rattle.std.proofs.Common.{ap, sym, arith, ◌∙◌}
use Rattle.cg_maps.specs.FiniteMap.{get, keys, is_nonempty, retain}
use Rattle.cg_model.specs.Derived.{is_in}
use Rattle.cg_places.specs.Located.{pids_of}
use Rattle.cg_tree.specs.Contents.{Contents}
use Rattle.cg_tree.proofs.Numbering.{nobody_there, some_in, theirs}
use Rattle.cg_tree.proofs.groups.Groups.has_processes.Goals as goal

pub is_empty-requires : goal.is_empty-requires
is_empty-requires c = omega (arith, c.number.ensures, c.self.invariant.numbers c.in-Some.key (c.args.path.now, sym c.in-Some.ensures))

pub returns-in-Some : goal.returns-in-Some
returns-in-Some c =
    some_in c.self.inside.places.places c.number.result c.is_empty.result c.is_empty.ensures
    ∙ ap (λ n. is_nonempty (pids_of c.self.inside.places.places n)) c.number.ensures
    ∙ ap is_nonempty (theirs c.self.inside.nodes.keys c.laws.ensures.one_path c.self.inside.places.places c.self.invariant.placed c.args.path.now c.in-Some.key (sym c.in-Some.ensures))
    ∙ ap (λ (v : Contents). is_nonempty (keys (retain v.places (λ k. is_in c.args.path.now (get v.places k))))) c.self.view_is

pub returns-in-None : goal.returns-in-None
returns-in-None c =
    ap is_nonempty (sym (nobody_there c.self.inside.nodes.keys c.laws.ensures.one_path c.self.inside.places.places c.self.invariant.placed c.args.path.now (sym c.in-None.ensures)))
    ∙ ap (λ (v : Contents). is_nonempty (keys (retain v.places (λ k. is_in c.args.path.now (get v.places k))))) c.self.view_is
