-- The processes with the number of the path's node.
use Rattle.std.proofs.Common.{◌≡◌, IfOk, ap, sym, subst, arith, ◌∙◌}
use Rattle.cg_maps.specs.FiniteMap.{get, keys, retain}
use Rattle.cg_model.specs.Derived.{is_in}
use Rattle.cg_places.specs.Located.{pids_of}
use Rattle.cg_tree.specs.Contents.{Contents}
use Rattle.cg_tree.proofs.Numbering.{nobody_there, theirs}
use Rattle.cg_tree.proofs.groups.Groups.processes.Goals as goal

pub pids_in-requires : goal.pids_in-requires
pids_in-requires c = omega (arith, c.number.ensures, c.self.invariant.numbers c.in-Some.key (c.args.path.now, sym c.in-Some.ensures))

pub returns-in-Some : goal.returns-in-Some
returns-in-Some c =
    subst (λ ks. IfOk c.pids_in.result (λ pids. pids.items ≡ ks))
    (ap (pids_of c.self.inside.places.places) c.number.ensures
    ∙ theirs c.self.inside.nodes.keys c.laws.ensures.one_path c.self.inside.places.places c.self.invariant.placed c.args.path.now c.in-Some.key (sym c.in-Some.ensures)
    ∙ ap (λ (v : Contents). keys (retain v.places (λ k. is_in c.args.path.now (get v.places k)))) c.self.view_is)
    c.pids_in.ensures

pub returns-in-None : goal.returns-in-None
returns-in-None c =
    c.new.ensures.items
    ∙ sym (nobody_there c.self.inside.nodes.keys c.laws.ensures.one_path c.self.inside.places.places c.self.invariant.placed c.args.path.now (sym c.in-None.ensures))
    ∙ ap (λ (v : Contents). keys (retain v.places (λ k. is_in c.args.path.now (get v.places k)))) c.self.view_is
