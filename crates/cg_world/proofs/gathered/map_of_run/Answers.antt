use Rattle.std.proofs.Common.{ap, sym, subst, ◌∙◌}
use Rattle.std.specs.BTreeMap.{IsFromIterResult}
use Rattle.std.proofs.lemmas.List.{map-id}
use Rattle.std.proofs.lemmas.Iterator.Adapters.{YieldsList-from_vec}
use Rattle.cg_world.proofs.Hints.{items_from_inner}
use Rattle.cg_world.proofs.Runs.{view-made}
use Rattle.cg_world.proofs.gathered.map_of_run.Goals as goal

pub returns : goal.returns
returns g c = λ same.
    let es = c.args.run.items in
    let h = c.in_ok-map.ensures.ran in
    let yields = YieldsList-from_vec es c.into_iter.ensures.rest (c.into_iter.ensures.len ∙ c.args.run.ok.0) in
    let all = sym (map-id h.1) ∙ items_from_inner h.0 (λ s. s.items) c.into_iter.result h.1 es (ap (λ s. s.items) h.2) h.3 yields in
    view-made g.met.K.Ord.total same es c.in_ok-map.map c.requires (subst (λ xs. IsFromIterResult g.K.Ord.cmp xs c.in_ok-map.map) all h.4)
