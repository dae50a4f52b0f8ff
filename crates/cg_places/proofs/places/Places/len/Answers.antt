use Rattle.std.proofs.Common.{◌<◌, length, map, sym, ap, ◌∙◌, arith}
use Rattle.std.proofs.lemmas.List.{length-map}
use Rattle.cg_maps.specs.FiniteMap.{len}
use Rattle.cg_places.specs.Located.{Located}
use Rattle.cg_places.specs.Seats.{who}
use Rattle.cg_places.proofs.Placing.{once}
use Rattle.cg_places.proofs.Ordering.{len-from_once}
use Rattle.cg_places.proofs.places.Places.len.Goals as goal

pub returns-clause-value : goal.returns-clause-value
returns-clause-value c =
    let t = c.self.inside in
    c.len.ensures ∙ t.processes.ok.0 ∙ sym (length-map t.processes.items who) ∙ sym (len-from_once (map who t.processes.items) (once t.numbers.entries t.processes.items t.cells.items t.stacks.items c.self.invariant))
    ∙ ap (λ (v : Located). len v.places) c.self.view_is

pub returns-clause-few : goal.returns-clause-few
returns-clause-few c = let few : length c.self.inside.processes.items < 4294967295 = c.self.invariant.few in omega (arith, c.len.ensures, c.self.inside.processes.ok.0)
