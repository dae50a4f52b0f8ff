use Rattle.std.proofs.Common.{◌≡◌, sym, ap, ◌∙◌}
use Rattle.cg_maps.specs.FiniteMap.{get, from_entries}
use Rattle.cg_maps.proofs.TreeMaps.{get-view}
use Rattle.cg_world.specs.Gathered.{entries_of}
use Rattle.cg_world.proofs.Places.{some_maps}
use Rattle.cg_world.proofs.gathered.Gathered.find.Goals as goal

pub returns-in-Map-clause-value : goal.returns-in-Map-clause-value
returns-in-Map-clause-value g c =
    let R = g.K.Ord.cmp in
    let entries : c.in-Map.map.entries ≡ c.args.self.now = ap entries_of (sym c.in-Map.is) ∙ c.self.view_is in
    some_maps _ (λ e. e.1.now) c.get_key_value.result (get (from_entries R c.args.self.now) c.args.key.now)
    (λ same. c.get_key_value.ensures.value ∙ sym (get-view g.met.K.Ord.total same c.in-Map.map c.args.key.now) ∙ ap (λ es. get (from_entries R es) c.args.key.now) entries)
