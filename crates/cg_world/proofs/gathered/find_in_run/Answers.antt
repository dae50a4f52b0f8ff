use Rattle.std.proofs.Common.{◌<◌, length, rules, refl, sym, ap, ◌∙◌}
use Rattle.std.proofs.lemmas.Fn.{always_returns_same}
use Rattle.std.proofs.lemmas.Option.{slice_get_read}
use borrow.Author.Tests.{ltb-true}
use Rattle.cg_maps.specs.FiniteMap.{get, from_entries}
use Rattle.cg_world.proofs.Runs.{searched_is, has_at}
use Rattle.cg_world.proofs.gathered.find_in_run.Goals as goal

pub returns-clause-key : goal.returns-clause-key
returns-clause-key g c =
    let by = c.binary_search_by.ensures.position (λ e. g.K.Ord.cmp e.0 c.args.key.now) (always_returns_same _ _ _ (λ a r h called. search rules)) in
    λ same. same _ _ (searched_is g.K.Ord.cmp c.args.key.now c.args.run.now c.binary_search_by.result c.in_ok-index.index c.in_ok-found.field-0.now by (sym c.in_ok-index.ensures.value) c.in_ok-found.ensures.lookup.1)

pub returns-clause-value : goal.returns-clause-value
returns-clause-value g c =
    let within : c.in_ok-index.index < length c.args.run.now = ltb-true _ _ (sym c.in_ok-found.ensures.lookup.0) in
    let at = slice_get_read c.args.run.now _ c.in_ok-index.index c.in_ok-found.field-0.now refl within c.in_ok-found.ensures.lookup.1 in
    λ same. ap (get (from_entries g.K.Ord.cmp c.args.run.now)) (sym (returns-clause-key g c same)) ∙ has_at g.met.K.Ord.total same c.args.run.now c.in_ok-index.index c.in_ok-found.field-0.now c.requires at
