use Rattle.std.proofs.Common.{◌≡◌, ◌∷◌, Some, sym, ap, subst, ◌∙◌}
use Rattle.std.specs.List.{AllByRecursion}
use Rattle.std.specs.Cmp.{nat_cmp_total}
use Rattle.std.specs.FinMap.{nat_cmp-IsAntisymmetric}
use Rattle.cg_maps.specs.FiniteMap.{empty, get, set_at}
use Rattle.cg_maps.proofs.Maps.{each_entry}
use Rattle.cg_world.proofs.Trees.{with_places}
use Rattle.cg_world.proofs.Puts.{puts, puts-entries}
use Rattle.cg_tree.proofs.worlds.add_places.Goals as goal

pub loop-pid-init : goal.loop-pid-init
loop-pid-init c =
    let all = c.into_iter-pid-iterator.ensures.into_iter_gives ∙ c.places-pid-items.ensures in
    let m = c.args.from.now.tree.places in
    record {
      places =
          ap (λ n. with_places c.args.tree.now (puts n c.into_iter-pid-iterator.result)) c.requires
          ∙ ap (λ es. with_places c.args.tree.now (puts empty es)) all
          ∙ ap (with_places c.args.tree.now) (puts-entries nat_cmp_total nat_cmp-IsAntisymmetric m);
      there = subst (AllByRecursion (λ e. get m e.0 ≡ Some e.1)) (sym all) (each_entry nat_cmp_total m);
    }

pub set_place-requires : goal.set_place-requires
set_place-requires c =
    let m = c.args.from.now.tree.places in
    let rest : AllByRecursion (λ e. get m e.0 ≡ Some e.1) ((c.in-Some.pid, c.in-Some.path) ∷ c.next.new.self) = subst (AllByRecursion (λ e. get m e.0 ≡ Some e.1)) c.in-Some.ensures.steps c.loop-pid.invariant.there in
    (c.groups.ensures.rooted.valid.processes c.in-Some.pid c.in-Some.path rest.0).0

pub loop-pid-preserved : goal.loop-pid-preserved
loop-pid-preserved c = record {
  places =
      ap (λ T. with_places T (puts T.places c.next.new.self)) c.in_ok-set_place.ensures.ok
      ∙ ap (λ p. with_places c.loop-pid.tree (puts (set_at c.loop-pid.tree.places c.in-Some.pid (Some p)) c.next.new.self)) c.in_ok-to_path.ensures
      ∙ ap (λ es. with_places c.loop-pid.tree (puts c.loop-pid.tree.places es)) (sym c.in-Some.ensures.steps)
      ∙ c.loop-pid.invariant.places;
  there = (subst (AllByRecursion (λ e. get c.args.from.now.tree.places e.0 ≡ Some e.1)) c.in-Some.ensures.steps c.loop-pid.invariant.there).1;
}

pub returns : goal.returns
returns c = ap (λ es. with_places c.loop-pid.tree (puts c.loop-pid.tree.places es)) (sym c.in-None.ensures.steps.0) ∙ c.loop-pid.invariant.places
