use Rattle.std.proofs.Common.{nat_eq, refl, sym, subst, ◌∙◌}
use Rattle.std.specs.List.{AllByRecursion}
use Rattle.std.specs.Cmp.Lexicographic.{pointwise}
use Rattle.std.proofs.lemmas.Option.{slice_get_read}
use Rattle.cg_maps.specs.FiniteMap.{from_entries}
use Rattle.cg_name.specs.Path.{path_cmp}
use Rattle.cg_name.specs.Order.{path_cmp_total, path_cmp_exact}
use Rattle.cg_world.specs.Soundness.{IsPlaceIn}
use Rattle.cg_world.proofs.Places.{all_inserted}
use Rattle.cg_world.proofs.Runs.{has_at}
use Rattle.cg_world.proofs.gathered_groups.allowed_of_run.Goals as goal
use Rattle.cg_world.proofs.gathered_groups.allowed_of_run.Goals.{then-may_have_processes+in_ok-copy+in_ok-insert, else-may_have_processes}

pub loop-path-init : goal.loop-path-init
loop-path-init c = subst (AllByRecursion (IsPlaceIn (from_entries path_cmp c.args.groups.now))) (sym c.in_ok-paths.ensures.empty) tt

pub loop-path-preserved : goal.loop-path-preserved
loop-path-preserved c = elim c.if-may_have_processes.branch [
  | then-may_have_processes+in_ok-copy+in_ok-insert w ↦
      let groups = from_entries path_cmp c.args.groups.now in
      let item = c.loop-path-item.result in
      let at = slice_get_read c.args.groups.now _ c.loop-path.path-index item refl c.loop-path-test.true c.loop-path-item.is in
      let place : IsPlaceIn groups item.0 = (item.1, has_at path_cmp_total path_cmp_exact c.args.groups.now c.loop-path.path-index item c.requires at, sym c.may_have_processes.ensures ∙ w.if-may_have_processes.true) in
      subst (λ s. AllByRecursion (IsPlaceIn groups) s.keys) (sym w.paths-is)
      (all_inserted (IsPlaceIn groups) (pointwise (pointwise nat_eq)) c.loop-path.paths.keys w.insert.new.self.keys w.in_ok-copy.field-0 w.in_ok-insert.ensures.keys c.loop-path.invariant (subst (IsPlaceIn groups) (sym w.in_ok-copy.ensures.value) place))
  | else-may_have_processes w ↦ subst (λ s. AllByRecursion (IsPlaceIn (from_entries path_cmp c.args.groups.now)) s.keys) (sym w.paths-is) c.loop-path.invariant
]
