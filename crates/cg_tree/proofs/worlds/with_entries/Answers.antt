-- What is put in comes next of the world's groups, and its parent came before.
use Rattle.std.proofs.Common.{Some, sym, ap, subst, ◌∙◌}
use Rattle.std.specs.Map.Iter.{deref_pair}
use Rattle.std.proofs.lemmas.Map.Iter.{rest_more, rest_all}
use Rattle.cg_maps.specs.FiniteMap.{set_at}
use Rattle.cg_tree.proofs.WorldGroups.{IsPartOf, all_to_come, made_entries, made_groups, not_made, one_more, parent_made}
use Rattle.cg_tree.proofs.worlds.with_entries.Goals as goal

pub loop-path-init : goal.loop-path-init
loop-path-init c = record {
  part =
      subst (IsPartOf c.args.listed.now.entries c.new-made.result.groups) (sym c.into_iter-path-iterator.ensures.into_iter_gives.0)
      (all_to_come c.args.listed.now c.into_iter-path-iterator.ensures.into_iter_gives.5 c.new-made.result.groups c.new-made.ensures.groups);
  places = c.new-made.ensures.places;
}

pub insert-requires-clause-absent : goal.insert-requires-clause-absent
insert-requires-clause-absent c = not_made (subst (IsPartOf c.args.listed.now.entries c.loop-path.made.groups) (rest_more deref_pair _ _ _ _ c.in-Some.is c.next.ensures.steps) c.loop-path.invariant.part)

pub insert-requires-clause-parent : goal.insert-requires-clause-parent
insert-requires-clause-parent c = parent_made (subst (IsPartOf c.args.listed.now.entries c.loop-path.made.groups) (rest_more deref_pair _ _ _ _ c.in-Some.is c.next.ensures.steps) c.loop-path.invariant.part) c.requires

pub loop-path-preserved : goal.loop-path-preserved
loop-path-preserved c = record {
  part =
      one_more (subst (IsPartOf c.args.listed.now.entries c.loop-path.made.groups) (rest_more deref_pair _ _ _ _ c.in-Some.is c.next.ensures.steps) c.loop-path.invariant.part) c.insert.new.self.groups (c.in_ok-insert.ensures.ok ∙ ap (λ s. set_at c.loop-path.made.groups c.in-Some.path.now (Some (Some s))) c.in_ok-copy.ensures.value);
  places = c.insert.ensures.places ∙ c.loop-path.invariant.places;
}

pub returns-clause-groups : goal.returns-clause-groups
returns-clause-groups c = made_groups (subst (IsPartOf c.args.listed.now.entries c.loop-path.made.groups) (rest_all deref_pair _ _ _ c.in-None.is c.next.ensures.steps) c.loop-path.invariant.part)

pub returns-clause-entries : goal.returns-clause-entries
returns-clause-entries c = made_entries (subst (IsPartOf c.args.listed.now.entries c.loop-path.made.groups) (rest_all deref_pair _ _ _ c.in-None.is c.next.ensures.steps) c.loop-path.invariant.part)
