-- Nothing is there.
use Rattle.std.proofs.Common.{sym, ap, subst, ◌∙◌}
use Rattle.std.proofs.lemmas.Option.{none-some}
use Rattle.std.specs.Ordering.{nat_cmp}
use Rattle.cg_maps.specs.FiniteMap.{get}
use Rattle.cg_maps.proofs.Maps.{get-empty}
use Rattle.cg_name.specs.Path.{path_cmp}
use Rattle.cg_tree.specs.Contents.{places_in, path_numbered, AreHeld}
use Rattle.cg_tree.specs.Entries.{groups_in, held_in, populated_by_of, settings_of, AreCounted}
use Rattle.cg_tree.proofs.Holding.{none_held}
use Rattle.cg_tree.proofs.Putting.{none_to_count}
use Rattle.cg_tree.proofs.Seeing.{seen-empty}
use Rattle.cg_tree.proofs.groups.Groups.new.Goals as goal

pub invariant_of-result : goal.invariant_of-result
invariant_of-result c = record {
  counted = subst AreCounted (sym c.new.ensures.values) none_to_count;
  held =
      subst (λ h. AreHeld h (places_in c.new.result.keys c.new-2.result.places)) (sym (ap held_in c.new.ensures.values ∙ seen-empty populated_by_of))
      (none_held (places_in c.new.result.keys c.new-2.result.places));
  placed = λ pid n h. absurd (none-some n (sym (ap (λ m. get m pid) c.new-2.ensures.places ∙ get-empty nat_cmp pid) ∙ h));
  numbers = λ k h. absurd (none-some k (sym (ap (λ m. get m h.0) c.new.ensures.keys ∙ get-empty path_cmp h.0) ∙ h.1));
}

pub returns-clause-groups : goal.returns-clause-groups
returns-clause-groups c = ap groups_in c.new.ensures.values ∙ seen-empty settings_of

pub returns-clause-places : goal.returns-clause-places
returns-clause-places c = ap (places_in c.new.result.keys) c.new-2.ensures.places ∙ seen-empty (path_numbered c.new.result.keys)
