use Rattle.std.proofs.Common.{◌≡◌, ℕ, List, Some, sym, ap, ◌∙◌}
use Rattle.std.specs.BTreeMap as tree
use Rattle.std.specs.BTreeMap.{BTreeMap}
use Rattle.std.specs.Map.Iter.{deref_pair}
use Rattle.std.proofs.lemmas.Map.Iter.{rest_more, rest_all}
use Rattle.cg_maps.specs.FiniteMap.{set_at, from_entries}
use Rattle.cg_maps.proofs.TreeMaps.{view-insert}
use Rattle.cg_name.specs.Path.{Path}
use Rattle.std.specs.Ordering.{nat_cmp}
use Rattle.std.specs.Cmp.{nat_cmp_total}
use Rattle.std.specs.FinMap.{nat_cmp-IsAntisymmetric}
use Rattle.cg_world.proofs.Puts.{puts, puts-view}
use Rattle.cg_world.proofs.plain.copy_places.Goals as goal

-- one place more in the copy, and one less to come
one_more : (made new : BTreeMap ℕ Path) (pid : ℕ) (path copied : Path) (left : List (ℕ × Path)) → tree.Updates nat_cmp made new pid (Some copied) → copied ≡ path
    → puts (from_entries nat_cmp new.entries) left ≡ puts (set_at (from_entries nat_cmp made.entries) pid (Some path)) left
one_more made new pid path copied left h e =
    ap (λ m. puts m left) (view-insert nat_cmp_total nat_cmp-IsAntisymmetric made new pid copied h ∙ (λ i. set_at (from_entries nat_cmp made.entries) pid (Some (e i))))

pub loop-pid-preserved : goal.loop-pid-preserved
loop-pid-preserved c =
    one_more c.loop-pid.made c.insert.new.self c.in-Some.pid.now c.in-Some.path.now c.in_ok-copy.field-0 c.next.new.self c.in_ok-insert.ensures.updates c.in_ok-copy.ensures.value
    ∙ ap (puts (from_entries nat_cmp c.loop-pid.made.entries)) (sym (rest_more deref_pair _ _ _ _ c.in-Some.is c.next.ensures.steps))
    ∙ c.loop-pid.invariant

-- the place that was replaced, where there was one, goes in either of two ways
pub loop-pid-preserved-in_ok-insert : goal.loop-pid-preserved-in_ok-insert
loop-pid-preserved-in_ok-insert c =
    one_more c.loop-pid.made c.insert.new.self c.in-Some.pid.now c.in-Some.path.now c.in_ok-copy.field-0 c.next.new.self c.in_ok-insert.ensures.updates c.in_ok-copy.ensures.value
    ∙ ap (puts (from_entries nat_cmp c.loop-pid.made.entries)) (sym (rest_more deref_pair _ _ _ _ c.in-Some.is c.next.ensures.steps))
    ∙ c.loop-pid.invariant

pub loop-pid-preserved-in_ok-insert-2 : goal.loop-pid-preserved-in_ok-insert-2
loop-pid-preserved-in_ok-insert-2 c =
    one_more c.loop-pid.made c.insert.new.self c.in-Some.pid.now c.in-Some.path.now c.in_ok-copy.field-0 c.next.new.self c.in_ok-insert.ensures.updates c.in_ok-copy.ensures.value
    ∙ ap (puts (from_entries nat_cmp c.loop-pid.made.entries)) (sym (rest_more deref_pair _ _ _ _ c.in-Some.is c.next.ensures.steps))
    ∙ c.loop-pid.invariant

pub returns : goal.returns
returns c =
    ap (puts (from_entries nat_cmp c.loop-pid.made.entries)) (sym (rest_all deref_pair _ _ _ c.in-None.is c.next.ensures.steps))
    ∙ c.loop-pid.invariant
    ∙ puts-view nat_cmp_total nat_cmp-IsAntisymmetric c.args.places.now c.into_iter-pid-iterator.ensures.into_iter_gives.5
