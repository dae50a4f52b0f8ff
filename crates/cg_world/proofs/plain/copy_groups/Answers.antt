use Rattle.std.proofs.Common.{◌≡◌, List, Some, sym, ap, ◌∙◌}
use Rattle.std.specs.BTreeMap as tree
use Rattle.std.specs.BTreeMap.{BTreeMap}
use Rattle.std.specs.Map.Iter.{deref_pair}
use Rattle.std.proofs.lemmas.Map.Iter.{rest_more, rest_all}
use Rattle.cg_maps.specs.FiniteMap.{set_at, from_entries}
use Rattle.cg_maps.proofs.TreeMaps.{view-insert}
use Rattle.cg_name.specs.Path.{Path, path_cmp}
use Rattle.cg_name.specs.Order.{path_cmp_total, path_cmp_exact}
use Rattle.cg_text.specs.declared.settings.Settings.{Settings}
use Rattle.cg_world.proofs.Puts.{puts, puts-view}
use Rattle.cg_world.proofs.plain.copy_groups.Goals as goal

-- one group more in the copy, and one less to come
one_more : (made new : BTreeMap Path Settings) (path copied_path : Path) (settings copied : Settings) (left : List (Path × Settings)) → tree.Updates path_cmp made new copied_path (Some copied) → copied_path ≡ path → copied ≡ settings
    → puts (from_entries path_cmp new.entries) left ≡ puts (set_at (from_entries path_cmp made.entries) path (Some settings)) left
one_more made new path copied_path settings copied left h p s =
    ap (λ m. puts m left) (view-insert path_cmp_total path_cmp_exact made new copied_path copied h ∙ (λ i. set_at (from_entries path_cmp made.entries) (p i) (Some (s i))))

pub loop-path-preserved : goal.loop-path-preserved
loop-path-preserved c =
    one_more c.loop-path.made c.insert-in-loop-path.new.self c.in-Some.path.now c.in_ok-copy.field-0 c.in-Some.settings.now c.in_ok-copy-2.field-0 c.next.new.self c.in_ok-insert.ensures.updates c.in_ok-copy.ensures.value c.in_ok-copy-2.ensures.value
    ∙ ap (puts (from_entries path_cmp c.loop-path.made.entries)) (sym (rest_more deref_pair _ _ _ _ c.in-Some.is c.next.ensures.steps))
    ∙ c.loop-path.invariant

-- the settings that were replaced, where there were any, go in one way more
pub loop-path-preserved-in_ok-insert : goal.loop-path-preserved-in_ok-insert
loop-path-preserved-in_ok-insert c =
    one_more c.loop-path.made c.insert-in-loop-path.new.self c.in-Some.path.now c.in_ok-copy.field-0 c.in-Some.settings.now c.in_ok-copy-2.field-0 c.next.new.self c.in_ok-insert.ensures.updates c.in_ok-copy.ensures.value c.in_ok-copy-2.ensures.value
    ∙ ap (puts (from_entries path_cmp c.loop-path.made.entries)) (sym (rest_more deref_pair _ _ _ _ c.in-Some.is c.next.ensures.steps))
    ∙ c.loop-path.invariant

pub returns : goal.returns
returns c =
    ap (puts (from_entries path_cmp c.loop-path.made.entries)) (sym (rest_all deref_pair _ _ _ c.in-None.is c.next.ensures.steps))
    ∙ c.loop-path.invariant
    ∙ puts-view path_cmp_total path_cmp_exact c.args.groups.now c.into_iter-path-iterator.ensures.into_iter_gives.5
