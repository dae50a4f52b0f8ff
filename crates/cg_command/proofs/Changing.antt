-- A group that is put back, and one that a process is moved into.
use Rattle.std.proofs.Common.{◌≡◌, ℕ, true, Option, Some, None, is_some, refl, ap, ◌∙◌}
use Rattle.cg_maps.specs.FiniteMap.{set_at}
use Rattle.cg_maps.proofs.Maps.{set_same, set_set}
use Rattle.cg_name.specs.Order.{path_cmp_total, path_cmp_exact}
use Rattle.cg_name.specs.Path.{Path}
use Rattle.cg_text.specs.declared.settings.Settings.{Settings}
use Rattle.cg_model.specs.Command.{IsAccepted, Migrate}
use Rattle.cg_model.specs.Effect.{effect}
use Rattle.cg_model.specs.Tree.{Tree, group, place_of}
use Rattle.cg_model.specs.Writes.{migrate_effect}
use Rattle.cg_tree.specs.Room.{TreeWithRoom}

-- a group that was taken away is put back
pub put_back : (t u v : TreeWithRoom) (p : Path) (w : Option Settings) → w ≡ group t.tree p → u.tree ≡ record t.tree { groups = set_at t.tree.groups p None } → u.entries ≡ t.entries
    → v.tree ≡ record u.tree { groups = set_at u.tree.groups p w } → v.entries ≡ u.entries → v ≡ t
put_back t u v p w is gone same back still =
    let groups : set_at (set_at t.tree.groups p None) p w ≡ t.tree.groups =
    set_set path_cmp_total path_cmp_exact t.tree.groups p None w ∙ ap (set_at t.tree.groups p) is ∙ set_same path_cmp_total path_cmp_exact t.tree.groups p in
    let whole : v.tree ≡ t.tree = back ∙ ap (λ (T : Tree). record T { groups = set_at T.groups p w }) gone ∙ ap (λ G. record t.tree { groups = G }) groups in
    λ i. record { tree = whole i; entries = (still ∙ same) i }

-- a process is moved into a group that is there
accepted_into : (k : ℕ) (p : Path) (o : Option Path) (g : Option Settings) → IsAccepted (migrate_effect k p o g) → is_some g ≡ true
accepted_into k p None g h = absurd h
accepted_into k p (Some q) None h = absurd h
accepted_into k p (Some q) (Some s) h = refl

pub moved_into_group : (T : Tree) (k : ℕ) (p : Path) → IsAccepted (effect (Migrate k p) T) → is_some (group T p) ≡ true
unfolding effect
moved_into_group T k p h = accepted_into k p (place_of T k) (group T p) h
