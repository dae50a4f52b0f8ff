-- What each command does, by what it sees of the tree.
use Rattle.cg_maps.specs.FiniteMap.{is_nonempty}
use Rattle.cg_model.specs.Tree.{Tree, group, place_of, parent_group}
use Rattle.cg_model.specs.Derived.{children, processes, available}
use Rattle.cg_model.specs.File.{file}
use Rattle.cg_model.specs.Key as keys
use Rattle.cg_model.specs.Command.{Command, Create, Remove, Migrate, Subtree, Freeze, Cpus, Show, Online, MaxDescendants, MaxDepth, Effect}
use Rattle.cg_model.specs.Groups.{too_many, too_deep, create_effect, remove_effect}
use Rattle.cg_model.specs.Control.{subtree_effect}
use Rattle.cg_model.specs.Writes.{migrate_effect, freeze_effect, cpus_effect, limit_effect, online_effect, show_effect}

-- the effect of a command on a tree: its own checks in their order, and then its changes
unfoldable pub effect : Command → Tree → Effect
effect (Create p) T = create_effect p (parent_group T p) (group T p) (too_many T p) (too_deep T p)
effect (Remove p) T = remove_effect p (group T p) (is_nonempty (children T p)) (is_nonempty (processes T p))
effect (Migrate k p) T = migrate_effect k p (place_of T k) (group T p)
effect (Subtree p ops) T = subtree_effect p ops (group T p) (available T p) (children T p) (is_nonempty (processes T p))
effect (Freeze p v) T = freeze_effect p v (group T p)
effect (Cpus p v) T = cpus_effect p v (group T p) (available T p)
effect (Show p f) T = show_effect (file T p f)
effect (Online v) T = online_effect v T.online
effect (MaxDescendants p v) T = limit_effect p keys.MaxDescendants v (group T p)
effect (MaxDepth p v) T = limit_effect p keys.MaxDepth v (group T p)
