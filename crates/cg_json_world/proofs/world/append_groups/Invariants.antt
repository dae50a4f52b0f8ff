use Rattle.std.specs.Prelude.{◌≡◌, ◌∷◌, ◌++◌, false, map}
use Rattle.cg_json.specs.Text.{items_of, items_text}
use Rattle.cg_maps.specs.FiniteMap.{entries}
use Rattle.cg_json_world.specs.WorldValue.{group_value}
use Rattle.cg_json_world.proofs.world.append_groups.Given as goal

-- the groups that are told, and those that are left
abbrev pub invariant-loop-path : goal.invariant-loop-path
invariant-loop-path l =
    l.out.items ++ items_text l.is_behind (items_of (map group_value l.path-iterator)) ≡ l.fn.out.items ++ 91 ∷ items_text false (items_of (map group_value (entries l.tree.tree.groups)))
