use Rattle.std.specs.Prelude.{◌≡◌, ◌∷◌, ◌++◌, false, map}
use Rattle.cg_json.specs.Text.{items_of, items_text}
use Rattle.cg_maps.specs.FiniteMap.{entries}
use Rattle.cg_json_world.specs.WorldValue.{process_value}
use Rattle.cg_json_world.proofs.world.append_processes.Given as goal

-- the processes that are told, and those that are left
abbrev pub invariant-loop-pid : goal.invariant-loop-pid
invariant-loop-pid l =
    l.out.items ++ items_text l.is_behind (items_of (map process_value l.pid-iterator)) ≡ l.fn.out.items ++ 91 ∷ items_text false (items_of (map process_value (entries l.tree.tree.places)))
