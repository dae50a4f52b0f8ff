use Rattle.std.specs.Prelude.{◌≡◌, ◌∷◌, ◌++◌, false, drop, map}
use Rattle.cg_json.specs.Text.{items_of, items_text, number}
use Rattle.cg_outline.proofs.objects.append_pids.Given as goal

-- the PIDs that are told, and those that are left
abbrev pub invariant-loop-pid : goal.invariant-loop-pid
invariant-loop-pid l =
    l.out.items ++ items_text l.is_behind (items_of (map number (drop l.pid-index l.pids))) ≡ l.fn.out.items ++ 91 ∷ items_text false (items_of (map number l.pids))
