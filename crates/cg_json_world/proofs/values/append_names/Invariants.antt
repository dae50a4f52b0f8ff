use Rattle.std.specs.Prelude.{◌≡◌, ◌∷◌, ◌++◌}
use Rattle.std.specs.List.{flat_map}
use Rattle.cg_json_world.proofs.values.append_names.Given as goal

-- the names that were passed, and those that are left
abbrev pub invariant-loop-name : goal.invariant-loop-name
invariant-loop-name l = l.out.items ++ flat_map (λ n. 47 ∷ n) l.name-iterator ≡ l.fn.out.items ++ flat_map (λ n. 47 ∷ n) l.path
