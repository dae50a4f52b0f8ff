use Rattle.std.proofs.Common.{◌≡◌, ◌++◌, ◌∷◌}
use Rattle.std.specs.List.{flat_map}
use Rattle.cg_plan.proofs.shell.folder_of.Given as goal

-- what is written and the names that are left are the root's folder and all names
abbrev pub invariant-loop-name : goal.invariant-loop-name
invariant-loop-name l = l.folder.items ++ flat_map (λ n. 47 ∷ n) l.name-iterator ≡ l.fn.root ++ flat_map (λ n. 47 ∷ n) l.fn.path
