use Rattle.std.proofs.Common.{◌≡◌, ◌++◌, ◌∷◌}
use Rattle.std.specs.List.{flat_map}
use Rattle.std.specs.String.{string_bytes}
use Rattle.cg_import.proofs.reading.folder_of.Given as goal

-- what is written and the names that are left are all names, behind the root's folder
abbrev pub invariant-loop-name : goal.invariant-loop-name
invariant-loop-name l = string_bytes l.folder ++ flat_map (λ n. 47 ∷ n) l.name-iterator ≡ l.fn.root ++ flat_map (λ n. 47 ∷ n) l.fn.path
