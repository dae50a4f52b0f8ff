-- What is published, and the tree after it.
use Rattle.std.specs.Prelude.{◌≡◌, ℕ, ◌+◌, List, [], ◌∷◌, ◌++◌}
use Rattle.cg_command.specs.declared.command.Command as rust
use Rattle.cg_command.specs.Meaning.{command_of}
use Rattle.cg_model.specs.Cgroups.{cgroups}
use Rattle.cg_model.specs.Effect.{effect}
use Rattle.cg_model.specs.Run.{state_after}
use Rattle.cg_model.specs.Tree.{Tree}
use Rattle.cg_view.specs.declared.operation.Operation.{Operation}
use Rattle.cg_view.specs.declared.operation.Operation.TheVariants.{Does, Ends}

-- the tree after a command; a refused one leaves it
abbrev pub commanded : rust.Command → Tree → Tree
commanded c T = state_after cgroups (effect (command_of c) T) T

-- the tree after an operation; the end of a script leaves it
abbrev pub operated : Operation → Tree → Tree
operated (Does c) T = commanded c T
operated Ends T = T

-- the tree after operations in turn, the first one first
abbrev pub tree_after : Tree → List Operation → Tree
tree_after T [] = T
tree_after T (x ∷ xs) = tree_after (operated x T) xs

-- how many scripts were committed by operations: each has one end
abbrev pub commits_in : List Operation → ℕ
commits_in [] = 0
commits_in (Does c ∷ xs) = commits_in xs
commits_in (Ends ∷ xs) = 1 + commits_in xs

-- a list begins with another
abbrev pub StartsWith : {A : Type 0} → List A → List A → Type 0
StartsWith {A} whole front = (rest : List A) × (whole ≡ front ++ rest)
