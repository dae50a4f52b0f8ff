-- How a tree grows while it is read.
use Rattle.std.specs.Prelude.{◌≡◌, ◌⊎◌, ℕ, cond, Option, Some, IsSome, option_map}
use Rattle.cg_model.specs.Tree.{Tree, parent_group, place_of}
use Rattle.cg_name.specs.Path.{Path, is_root}
use Rattle.cg_text.specs.declared.controllers.Controllers.{Controllers}

-- the controllers that a group at the path has from above, or would have; none are known where its parent is no group
abbrev pub passed_on : Tree → Path → Option Controllers
passed_on T p = cond (is_root p) (Some T.controllers) (option_map (λ u. u.control) (parent_group T p))

-- processes of these are put at a path, and nothing else; those that were there are somewhere
pub record PutsProcesses (p : Path) (Among : ℕ → Type 0) (old new : Tree) : Type 0 where
  pub controllers : new.controllers ≡ old.controllers
  pub online : new.online ≡ old.online
  pub groups : new.groups ≡ old.groups
  pub among : (k : ℕ) (q : Path) → place_of new k ≡ Some q → (place_of old k ≡ Some q) ⊎ ((q ≡ p) × Among k)
  pub kept : (k : ℕ) → IsSome (place_of old k) → IsSome (place_of new k)
