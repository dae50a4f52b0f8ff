-- What the tree and the lock table of a core hold, while open transactions have these stacks.
use Rattle.std.specs.Prelude.{◌≡◌, ℕ, cond, List}
use Rattle.cg_name.specs.Path.{Path}
use Rattle.cg_model.specs.Tree.{Tree}
use Rattle.cg_model.specs.Cgroups.{cgroups}
use Rattle.cg_model.specs.Footprint.{Mark}
use Rattle.cg_model.specs.Live.{Items}
use Rattle.cg_model.specs.Opens.{among}
use Rattle.cg_model.specs.Room as room
use Rattle.cg_locks.specs.Holdings.{Holdings, holdings}
use Rattle.cg_tree.specs.Room.{TreeWithRoom, has_entry}
use Rattle.cg_core.specs.Held.{times_on}

-- the transactions ts are open with these stacks over the tree T: the tree of the code is T, it has an entry exactly where the
-- definitions of room say, and each transaction holds each mark as often as it stands on its stack
pub record Holds (O : Tree) (ts : List ℕ) (stacks : ℕ → Items cgroups) (T : Tree) (R : TreeWithRoom) (H : Holdings) : Type 0 where
  pub tree : R.tree ≡ T
  pub entries : (p : Path) → has_entry R p ≡ room.has_entry O stacks ts T p
  pub held : (u : ℕ) (m : Mark) → holdings H u m ≡ cond (among u ts) (times_on O m (stacks u)) 0
