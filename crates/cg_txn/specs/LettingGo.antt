-- Letting go of what a command holds, and of the entry that it may have left (this project's own choice).
use Rattle.std.specs.Prelude.{◌≡◌, ℕ, ◌+◌, ◌==◌, ◌&&◌, not, Bool, true, cond, List, is_some}
use Rattle.cg_name.specs.Path.{Path}
use Rattle.cg_model.specs.Footprint.{Mark, X, marks_subtree}
use Rattle.cg_model.specs.Tree.{Tree, group}
use Rattle.cg_tree.specs.Room.{TreeWithRoom, has_entry, MaySweepIfDead}
use Rattle.cg_locks.specs.Holdings.{Holdings, holdings, HoldsAll}
use Rattle.cg_locks.specs.Marks.{times}

-- the entry of p goes with the footprint f of the transaction t, which then holds H: f marks that subtree, t holds that mark
-- no more, and p is no group
abbrev pub goes : ℕ → List Mark → Holdings → Tree → Path → Bool
goes t f H T p = marks_subtree p f && ((holdings H t (X p) == 0) && not (is_some (group T p)))

-- one holding by t of each mark of f is taken away
abbrev pub IsReleased : ℕ → List Mark → Holdings → Holdings → Type 0
IsReleased t f H H' = (u : ℕ) (m : Mark) → holdings H' u m + cond (u == t) (times m f) 0 ≡ holdings H u m

-- t may let go of f: it holds each mark as often as it stands in f; and where it holds that of the marked subtree no oftener,
-- so that none is left, a dead entry of that path may be swept
pub record MayLetGo (t : ℕ) (f : List Mark) (R : TreeWithRoom) (H : Holdings) : Type 0 where
  pub held : HoldsAll H t f
  pub sweeps : (p : Path) → marks_subtree p f ≡ true → holdings H t (X p) ≡ times (X p) f → MaySweepIfDead R p

-- t lets go of f: its holdings, and the entry that goes; no key changes
pub record IsLetGo (t : ℕ) (f : List Mark) (R : TreeWithRoom) (H : Holdings) (R' : TreeWithRoom) (H' : Holdings) : Type 0 where
  pub released : IsReleased t f H H'
  pub tree : R'.tree ≡ R.tree
  pub entries : (p : Path) → has_entry R' p ≡ has_entry R p && not (goes t f H' R.tree p)
