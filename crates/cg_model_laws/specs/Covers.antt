-- What marks cover of a tree, and trees that agree on it.
use Rattle.std.specs.Prelude.{◌≡◌, ℕ, Bool, true, false, cond, ◌==◌, List, Option, Some, None}
use Rattle.std.specs.List.{AllByRecursion}
use Rattle.cg_name.specs.Path.{Path, is_root, is_prefix, comparable}
use Rattle.cg_model.specs.Tree.{Tree, group, place_of}
use Rattle.cg_model.specs.Derived.{descendants}
use Rattle.cg_model.specs.Key.{Key, Group, Place, Part, Online}
use Rattle.cg_model.specs.Footprint.{Mark, X, S, N, Pid, Count, is_limited}

-- a process's place as far as it is p or below it
abbrev pub within : Path → Option Path → Option Path
within p None = None
within p (Some q) = cond (is_prefix p q) (Some q) None

-- what a mark on a subtree covers: the online CPUs, the groups above and below, and the processes in the subtree
pub record SameAround (p : Path) (T U : Tree) : Type 0 where
  pub online : T.online ≡ U.online
  pub groups : (q : Path) → comparable p q ≡ true → group T q ≡ group U q
  pub places : (k : ℕ) → within p (place_of T k) ≡ within p (place_of U k)

-- two trees agree on what a mark covers
abbrev pub Agree : Mark → Tree → Tree → Type 0
Agree (X p) T U = SameAround p T U
Agree (S p) T U = SameAround p T U
Agree (N p) T U = group T p ≡ group U p
Agree (Pid k) T U = place_of T k ≡ place_of U k
Agree (Count p) T U = descendants T p ≡ descendants U p

-- two trees agree on what a footprint covers
abbrev pub AgreeOn : List Mark → Tree → Tree → Type 0
AgreeOn f T U = AllByRecursion (λ m. Agree m T U) f

-- a mark on a number of descendants is of a group whose number is limited
abbrev pub IsCounted : Tree → Mark → Type 0
IsCounted T (Count p) = is_limited (group T p) ≡ true
IsCounted T m = Unit {0}

-- a key may be changed under a mark: groups and their settings under that of their subtree, the online CPUs under that of the
-- root, a process's place under its own
abbrev pub may_change : Mark → Key → Bool
may_change (X p) (Group q) = is_prefix p q
may_change (X p) (Part q f) = is_prefix p q
may_change (X p) Online = is_root p
may_change (Pid k) (Place l) = k == l
may_change _ _ = false
