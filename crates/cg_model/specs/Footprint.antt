-- Footprints: the marks under which a command runs, and which marks of two transactions clash (this project's own choice:
-- two-phase locking of subtrees, of single groups and processes, and of numbers of descendants).
use Rattle.std.specs.Prelude.{ℕ, Bool, true, false, cond, ◌==◌, List, [], ◌∷◌, ◌++◌, Option, Some, None}
use Rattle.std.specs.List.{list_any}
use Rattle.cg_name.specs.Path.{Path, same_path, is_prefix, comparable, along}
use Rattle.cg_text.specs.declared.limit.Limit.{Limit}
use Rattle.cg_text.specs.declared.limit.Limit.TheVariants.{Max, UpTo}
use Rattle.cg_text.specs.declared.settings.Settings.{Settings}
use Rattle.cg_model.specs.Tree.{Tree, group, place_of}
use Rattle.cg_model.specs.Command.{Command, Create, Remove, Migrate, Subtree, Freeze, Cpus, Show, Online, MaxDescendants, MaxDepth}

-- a mark, which a command has until its transaction ends or it is taken off
pub data Mark : Type 0 where
  -- a subtree to be changed; one to be read
  X S : Path → Mark
  -- one group that has to stay
  N : Path → Mark
  -- the place of one process
  Pid : ℕ → Mark
  -- the number of a group's descendants
  Count : Path → Mark

-- marks of two different transactions that don't go together
abbrev pub clash : Mark → Mark → Bool
clash (X p) (X q) = comparable p q
clash (X p) (S q) = comparable p q
clash (S p) (X q) = comparable p q
clash (X p) (N q) = is_prefix p q
clash (N p) (X q) = is_prefix q p
clash (S p) (N q) = is_prefix p q
clash (N p) (S q) = is_prefix q p
clash (Pid k) (Pid l) = k == l
clash (Count p) (Count q) = same_path p q
clash _ _ = false

-- some mark of the one clashes with some mark of the other
abbrev pub clashes : List Mark → List Mark → Bool
clashes f g = list_any (λ m. list_any (clash m) g) f

-- the limit is a number
abbrev pub is_finite : Limit → Bool
is_finite Max = false
is_finite (UpTo n) = true

-- the group is there, and its descendants are limited in number
abbrev pub is_limited : Option Settings → Bool
is_limited None = false
is_limited (Some s) = is_finite s.max_descendants

-- the mark on the number of a group's descendants, where that is limited
abbrev pub count_of : Path → Option Settings → List Mark
count_of p s = cond (is_limited s) (Count p ∷ []) []

-- the marks of lists, one list after another
abbrev pub joined_marks : List (List Mark) → List Mark
joined_marks [] = []
joined_marks (f ∷ fs) = f ++ joined_marks fs

-- those of all groups above p
abbrev pub counts : Tree → Path → List Mark
counts T p = joined_marks (along (λ a. count_of a (group T a)) p)

-- the group that a process is in has to stay, where there is such a process
abbrev pub old_place : Option Path → List Mark
old_place None = []
old_place (Some q) = N q ∷ []

-- the marks of a command; Migrate marks both ends, and Create and Remove the numbers that they change
unfoldable pub footprint : Command → Tree → List Mark
footprint (Create p) T = X p ∷ counts T p
footprint (Remove p) T = X p ∷ counts T p
footprint (Migrate k p) T = Pid k ∷ N p ∷ old_place (place_of T k)
footprint (Subtree p ops) T = X p ∷ []
footprint (Freeze p v) T = X p ∷ []
footprint (Cpus p v) T = X p ∷ []
footprint (Show p f) T = S p ∷ []
footprint (Online v) T = X [] ∷ []
footprint (MaxDescendants p v) T = X p ∷ []
footprint (MaxDepth p v) T = X p ∷ []

-- the group whose subtree the footprint marks to be changed, if it marks one: that mark stands first
abbrev pub changed : List Mark → Option Path
changed (X p ∷ f) = Some p
changed _ = None

-- it marks the subtree of the group at p
abbrev pub marks_subtree : Path → List Mark → Bool
marks_subtree p (X q ∷ f) = same_path p q
marks_subtree p _ = false
