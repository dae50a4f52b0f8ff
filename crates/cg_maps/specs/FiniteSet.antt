-- Finite sets of numbers as values: equal where they have the same members.
use Rattle.std.specs.Prelude.{ℕ, zero, suc, Bool, not, cond, List, [], ◌∷◌, Some, is_some}
use Rattle.std.specs.Ordering.{nat_cmp}
use Rattle.cg_maps.specs.FiniteMap.{FiniteMap, empty, get, set_at, retain, keys, is_nonempty}

-- a finite set of numbers: a map with nothing at its keys
abbrev pub FiniteSet : Type 0
FiniteSet = FiniteMap nat_cmp (Unit {0})

-- the number is in the set
abbrev pub has : FiniteSet → ℕ → Bool
has s n = is_some (get s n)

-- the members, ascending
unfoldable pub members : FiniteSet → List ℕ
members s = keys s

-- the set has no member
abbrev pub is_empty_set : FiniteSet → Bool
is_empty_set s = not (is_nonempty (members s))

-- the set with no member
abbrev pub no_members : FiniteSet
no_members = empty

-- the set and one number
unfoldable pub with_member : FiniteSet → ℕ → FiniteSet
with_member s n = set_at s n (Some tt)

-- what is in both
unfoldable pub in_common : FiniteSet → FiniteSet → FiniteSet
in_common s t = retain s (has t)

-- the set of the numbers of a list
abbrev pub set_of : List ℕ → FiniteSet
set_of [] = empty
set_of (n ∷ ns) = with_member (set_of ns) n

-- the set of the numbers below a bound that pass a test
unfoldable pub such_that_below : ℕ → (ℕ → Bool) → FiniteSet
such_that_below zero p = empty
such_that_below (suc n) p = cond (p n) (with_member (such_that_below n p) n) (such_that_below n p)
