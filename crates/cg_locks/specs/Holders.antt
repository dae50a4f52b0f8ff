-- Which transactions hold one thing, and how often; and the same of things by paths.
use Rattle.std.specs.Prelude.{◌≡◌, ◌≢◌, ℕ, zero, suc, ◌+◌, ◌<◌, ◌≤◌, ◌==◌, nat_lt, not, Bool, cond, T, List, [], ◌∷◌, length, take, Option, Some, None}
use Rattle.std.specs.FinMap.Entries.{is_sorted, where_key}
use Rattle.std.specs.List.{count_by, sum_by}
use Rattle.std.specs.Option.{unwrap_or}
use Rattle.std.specs.Ordering.{eq_by_cmp, nat_cmp}
use Rattle.cg_maps.specs.FiniteMap.{FiniteMap, entries, from_entries, get}
use Rattle.cg_name.specs.declared.refusal.TxnNumber.{TxnNumber}
use Rattle.cg_name.specs.Path.{Path, path_cmp, is_parent, is_prefix, same_path}

-- transactions, each with how often it holds the thing
abbrev pub Counts : Type 0
Counts = FiniteMap nat_cmp ℕ

-- these by paths
abbrev pub PathCounts : Type 0
PathCounts = FiniteMap path_cmp Counts

-- how often u holds it
abbrev pub held_by : Counts → ℕ → ℕ
held_by C u = unwrap_or (get C u) 0

-- nobody is named who holds it never
abbrev pub IsPositive : Counts → Type 0
IsPositive C = (u n : ℕ) → get C u ≡ Some n → 0 < n

-- entries by ascending numbers, none with 0
pub record IsHolderList (es : List (ℕ × ℕ)) : Type 0 where
  pub sorted : T (is_sorted nat_cmp es)
  pub positive : IsPositive (from_entries nat_cmp es)

-- the first, who holds it n times, and the others; none, where n is 0
abbrev pub all_holders : ℕ → ℕ → List (ℕ × ℕ) → List (ℕ × ℕ)
all_holders t n es = cond (n == 0) [] ((t, n) ∷ es)

-- the same, where there are no others without a first
pub record AreHolders (t n : ℕ) (es : List (ℕ × ℕ)) : Type 0 where
  pub list : IsHolderList (all_holders t n es)
  pub alone : n ≡ 0 → es ≡ []

-- the entries but for t's
abbrev pub without : ℕ → List (ℕ × ℕ) → List (ℕ × ℕ)
without t es = where_key nat_cmp (λ x. not (eq_by_cmp nat_cmp t x)) es

-- how many lower numbers stand before the place of t
abbrev pub place_of : ℕ → List (ℕ × ℕ) → ℕ
place_of t [] = 0
place_of t (e ∷ es) = cond (nat_lt e.0 t) (suc (place_of t es)) 0

-- so, where anybody does
abbrev pub held_if : Option Counts → ℕ → ℕ
held_if None u = 0
held_if (Some C) u = held_by C u

-- how often u holds what is at the path
abbrev pub held_at : PathCounts → Path → ℕ → ℕ
held_at T p u = held_if (get T p) u

-- how often u holds what is of the number k
abbrev pub held_for : List (ℕ × Counts) → ℕ → ℕ → ℕ
held_for es k u = held_if (get (from_entries nat_cmp es) k) u

-- and what is at the path or at one that begins with it
unfoldable pub held_below : PathCounts → Path → ℕ → ℕ
held_below T p u = sum_by (λ e. cond (is_prefix p e.0) (held_by e.1 u) 0) (entries T)

-- and what is at the first n of the paths with which the path begins, the root's first
abbrev pub held_until : PathCounts → Path → ℕ → ℕ → ℕ
held_until T p zero u = 0
held_until T p (suc n) u = held_until T p n u + held_at T (take n p) u

-- at all of these, itself too
abbrev pub held_above : PathCounts → Path → ℕ → ℕ
held_above T p u = held_until T p (suc (length p)) u

-- and what is at these paths, each as often as it stands there
abbrev pub held_on : PathCounts → List Path → ℕ → ℕ
held_on T [] u = 0
held_on T (q ∷ ps) u = held_at T q u + held_on T ps u

-- how often the path stands there
abbrev pub times_on : Path → List Path → ℕ
times_on q ps = count_by (same_path q) ps

abbrev pub one : Bool → ℕ
one b = cond b 1 0

-- at how many of the paths right below this one u holds something
unfoldable pub branches : PathCounts → Path → ℕ → ℕ
branches T p u = sum_by (λ e. cond (is_parent p e.0) (one (nat_lt 0 (held_by e.1 u))) 0) (entries T)

-- in T' the same is held, at each path and right below it
pub record IsSame (T T' : PathCounts) : Type 0 where
  pub at : (q : Path) (u : ℕ) → held_at T' q u ≡ held_at T q u
  pub branched : (q : Path) (u : ℕ) → branches T' q u ≡ branches T q u

-- in B each path has, how often what is at it is held, and at how many of the paths right below it something is:
-- so it has something where that is held at the path or anywhere below it
abbrev pub IsSummedUp : PathCounts → PathCounts → Type 0
IsSummedUp T B = (q : Path) (u : ℕ) → held_at B q u ≡ held_at T q u + branches B q u

-- another than t, which holds something
abbrev pub IsOtherHolder : ℕ → (ℕ → ℕ) → ℕ → Type 0
IsOtherHolder t held u = (u ≢ t) × (0 < held u)

-- the least number of which P is true, if there is one
pub record IsLeast (P : ℕ → Type 0) (r : Option ℕ) : Type 0 where
  pub some : (u : ℕ) → r ≡ Some u → P u
  pub least : (u : ℕ) → r ≡ Some u → (v : ℕ) → P v → u ≤ v
  pub none : r ≡ None → (v : ℕ) → ¬ (P v)

-- the least other than t that holds something, if there is one
abbrev pub IsLeastOther : ℕ → (ℕ → ℕ) → Option ℕ → Type 0
IsLeastOther t held r = IsLeast (IsOtherHolder t held) r

-- the lesser of two numbers, of which each may be missing
abbrev pub lesser_of : Option ℕ → Option ℕ → Option ℕ
lesser_of None o = o
lesser_of (Some n) None = Some n
lesser_of (Some n) (Some k) = cond (nat_lt k n) (Some k) (Some n)

abbrev pub number_of : TxnNumber → ℕ
number_of n = n.0
