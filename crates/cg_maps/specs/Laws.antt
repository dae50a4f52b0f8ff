-- The laws of finite maps and sets, for contracts to cite.
use Rattle.std.specs.Prelude.{◌≡◌, ◌≢◌, ◌↔◌, ℕ, nat_lt, Bool, true, false, cond, ◌&&◌, ◌||◌, ◌==◌, List, [], ◌∷◌, map, length, Option, Some, None}
use Rattle.std.specs.List.{AllByRecursion, Contains, list_any}
use Rattle.std.specs.declared.cmp.Ordering.{Ordering}
use Rattle.std.specs.FinMap.{IsAntisymmetric}
use Rattle.cg_maps.specs.FiniteMap.{FiniteMap, get, set_at, retain, entries, keys, len}
use Rattle.cg_maps.specs.FiniteSet.{FiniteSet, has, members, is_empty_set, no_members, with_member, in_common, set_of, such_that_below}

-- each key stands once
abbrev pub EachKeyOnce : {K X : Type 0} → List (K × X) → Type 0
EachKeyOnce [] = Unit {0}
EachKeyOnce (e ∷ es) = AllByRecursion (λ f. e.0 ≢ f.0) es × EachKeyOnce es

module _ {K : Type 0} (R : K → K → Ordering) (X : Type 0) where
  -- two maps that hold the same at every key are equal
  abbrev pub EqualWhereAlike : Type 0
  EqualWhereAlike = IsAntisymmetric R → (m n : FiniteMap R X) → ((k : K) → get m k ≡ get n k) → m ≡ n

  -- of two settings of one key the last counts
  abbrev pub LastCounts : Type 0
  LastCounts = IsAntisymmetric R → (m : FiniteMap R X) (k : K) (v w : Option X) → set_at (set_at m k v) k w ≡ set_at m k w

  -- settings of two keys change places
  abbrev pub SettingsCommute : Type 0
  SettingsCommute = IsAntisymmetric R → (m : FiniteMap R X) (k l : K) (v w : Option X) → k ≢ l → set_at (set_at m k v) l w ≡ set_at (set_at m l w) k v

  -- a key set to what it holds changes nothing
  abbrev pub HeldIsSame : Type 0
  HeldIsSame = IsAntisymmetric R → (m : FiniteMap R X) (k : K) → set_at m k (get m k) ≡ m

  -- a key holds what it was set to, and every other key what it held
  abbrev pub SetIsRead : Type 0
  SetIsRead = IsAntisymmetric R → (m : FiniteMap R X) (k l : K) (v : Option X) → (get (set_at m k v) k ≡ v) × (l ≢ k → get (set_at m k v) l ≡ get m l)

  -- the keys that pass keep what they hold, and the others hold nothing
  abbrev pub PassingAreRetained : Type 0
  PassingAreRetained = IsAntisymmetric R → (m : FiniteMap R X) (p : K → Bool) (k : K) → get (retain m p) k ≡ cond (p k) (get m k) None

  -- the entries are what the keys hold, each key once, and all are counted
  pub record IsListed (m : FiniteMap R X) : Type 0 where
    pub held : (k : K) (v : X) → Contains (entries m) (k, v) ↔ (get m k ≡ Some v)
    pub once : EachKeyOnce (entries m)
    pub keys : keys m ≡ map (λ e. e.0) (entries m)
    pub counted : len m ≡ length (entries m)

  abbrev pub EntriesAreHeld : Type 0
  EntriesAreHeld = IsAntisymmetric R → (m : FiniteMap R X) → IsListed m

-- sets with the same members are equal, and a set is that of its listed members
abbrev pub SetIsMembers : Type 0
SetIsMembers = ((s t : FiniteSet) → ((n : ℕ) → has s n ≡ has t n) → s ≡ t) × ((s : FiniteSet) → set_of (members s) ≡ s)

-- one member more, and nothing else
abbrev pub WithMember : Type 0
WithMember = (s : FiniteSet) (n k : ℕ) → (has no_members n ≡ false) × (has (with_member s k) n ≡ ((n == k) || has s n))

-- what both have
abbrev pub InCommon : Type 0
InCommon = (s t : FiniteSet) (n : ℕ) → has (in_common s t) n ≡ (has s n && has t n)

-- the numbers of the list
abbrev pub OfList : Type 0
OfList = (ns : List ℕ) (n : ℕ) → has (set_of ns) n ≡ list_any (λ m. n == m) ns

-- the numbers below the bound that pass
abbrev pub SuchThatBelow : Type 0
SuchThatBelow = (bound : ℕ) (p : ℕ → Bool) (n : ℕ) → has (such_that_below bound p) n ≡ (nat_lt n bound && p n)

-- a set is empty where it has no member
abbrev pub EmptyHasNone : Type 0
EmptyHasNone = (s : FiniteSet) → (is_empty_set s ≡ true) ↔ ((n : ℕ) → has s n ≡ false)
