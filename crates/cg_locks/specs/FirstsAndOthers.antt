-- How it is kept who holds what at one path: the least holder of each part, and one list of the others.
use Rattle.std.specs.Prelude.{ℕ, suc, nat_lt, cond, get_or, List, [], ◌∷◌}
use Rattle.std.specs.Ordering.{nat_cmp}
use Rattle.cg_maps.specs.FiniteMap.{from_entries}
use Rattle.cg_locks.specs.declared.first_holders.First.{First}
use Rattle.cg_locks.specs.declared.first_holders.Firsts.{Firsts}
use Rattle.cg_locks.specs.declared.held.Part.{Part}
use Rattle.cg_locks.specs.declared.held.Part.TheVariants.{ChangedAt, ReadAt, StaysAt, CountedAt, ChangedBelow, ReadBelow, StaysBelow}
use Rattle.cg_locks.specs.declared.other_holders.Other.{Other}
use Rattle.cg_locks.specs.Held.{part_number, same_part, HeldParts}
use Rattle.cg_locks.specs.Holders.{Counts, all_holders, AreHolders}

-- the least holder in a part: those of all stand by the numbers of the parts
abbrev pub first_in : Part → Firsts → First
first_in r F = get_or F.of_parts (part_number r) (record { holder = 0; times = 0 })

-- the other holders in it, each with how often
abbrev pub others_in : Part → List Other → List (ℕ × ℕ)
others_in r [] = []
others_in r (e ∷ es) = cond (same_part r e.part) ((e.holder, e.times) ∷ others_in r es) (others_in r es)

-- how many entries stand before the first one of the part whose number is not lower
abbrev pub spot_of : Part → ℕ → List Other → ℕ
spot_of r t [] = 0
spot_of r t (e ∷ es) = cond (same_part r e.part) (cond (nat_lt e.holder t) (suc (spot_of r t es)) 0) (suc (spot_of r t es))

-- all holders in the part
abbrev pub holders_in : Part → Firsts → List Other → Counts
holders_in r F es = from_entries nat_cmp (all_holders (first_in r F).holder (first_in r F).times (others_in r es))

abbrev pub held_parts : Firsts → List Other → HeldParts
held_parts F es = record {
  changed = holders_in ChangedAt F es;
  read = holders_in ReadAt F es;
  stays = holders_in StaysAt F es;
  descendants = holders_in CountedAt F es;
  changed_below = holders_in ChangedBelow F es;
  read_below = holders_in ReadBelow F es;
  stays_below = holders_in StaysBelow F es;
}

-- in each part the others follow the least by ascending numbers, and each holds something
abbrev pub AreParts : Firsts → List Other → Type 0
AreParts F es = (r : Part) → AreHolders (first_in r F).holder (first_in r F).times (others_in r es)
