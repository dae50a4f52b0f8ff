-- What a contract sees of placed processes.
use Rattle.std.specs.Prelude.{◌≡◌, ℕ, ◌<◌, ◌==◌, Bool, false, List, map, length, Option, Some, None, refl}
use Rattle.std.specs.Coded.{Coded, code_by, coded×, coded_ℕ}
use Rattle.std.specs.Ordering.{nat_cmp}
use Rattle.cg_maps.specs.FiniteMap.{FiniteMap, get, retain, keys}
use Rattle.cg_maps.specs.Code.{map_code}

-- the group of each PID, and how many numbers groups may have
pub record Located : Type 0 where
  pub places : FiniteMap nat_cmp ℕ
  pub groups : ℕ

abbrev pub located_code : Coded Located
located_code = code_by (FiniteMap nat_cmp ℕ × ℕ) (coded× (map_code coded_ℕ coded_ℕ) coded_ℕ) (λ l. (l.places, l.groups)) (λ p. record { places = p.0; groups = p.1 }) (λ _. refl)

-- the group is that one
abbrev pub is_group : ℕ → Option ℕ → Bool
is_group g None = false
is_group g (Some h) = g == h

-- the PIDs of a group, ascending
abbrev pub pids_of : FiniteMap nat_cmp ℕ → ℕ → List ℕ
pids_of places g = keys (retain places (λ pid. is_group g (get places pid)))
