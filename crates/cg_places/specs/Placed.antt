-- How PIDs, processes, cells and stacks belong together, and what is seen of them.
use Rattle.std.specs.Prelude.{◌≡◌, ℕ, ◌<◌, List, map, length, Option, None, Some, option_map, slice_get, nat_eq}
use Rattle.std.specs.Map.{lookup}
use Rattle.std.specs.Ordering.{nat_cmp}
use Rattle.cg_maps.specs.FiniteMap.{from_entries}
use Rattle.cg_places.specs.declared.seats.Process.{Process}
use Rattle.cg_places.specs.declared.seats.Cell.{Cell}
use Rattle.cg_places.specs.declared.seats.Stack.{Stack}
use Rattle.cg_places.specs.Located.{Located}
use Rattle.cg_places.specs.Seats.{who, AreSeated}

-- the number of the process with the PID
abbrev pub number_of : List (ℕ × ℕ) → ℕ → Option ℕ
number_of numbers pid = lookup (nat_eq pid) numbers

-- each PID has the number of the process with it, and the processes have their seats
pub record ArePlaced (numbers : List (ℕ × ℕ)) (ps : List Process) (cells : List Cell) (ss : List Stack) : Type 0 where
  pub seated : AreSeated ps cells ss
  pub known : (i : ℕ) (p : Process) → slice_get ps i ≡ Some p → number_of numbers p.pid ≡ Some i
  pub named : (pid i : ℕ) → number_of numbers pid ≡ Some i → (p : Process) × (slice_get ps i ≡ Some p) × (p.pid ≡ pid)
  pub few : length ps < 4294967295

-- what is seen of processes and stacks
abbrev pub located : List Process → List Stack → Located
located ps ss = record { places = from_entries nat_cmp (map who ps); groups = length ss }
