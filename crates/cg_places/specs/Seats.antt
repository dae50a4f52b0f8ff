-- How processes, cells and stacks belong together.
use Rattle.std.specs.Prelude.{◌≡◌, ℕ, ◌<◌, List, length, Option, None, Some, option_map, slice_get}
use Rattle.cg_places.specs.declared.seats.Process.{Process}
use Rattle.cg_places.specs.declared.seats.Cell.{Cell}
use Rattle.cg_places.specs.declared.seats.Stack.{Stack}
use Rattle.cg_places.specs.Stacks.{AreStacks}

-- the PID of a process and its group
abbrev pub who : Process → ℕ × ℕ
who p = (p.pid, p.group)

abbrev pub next_in : List Cell → ℕ → Option ℕ
next_in cells j = option_map (λ c. c.next) (slice_get cells j)

-- the group of the process that has the cell
abbrev pub group_at : List Process → Option Cell → Option ℕ
group_at ps None = None
group_at ps (Some c) = option_map (λ p. p.group) (slice_get ps c.process)

abbrev pub group_in : List Process → List Cell → ℕ → Option ℕ
group_in ps cells j = group_at ps (slice_get cells j)

abbrev pub stack_in : List Stack → ℕ → Option (ℕ × ℕ)
stack_in ss g = option_map (λ s. (s.first, s.count)) (slice_get ss g)

-- each process has a cell of its own, and each cell is that of a process
pub record HaveSeats (ps : List Process) (cells : List Cell) : Type 0 where
  pub seat : (i : ℕ) (p : Process) → slice_get ps i ≡ Some p → (c : Cell) × (slice_get cells p.cell ≡ Some c) × (c.process ≡ i)
  pub taken : (j : ℕ) (c : Cell) → slice_get cells j ≡ Some c → (p : Process) × (slice_get ps c.process ≡ Some p) × (p.cell ≡ j)
  pub many : length cells ≡ length ps

-- and each group has the stack of its processes' cells
pub record AreSeated (ps : List Process) (cells : List Cell) (ss : List Stack) : Type 0 where
  pub seats : HaveSeats ps cells
  pub within : (i : ℕ) (p : Process) → slice_get ps i ≡ Some p → p.group < length ss
  pub stacks : AreStacks (next_in cells) (group_in ps cells) (stack_in ss)
