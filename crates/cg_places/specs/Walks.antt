-- The PIDs of a group, in the order of its stack.
use Rattle.std.specs.Prelude.{◌≡◌, ℕ, List, map, take, drop, Option, None, Some, slice_get}
use Rattle.cg_places.specs.declared.seats.Process.{Process}
use Rattle.cg_places.specs.declared.seats.Cell.{Cell}
use Rattle.cg_places.specs.declared.seats.Stack.{Stack}
use Rattle.cg_places.specs.Stacks.{Has, IsStack, IsStackOf}
use Rattle.cg_places.specs.Seats.{next_in, group_in}

-- no PID is that of two processes
abbrev pub HaveOwnPids : List Process → Type 0
HaveOwnPids ps = (i j : ℕ) (p q : Process) → slice_get ps i ≡ Some p → slice_get ps j ≡ Some q → p.pid ≡ q.pid → i ≡ j

-- the PIDs of the processes in the group, each once
pub record AreTheirs (ps : List Process) (g : ℕ) (pids : List ℕ) : Type 0 where
  pub each : (j pid : ℕ) → slice_get pids j ≡ Some pid → (i : ℕ) × (p : Process) × (slice_get ps i ≡ Some p) × (p.pid ≡ pid) × (p.group ≡ g)
  pub all : (i : ℕ) (p : Process) → slice_get ps i ≡ Some p → p.group ≡ g → Has pids p.pid
  pub once : (j k pid : ℕ) → slice_get pids j ≡ Some pid → slice_get pids k ≡ Some pid → j ≡ k

abbrev pub pid_of : Option Process → ℕ
pid_of None = 0
pid_of (Some p) = p.pid

abbrev pub pid_at : List Process → Option Cell → ℕ
pid_at ps None = 0
pid_at ps (Some c) = pid_of (slice_get ps c.process)

-- the PID of the process that has the cell
abbrev pub pid_in : List Process → List Cell → ℕ → ℕ
pid_in ps cells j = pid_at ps (slice_get cells j)

-- so many cells of the stack were visited, from the top down, and these are their PIDs; the next one is at
pub record Walks (ps : List Process) (cells : List Cell) (g : ℕ) (s : Stack) (done at : ℕ) (pids : List ℕ) : Type 0 where
  pub stack : IsStackOf (next_in cells) (group_in ps cells) g s.first s.count
  pub visited : pids ≡ map (pid_in ps cells) (take done stack.cells)
  pub left : IsStack (next_in cells) at (drop done stack.cells)
