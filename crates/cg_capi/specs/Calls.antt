-- What C is told by a call, and what the handle holds then.
use Rattle.std.specs.Prelude.{◌≡◌, ◌⊎◌, ℕ, ◌<◌, ◌≤◌, nat_eq, if◌then◌else◌, List, [], Option, Some, None, length}
use Rattle.cg_capi.specs.declared.handle.Handle.{Handle}
use Rattle.cg_line_machine.specs.Copies.{Copies}
use Rattle.cg_line_machine.specs.Status.{IsWordOf, status_number}
use Rattle.cg_line_machine.specs.Teller.{Told, told_first}
use Rattle.cg_line_machine.specs.declared.status.Status.{Status}
use Rattle.cg_line_machine.specs.declared.status.Status.TheVariants.{BadLimit, Closed, Done, InUse, Refused}
use Rattle.cg_model.specs.Opens.{commits, opens}
use Rattle.cg_model.specs.Tree.{Tree}
use Rattle.cg_name.specs.declared.refusal.Refusal.TheVariants.{Memory, Syntax}
use Rattle.cg_world_text.specs.World.{SpellsWorld}

-- what is behind a handle: a machine, where it has the mark of an open one
abbrev pub holds : Handle → Option Told
holds h = if nat_eq h.mark 7162821792970597742 then h.held.teller else None

-- A call of a machine: behind a closed handle there is none, and the call says so and does nothing; else it is done as P says, and
-- its status is given by its number.
abbrev pub OnHeld : Option Told → Option Told → ℕ → (Told → Status → Told → Type 0) → Type 0
OnHeld None new number P = (number ≡ status_number Closed) × (new ≡ None)
OnHeld (Some s) new number P = (t : Told) × (status : Status) × P s status t × (new ≡ Some t) × (number ≡ status_number status)

-- why no machine is opened: the limit is none of a history, the text spells no world, or there is no memory
abbrev pub WhyNotOpened : List ℕ → ℕ → ℕ → Type 0
WhyNotOpened world limit number =
    ((number ≡ status_number BadLimit) × (limit < 2 ⊎ 1048576 < limit))
    ⊎ (((number ≡ status_number (Refused Syntax)) × ((T : Tree) → SpellsWorld world T → ⊥)) ⊎ (number ≡ status_number (Refused Memory)))

-- a machine is opened on a world, behind a closed handle alone
abbrev pub OpensHeld : Option Told → Option Told → List ℕ → ℕ → ℕ → Type 0
OpensHeld (Some s) new world limit number = (number ≡ status_number InUse) × (new ≡ Some s)
OpensHeld None new world limit number =
    ((T : Tree) × SpellsWorld world T × (2 ≤ limit) × (limit ≤ 1048576) × (new ≡ Some (told_first T limit)) × (number ≡ status_number Done))
    ⊎ (WhyNotOpened world limit number × (new ≡ None))

-- an open handle is closed, and a closed one stays so
abbrev pub Closes : Option Told → Option Told → ℕ → Type 0
Closes (Some s) new number = (number ≡ status_number Done) × (new ≡ None)
Closes None new number = (number ≡ status_number Closed) × (new ≡ None)

-- the text that was told last: none behind a closed handle
abbrev pub text_held : Option Told → List ℕ
text_held None = []
text_held (Some s) = s.text

-- how many transactions are open
abbrev pub open_held : Option Told → ℕ
open_held None = 0
open_held (Some s) = length (opens s.machine.core.history)

-- how many transactions committed
abbrev pub committed_held : Option Told → ℕ
committed_held None = 0
committed_held (Some s) = commits s.machine.core.history

-- the word of the refusals with a number is copied, as far as there is room
abbrev pub CopiesWord : ℕ → List ℕ → List ℕ → ℕ → Type 0
CopiesWord number old new count = (word : List ℕ) × IsWordOf number word × Copies word old new count
