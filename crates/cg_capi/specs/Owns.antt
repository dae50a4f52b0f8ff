-- What the pointer owns that C keeps.
use Rattle.std.specs.Prelude.{Option, Some, None}
use mir.Syntax.{Ty}
use base.Fml.{Fml, ftrue}
use denote.RawPtr.{Ptr}
use Rattle.std.specs.Box.Ownership.{box_owns}
use Rattle.std.specs.contracts.impls.GlobalAllocator.TheImpl.{ghosts}
use Rattle.cg_line_machine.specs.contracts.teller.Teller.{the_row}

-- the right to free a block of the C library's heap, whatever handle to that heap frees it
abbrev pub may_free : Ty → Ptr → Fml
may_free = ghosts.dealloc_token (record { memory = record { seal = tt } })

-- nothing, or the memory of a box with this teller in it
abbrev pub held_owns : Ptr → Option the_row.Denot → Fml
held_owns p None = ftrue
held_owns p (Some x) = box_owns may_free the_row p x
