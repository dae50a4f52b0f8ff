use Rattle.std.proofs.Common.{◌≡◌}
use Rattle.std.specs.Ordering.{nat_cmp}
use Rattle.cg_maps.specs.FiniteMap.{empty, from_entries}
use Rattle.cg_world.proofs.Puts.{puts}
use Rattle.cg_world.proofs.plain.copy_places.Given as goal

-- the copy and the entries that are left make the whole
abbrev pub invariant-loop-pid : goal.invariant-loop-pid
invariant-loop-pid l = puts (from_entries nat_cmp l.made.entries) l.pid-iterator ≡ puts empty l.places.entries
