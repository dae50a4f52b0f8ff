use Rattle.std.proofs.Common.{◌≡◌}
use Rattle.cg_name.specs.Path.{path_cmp}
use Rattle.cg_maps.specs.FiniteMap.{empty, from_entries}
use Rattle.cg_world.proofs.Puts.{puts}
use Rattle.cg_world.proofs.plain.copy_groups.Given as goal

-- the copy and the entries that are left make the whole
abbrev pub invariant-loop-path : goal.invariant-loop-path
invariant-loop-path l = puts (from_entries path_cmp l.made.entries) l.path-iterator ≡ puts empty l.groups.entries
