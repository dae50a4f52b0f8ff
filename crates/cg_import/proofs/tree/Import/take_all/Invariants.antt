use Rattle.std.proofs.Common.{◌≡◌, []}
use Rattle.cg_import.specs.Mounted.{IsMountedAt, IsWhole}
use Rattle.cg_import.proofs.tree.Import.take_all.Given as goal

-- the CPUs that are online stay, and the groups and processes are those of the files
abbrev pub invariant-loop-group : goal.invariant-loop-group
invariant-loop-group g l = record {
  online : l.self.tree.online ≡ l.initial.self.tree.online;
  read : IsMountedAt (g.P.Inputs.file l.inputs) (g.P.Inputs.is_missing l.inputs) l.root l.self.tree;
  whole : l.self.left_out.lines.items ≡ [] → IsWhole (g.P.Inputs.file l.inputs) (g.P.Inputs.is_missing l.inputs) l.root l.self.tree;
}
