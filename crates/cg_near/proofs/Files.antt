-- All interface files.
use Rattle.std.proofs.Common.{ℕ, ◌<◌, lit<, slice_index_or}
use Rattle.cg_name.specs.declared.file_name.FileName.{FileName}
use Rattle.cg_name.specs.declared.file_name.FileName.TheVariants.{Procs, Controllers, SubtreeControl, Events, Freeze, Cpus, EffectiveCpus, MaxDescendants, MaxDepth}
use Rattle.cg_near.specs.declared.TheConstants.{OTHERS}

-- what holds of the first and of the others holds of each
pub of_each : (P : FileName → Type 0) → P Procs → ((k : ℕ) → k < 8 → P (slice_index_or OTHERS k Procs)) → (file : FileName) → P file
of_each P first others Procs = first
of_each P first others Controllers = others 0 (lit< tt)
of_each P first others SubtreeControl = others 1 (lit< tt)
of_each P first others Events = others 2 (lit< tt)
of_each P first others Freeze = others 3 (lit< tt)
of_each P first others Cpus = others 4 (lit< tt)
of_each P first others EffectiveCpus = others 5 (lit< tt)
of_each P first others MaxDescendants = others 6 (lit< tt)
of_each P first others MaxDepth = others 7 (lit< tt)
