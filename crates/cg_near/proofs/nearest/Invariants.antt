use Rattle.std.proofs.Common.{◌≡◌, ℕ, ◌<◌, ◌≤◌, slice_index_or}
use Rattle.cg_name.specs.declared.file_name.FileName.TheVariants.{Procs}
use Rattle.cg_near.specs.Near.{edits_to}
use Rattle.cg_near.specs.declared.TheConstants.{OTHERS}
use Rattle.cg_near.proofs.nearest.Given as goal

-- no file so far takes fewer edits
abbrev pub invariant-loop-file : goal.invariant-loop-file
invariant-loop-file l = record {
  edits : l.fewest ≡ edits_to l.word l.nearest;
  first : l.fewest ≤ edits_to l.word Procs;
  others : (k : ℕ) → k < l.file-index → l.fewest ≤ edits_to l.word (slice_index_or OTHERS k Procs);
}
