use Rattle.std.proofs.Common.{◌≡◌, true, take}
use Rattle.std.specs.List.{list_any}
use Rattle.cg_batch.proofs.named_scripts.is_script.Given as goal

-- none of the scripts so far is known to be the file of this name
abbrev pub invariant-loop-script : goal.invariant-loop-script
invariant-loop-script g l = list_any (λ script. g.P.Outputs.is_same l.files l.name script.now) (take l.script-index l.scripts) ≡ true → ⊥
