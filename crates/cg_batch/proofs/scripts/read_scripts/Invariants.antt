use Rattle.std.proofs.Common.{◌≡◌, take, vec_len}
use Rattle.std.specs.List.{AllZip}
use Rattle.cg_script.specs.ScriptOf.{SpellsAs}
use Rattle.cg_batch.proofs.scripts.read_scripts.Given as goal

-- the texts so far spell the scripts, which are as many
abbrev pub invariant-loop-text : goal.invariant-loop-text
invariant-loop-text l = (vec_len l.scripts ≡ l.text-index) × AllZip (λ t s. SpellsAs t.items s) (take l.text-index l.texts) l.scripts.items
