use Rattle.std.proofs.Common.{◌≡◌, true, take}
use Rattle.std.specs.Prelude.{IfSome}
use Rattle.std.specs.List.{AllZip, list_any}
use Rattle.cg_batch.proofs.named_scripts.read_named.Given as goal

-- the texts so far are those of the names so far, of which none is known to be missing
abbrev pub invariant-loop-name : goal.invariant-loop-name
invariant-loop-name g l =
    AllZip (λ name text. IfSome (g.P.Inputs.file l.files name.now) (λ known. text.items ≡ known)) (take l.name-index l.names) l.texts.items
    × (list_any (λ name. g.P.Inputs.is_missing l.files name.now) (take l.name-index l.names) ≡ true → ⊥)
