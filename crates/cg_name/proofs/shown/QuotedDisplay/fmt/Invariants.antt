use Rattle.std.proofs.Common.{◌≡◌, ℕ, List, ◌∷◌, ◌++◌}
use Rattle.std.specs.Fmt.{HasWritten, IsPlainFormatter}
use Rattle.std.specs.List.{flat_map}
use Rattle.cg_name.specs.Word.{quoted_byte}
use Rattle.cg_name.proofs.shown.QuotedDisplay.fmt.Given as goal

-- what is shown and the names that are left are the whole path
abbrev pub invariant-loop-name : goal.invariant-loop-name
invariant-loop-name g l = IsPlainFormatter l.initial.f → (done : List ℕ) × HasWritten g.W.Write.write_str_gives l.initial.f done l.f × (done ++ flat_map quoted_byte (flat_map (λ n. 47 ∷ n) l.name-iterator) ≡ flat_map quoted_byte (flat_map (λ n. 47 ∷ n) l.self.0.now))
