use Rattle.std.proofs.Common.{◌≡◌, ℕ, List, ◌++◌}
use Rattle.std.specs.Fmt.{HasWritten, IsPlainFormatter}
use Rattle.std.specs.List.{flat_map}
use Rattle.std.specs.Str.Iter.{chars_rest}
use Rattle.cg_name.specs.Word.{quoted_byte}
use Rattle.cg_name.proofs.shown.EscapedDisplay.fmt.Given as goal

-- what is shown and the characters that are left are the whole text
abbrev pub invariant-loop-character : goal.invariant-loop-character
invariant-loop-character g l = IsPlainFormatter l.initial.f → (done : List ℕ) × HasWritten g.W.Write.write_str_gives l.initial.f done l.f × (done ++ flat_map quoted_byte (chars_rest l.character-iterator) ≡ flat_map quoted_byte l.self.0.now)
