-- Answers that wait to be written.
use Rattle.std.specs.Prelude.{◌≡◌, ◌<◌, ◌⊎◌, ℕ, List, [], length}
use Rattle.cg_lines.specs.Lines.{Reading, IsFirstNewline}

-- what a reader has read holds its next line whole: it gives that without a read of its source
abbrev pub HasLine : Reading → Type 0
HasLine r = (n : ℕ) × IsFirstNewline r.buffered n

-- these bytes may wait while the reader goes on to its next line: that needs no read, which may last, and they are few; or there
-- are none
abbrev pub MayWait : Reading → List ℕ → Type 0
MayWait r bytes = (HasLine r × (length bytes < 65536)) ⊎ (bytes ≡ [])
