-- A text that is read in pieces.
use Rattle.std.proofs.Common.{ℕ, ◌+◌, ◌≤◌, ◌<◌, List, ◌++◌, length, take, sym, subst, arith, length-append, length-take}
use Rattle.std.specs.Prelude.{Option, Result, Ok, Err}
use Rattle.std.specs.Io.{ReadsAtMost}
use Rattle.std.specs.Io.KnownBytes.{Consumes, ReadConsumes}
use Rattle.std.proofs.lemmas.List.{take-append-le}
use Rattle.cg_lines.proofs.LinesLemmas.{Consumes-append}

-- what a read into the front of a buffer gave stands at the front of the buffer
pub ReadConsumes-longer : {E : Type 0} (a b : Option (List ℕ)) (r : Result ℕ E) (part rest : List ℕ) → 0 < length part → ReadsAtMost r part → ReadConsumes a b r part → ReadConsumes a b r (part ++ rest)
ReadConsumes-longer a b (Ok n) part rest some few h = (subst (Consumes a b) (sym (take-append-le n part rest few.0)) h.0, λ none _. h.1 none some)
ReadConsumes-longer a b (Err e) part rest some few h = h

-- one more piece is taken
pub taken_more : (a b c : Option (List ℕ)) (bytes chunk : List ℕ) (n most : ℕ) → Consumes a b bytes → Consumes b c (take n chunk) → length bytes + n ≤ most → (front : List ℕ) × (length front ≤ most) × Consumes a c front
taken_more a b c bytes chunk n most h k few = (bytes ++ take n chunk, omega (arith, few, length-append bytes (take n chunk), length-take n chunk), Consumes-append a b c bytes (take n chunk) h k)
