-- What sources and sinks do in one call, where they tell their bytes.
use Rattle.std.specs.Prelude.{◌≡◌, ℕ, ◌+◌, ◌-◌, ◌^◌, ◌<◌, ◌⊎◌, min, List, ◌++◌, take, Option, Result, MatchResult}
use Rattle.std.specs.Io.KnownBytes.{Appends}

-- one more failure is counted, up to the greatest number
abbrev pub more : ℕ → ℕ
more n = min (n + 1) (2 ^ 64 - 1)

-- a call failed between the two counts: there are more now, or the count stands at its greatest
abbrev pub Failed : ℕ → ℕ → Type 0
Failed old new = (old < new) ⊎ (new ≡ 2 ^ 64 - 1)

-- known bytes grow by what stands in `bytes` before `rest`
abbrev pub AppendsTo : Option (List ℕ) → Option (List ℕ) → List ℕ → List ℕ → Type 0
AppendsTo old new bytes rest = (front : List ℕ) × (bytes ≡ front ++ rest) × Appends old new front

-- known bytes grow by some bytes at the front of `bytes`
abbrev pub AppendsFront : Option (List ℕ) → Option (List ℕ) → List ℕ → Type 0
AppendsFront old new bytes = (rest : List ℕ) × AppendsTo old new bytes rest

-- the n bytes that were taken at `Ok(n)` were appended, and at `Err` some bytes at the front
abbrev pub WritesFront : {E : Type 0} → Option (List ℕ) → Option (List ℕ) → Result ℕ E → List ℕ → Type 0
WritesFront old new r bytes = MatchResult r (λ n. Appends old new (take n bytes)) (λ _. AppendsFront old new bytes)

-- all the bytes were appended at `Ok`, and at `Err` some at the front
abbrev pub WritesWhole : {T E : Type 0} → Option (List ℕ) → Option (List ℕ) → Result T E → List ℕ → Type 0
WritesWhole old new r bytes = MatchResult r (λ _. Appends old new bytes) (λ _. AppendsFront old new bytes)
