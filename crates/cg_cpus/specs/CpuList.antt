-- Lists of CPU numbers: the sets that texts spell, and the canonical text of a set.
use Rattle.std.specs.Prelude.{◌≡◌, ℕ, ◌+◌, ◌≤◌, ◌==◌, ◌⊎◌, ◌↔◌, IsTrue, if◌then◌else◌, List, [], ◌∷◌, ◌++◌, map}
use Rattle.std.specs.List.{All, Any, slice_split, join_with_byte}
use Rattle.std.specs.Str.Parse.{IsNumeral, digits_value}
use Rattle.std.specs.Fmt.{decimal}
use Rattle.cg_maps.specs.FiniteSet.{FiniteSet, has, members, no_members}
use Rattle.cg_digits.specs.WhiteSpace.{trimmed}

-- a CPU number: decimal digits, leading zeros allowed, of a value of at most 1,023
abbrev pub IsCpuNumber : List ℕ → ℕ → Type 0
IsCpuNumber digits n = IsNumeral 10 digits × (digits_value 10 digits ≡ n) × (n ≤ 1023)

-- an element spells a range: one number, or its first and last number with a dash between them
abbrev pub SpellsRange : List ℕ → ℕ → ℕ → Type 0
SpellsRange element first last =
    (IsCpuNumber element first × (last ≡ first))
    ⊎ ((low : List ℕ) × (high : List ℕ) × (element ≡ low ++ 45 ∷ high) × IsCpuNumber low first × IsCpuNumber high last × (first ≤ last))

-- an element spells some range
abbrev pub IsElement : List ℕ → Type 0
IsElement element = (first : ℕ) × (last : ℕ) × SpellsRange element first last

-- an element stands for the numbers of its range
abbrev pub StandsFor : ℕ → List ℕ → Type 0
StandsFor n element = (first : ℕ) × (last : ℕ) × SpellsRange element first last × (first ≤ n) × (n ≤ last)

-- the elements spell the set of what they stand for
abbrev pub SpellsElements : List (List ℕ) → FiniteSet → Type 0
SpellsElements elements s = All IsElement elements × ((n : ℕ) → IsTrue (has s n) ↔ Any (StandsFor n) elements)

-- the empty text spells the empty set, and any other text is a row of elements with single commas between them
abbrev pub SpellsTrimmed : List ℕ → FiniteSet → Type 0
SpellsTrimmed [] s = s ≡ no_members
SpellsTrimmed (b ∷ bs) s = SpellsElements (slice_split (λ c. c == 44) (b ∷ bs)) s

-- a text spells a set; white space at both ends doesn't count
abbrev pub SpellsCpus : List ℕ → FiniteSet → Type 0
SpellsCpus text s = SpellsTrimmed (trimmed text) s

-- a number and the runs behind it: it joins the first where that begins with the next number
abbrev pub onto_runs : ℕ → List (ℕ × ℕ) → List (ℕ × ℕ)
onto_runs n [] = (n, n) ∷ []
onto_runs n (r ∷ rs) = if r.0 == n + 1 then (n, r.1) ∷ rs else (n, n) ∷ r ∷ rs

-- the maximal runs of ascending numbers, each as its first and last number
abbrev pub runs : List ℕ → List (ℕ × ℕ)
runs [] = []
runs (n ∷ ns) = onto_runs n (runs ns)

-- a run of one as its number, a longer one as its first and last number
abbrev pub run_text : ℕ × ℕ → List ℕ
run_text r = if r.0 == r.1 then decimal r.0 else decimal r.0 ++ 45 ∷ decimal r.1

-- the canonical text of a set
abbrev pub cpus_text : FiniteSet → List ℕ
cpus_text s = join_with_byte 44 (map run_text (runs (members s)))
