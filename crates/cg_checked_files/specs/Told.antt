-- What is told of checked texts as lines of JSON.
use Rattle.std.specs.Prelude.{◌≡◌, ◌⊎◌, ℕ, ◌<◌, ◌==◌, Bool, min, List, [], ◌∷◌, ◌++◌, length, map, take, codes, Option, IfSome}
use Rattle.std.specs.List.{AllByRecursion, flat_map, list_all}
use Rattle.std.specs.Io.KnownBytes.{Appends}
use Rattle.std.specs.Option.{option_copied}
use Rattle.json.specs.Json.{Json}
use Rattle.cg_json.specs.Text.{json_line, number, object, string, string_or_null}
use Rattle.cg_lines.specs.Device.{AppendsFront}
use Rattle.cg_program.specs.Named.{named}
use Rattle.cg_check.specs.Kinds.{kind_word}
use Rattle.cg_check.specs.Right.{IsRight}
use Rattle.cg_check.specs.declared.fault.Fault.{Fault}
use Rattle.cg_check.specs.declared.fault.Faults.{Faults}
use Rattle.cg_check.specs.declared.fault.Wrong.{Wrong}
use Rattle.cg_check.specs.declared.kind.Kind.{Kind}

-- ---- as values of JSON

-- a fault of the text of this name, at its line and column, with the word of which it is said
abbrev pub fault_value : List ℕ → Fault → Json
fault_value name f =
    object (
    (codes "file", string name)
    ∷ (codes "line", number f.line)
    ∷ (codes "column", number f.column)
    ∷ (codes "word", string_or_null (option_copied f.wrong.word))
    ∷ (codes "wrong", string f.wrong.is.now)
    ∷ (codes "wanted", string f.wrong.wanted.now)
    ∷ []
    )

-- how many faults the text of this name has, which was read as this kind
abbrev pub count_value : List ℕ → Kind → ℕ → Json
count_value name kind count = object ((codes "file", string name) ∷ (codes "kind", string (kind_word kind)) ∷ (codes "faults", number count) ∷ [])

-- what is told of a text: its name, the kind that it was read as, how many faults it has, and those that are told
pub record Told : Type 0 where
  pub name : List ℕ
  pub kind : Kind
  pub count : ℕ
  pub faults : List Fault

-- the faults, and how many there are
abbrev pub told_values : Told → List Json
told_values t = map (fault_value t.name) t.faults ++ count_value t.name t.kind t.count ∷ []

-- each value on a line of its own
abbrev pub lines_of_values : List Json → List ℕ
lines_of_values values = flat_map json_line values

abbrev pub told_lines : Told → List ℕ
told_lines t = lines_of_values (told_values t)

-- what is told of the faults of a text
abbrev pub told_of : List ℕ → Kind → Faults → Told
told_of name kind faults = record { name = name; kind = kind; count = faults.count; faults = faults.told.items }

-- ---- whether it is right

-- the text was read as the kind that is asked for, or else as some; the first 20 of its faults are told, or all; and it has none just
-- where the text that its name names, of standard input or of the file, is right as this kind, where that is known
pub record IsToldRight (standard : Option (List ℕ)) (file : List ℕ → Option (List ℕ)) (asked : Option Kind) (t : Told) : Type 0 where
  pub kind : IfSome asked (λ k. k ≡ t.kind)
  pub told : length t.faults ≡ min t.count 20
  pub right : IfSome (named standard file t.name) (λ text. t.count ≡ 0 → IsRight t.kind text)
  pub wrong : IfSome (named standard file t.name) (λ text. 0 < t.count → IsRight t.kind text → ⊥)

-- these are told of the texts of these names, one after another, and rightly
pub record AreTold (standard : Option (List ℕ)) (file : List ℕ → Option (List ℕ)) (asked : Option Kind) (names : List (List ℕ)) (told : List Told) : Type 0 where
  pub of_names : map (λ t. t.name) told ≡ names
  pub each : AllByRecursion (IsToldRight standard file asked) told

-- the text has no fault
abbrev pub has_none : Told → Bool
has_none t = t.count == 0

-- what is told of the texts of these names was appended, each value on a line of its own; and none has a fault just where all are right
abbrev pub AppendsTold : Option (List ℕ) → (List ℕ → Option (List ℕ)) → Option Kind → List (List ℕ) → Bool → Option (List ℕ) → Option (List ℕ) → Type 0
AppendsTold standard file asked names are_right old new =
    (told : List Told) × AreTold standard file asked names told × (list_all has_none told ≡ are_right) × Appends old new (lines_of_values (flat_map told_values told))

-- a front of what is told of some of these texts, the first ones, was appended
abbrev pub AppendsFrontTold : Option (List ℕ) → (List ℕ → Option (List ℕ)) → Option Kind → List (List ℕ) → Option (List ℕ) → Option (List ℕ) → Type 0
AppendsFrontTold standard file asked names old new =
    (k : ℕ) × (told : List Told) × AreTold standard file asked (take k names) told × AppendsFront old new (lines_of_values (flat_map told_values told))

-- ---- for private clauses

-- what is told of one text was appended
abbrev pub AppendsOne : Option (List ℕ) → (List ℕ → Option (List ℕ)) → Option Kind → List ℕ → Bool → Option (List ℕ) → Option (List ℕ) → Type 0
AppendsOne standard file asked name is_right old new =
    (told : Told) × (told.name ≡ name) × IsToldRight standard file asked told × (has_none told ≡ is_right) × Appends old new (told_lines told)

-- nothing was, or a front of it
abbrev pub AppendsFrontOfOne : Option (List ℕ) → (List ℕ → Option (List ℕ)) → Option Kind → List ℕ → Option (List ℕ) → Option (List ℕ) → Type 0
AppendsFrontOfOne standard file asked name old new =
    (new ≡ old) ⊎ ((told : Told) × (told.name ≡ name) × IsToldRight standard file asked told × AppendsFront old new (told_lines told))

-- the last fields of a fault, and of a count
abbrev pub wrong_fields : Wrong → List (List ℕ × Json)
wrong_fields w = (codes "word", string_or_null (option_copied w.word)) ∷ (codes "wrong", string w.is.now) ∷ (codes "wanted", string w.wanted.now) ∷ []

abbrev pub place_fields : Fault → List (List ℕ × Json)
place_fields f = (codes "line", number f.line) ∷ (codes "column", number f.column) ∷ wrong_fields f.wrong

abbrev pub kind_fields : Kind → ℕ → List (List ℕ × Json)
kind_fields kind count = (codes "kind", string (kind_word kind)) ∷ (codes "faults", number count) ∷ []
