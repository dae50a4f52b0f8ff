-- What a reader of lines takes of a text.
use Rattle.std.specs.Prelude.{◌≡◌, ◌≢◌, ℕ, ◌+◌, ◌-◌, ◌*◌, ◌≤◌, ◌<◌, ◌⊎◌, Bool, true, false, List, [], ◌∷◌, ◌++◌, length, take, drop, get_or, All, Option, Some, None, ⊤}
use Rattle.std.specs.List.{slice_range}
use Rattle.std.specs.Io.KnownBytes.{prepend_known, Consumes}
use Rattle.cg_text.specs.Words.{lines_of}
use Rattle.cg_lines.specs.Device.{Failed, more}
use Rattle.cg_lines.specs.declared.lines.LineKind.{LineKind}
use Rattle.cg_lines.specs.declared.lines.LineKind.TheVariants.{End, TooLong, Text, Last}

-- no byte is a newline
abbrev pub HasNoNewline : List ℕ → Type 0
HasNoNewline bytes = All (λ b. b ≢ 10) bytes

-- all of the text is one line, without a newline
abbrev pub IsLastLine : List ℕ → List ℕ → List ℕ → Type 0
IsLastLine text line rest = (text ≡ line) × (0 < length line) × (rest ≡ [])

-- the text's first line ends at a newline, and the rest follows it; or it is all of the text
abbrev pub BeginsWithLine : List ℕ → List ℕ → List ℕ → Type 0
BeginsWithLine text line rest = HasNoNewline line × ((text ≡ line ++ 10 ∷ rest) ⊎ IsLastLine text line rest)

-- what a line with a newline is called, by whether its bytes are at most 65,536
abbrev pub kind_where : Bool → LineKind
kind_where true = Text
kind_where false = TooLong

-- and one without
abbrev pub ending_kind_where : Bool → LineKind
ending_kind_where true = Last
ending_kind_where false = TooLong

-- the same at the end of the input, where a line with no byte is none
abbrev pub last_kind_where : Bool → List ℕ → LineKind
last_kind_where false line = TooLong
last_kind_where true [] = End
last_kind_where true (b ∷ bytes) = Last

-- A step through the text: it is at its end, or its first line is taken, with all of its bytes where
-- they are at most 65,536 and with none where they are more.
abbrev pub TakesLine : List ℕ → LineKind → List ℕ → List ℕ → Type 0
TakesLine text End line rest = (text ≡ []) × (line ≡ []) × (rest ≡ [])
TakesLine text TooLong line rest = (line ≡ []) × (whole : List ℕ) × (65536 < length whole) × BeginsWithLine text whole rest
TakesLine text Text line rest = (length line ≤ 65536) × HasNoNewline line × (text ≡ line ++ 10 ∷ rest)
TakesLine text Last line rest = (length line ≤ 65536) × HasNoNewline line × IsLastLine text line rest

-- the same where the text is known
abbrev pub TakesKnownLine : Option (List ℕ) → LineKind → List ℕ → Option (List ℕ) → Type 0
TakesKnownLine None kind line new = ⊤
TakesKnownLine (Some text) kind line None = ⊥
TakesKnownLine (Some text) kind line (Some rest) = TakesLine text kind line rest

-- known bytes lose nothing, or some bytes at the front of their first line
abbrev pub LosesOfLine : Option (List ℕ) → Option (List ℕ) → Type 0
LosesOfLine old new = (bytes : List ℕ) × HasNoNewline bytes × Consumes old new bytes

-- a reader of lines
pub record Reading : Type 0 where
  -- the bytes that were read and not given yet
  pub buffered : List ℕ
  -- the bytes that the source has left, where it tells
  pub left : Option (List ℕ)
  -- the bytes of the line that was given last
  pub line : List ℕ
  -- how many reads of the source had failed when the reader was made
  pub failed_before : ℕ
  -- how many have failed now
  pub failures : ℕ
  -- how many reads the reader has made
  pub reads : ℕ
  -- a call has answered with a fault
  pub is_broken : Bool

-- the bytes that are to be given, where the source tells
abbrev pub pending : Reading → Option (List ℕ)
pending r = prepend_known r.buffered r.left

-- a source that is read a chunk at a time
pub record ChunkReading : Type 0 where
  -- the bytes that the last read gave
  pub read : List ℕ
  -- those of them that are not given yet
  pub buffered : List ℕ
  -- the bytes that the source has left, where it tells
  pub left : Option (List ℕ)
  -- how many reads of the source had failed when reading began
  pub failed_before : ℕ
  -- how many have failed now
  pub failures : ℕ
  -- how many reads were made
  pub reads : ℕ
  -- a call has answered with a fault
  pub is_broken : Bool

-- a line that was given stands at its place in what was read, or else it was gathered over reads
abbrev pub line_at : Option (ℕ × ℕ) → List ℕ → List ℕ → List ℕ
line_at None read gathered = gathered
line_at (Some place) read gathered = slice_range read place.0 place.1

-- a reader of lines, by the source that it reads and the line that it gave last
abbrev pub reading_of : ChunkReading → List ℕ → Reading
reading_of r given = record {
  buffered = r.buffered;
  left = r.left;
  line = given;
  failed_before = r.failed_before;
  failures = r.failures;
  reads = r.reads;
  is_broken = r.is_broken;
}

-- the bytes that are to be given, where the source tells
abbrev pub pending_of : ChunkReading → Option (List ℕ)
pending_of r = prepend_known r.buffered r.left

-- how many more bytes a reader can give at most, each read counted as one
abbrev pub bytes_to_come : Reading → ℕ
bytes_to_come r = (67108864 - r.reads) * 65537 + length r.buffered

-- why a reader breaks: a read of the source failed since the reader was made, or it made all its reads
abbrev pub CanBreak : ℕ → ℕ → ℕ → Type 0
CanBreak failed_before failures reads = Failed failed_before failures ⊎ (reads ≡ 67108864)

-- What breaks a reader in a call: it went on past all bytes that were read, and then one read of the source
-- failed, or one more were too many.
abbrev pub BreaksNow : Reading → Reading → Type 0
BreaksNow old new = (new.buffered ≡ []) × ((new.failures ≡ more old.failures) ⊎ (new.reads ≡ 67108864))

-- The bytes of a line so far are gathered: all of them where they are at most 65,536, and none where they are more.
abbrev pub IsGathered : List ℕ → Bool → List ℕ → Type 0
IsGathered bytes true line = (line ≡ bytes) × (length bytes ≤ 65536)
IsGathered bytes false line = (line ≡ []) × (65536 < length bytes)

-- bytes of a line were taken off a text: with the newline that ends it, or else all of the text
abbrev pub TakesPiece : List ℕ → List ℕ → Bool → List ℕ → Type 0
TakesPiece text bytes true rest = text ≡ bytes ++ 10 ∷ rest
TakesPiece text bytes false rest = (text ≡ bytes) × (rest ≡ [])

-- n is the place of the first newline
abbrev pub IsFirstNewline : List ℕ → ℕ → Type 0
IsFirstNewline bytes n = (n < length bytes) × HasNoNewline (take n bytes) × (bytes ≡ take n bytes ++ 10 ∷ drop (n + 1) bytes)

-- the lines that end in the bytes end before n: the byte before it is a newline, where there is one, and no later byte is
pub record EndsWholeLines (bytes : List ℕ) (n : ℕ) : Type 0 where
  pub within : n ≤ length bytes
  pub newline : (m : ℕ) → n ≡ m + 1 → get_or bytes m 0 ≡ 10
  pub last : HasNoNewline (drop n bytes)

-- a step through a text's lines: there is none, or the first is taken
abbrev pub TakesFirst : List (List ℕ) → LineKind → List ℕ → List (List ℕ) → Type 0
TakesFirst lines End line rest = (lines ≡ []) × (rest ≡ [])
TakesFirst lines TooLong line rest = (whole : List ℕ) × (65536 < length whole) × (lines ≡ whole ∷ rest)
TakesFirst lines Text line rest = (length line ≤ 65536) × (lines ≡ line ∷ rest)
TakesFirst lines Last line rest = (length line ≤ 65536) × (lines ≡ line ∷ rest) × (rest ≡ [])

-- the law of steps: a step through a text is a step through its lines
abbrev pub StepsAreLines : Type 0
StepsAreLines = (text : List ℕ) (kind : LineKind) (line rest : List ℕ) → TakesLine text kind line rest → TakesFirst (lines_of text) kind line (lines_of rest)
