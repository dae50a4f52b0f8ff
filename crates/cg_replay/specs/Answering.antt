-- Lines that are answered one after another, by whatever answers them: from a state a line is answered something, and another
-- state is left.
use Rattle.std.specs.Prelude.{◌≡◌, ℕ, List, [], ◌∷◌, ◌++◌, Option, Some, None}
use Rattle.std.specs.Io.KnownBytes.{Appends}
use Rattle.cg_text.specs.Words.{lines_of}
use Rattle.cg_lines.specs.Device.{AppendsFront}
use Rattle.cg_lines.specs.Lines.{LosesOfLine}

-- the lines are answered one after another
abbrev pub EachAnswers : {S : Type 0} → (S → List ℕ → List ℕ → S → Type 0) → S → List (List ℕ) → List ℕ → S → Type 0
EachAnswers Answers s [] out t = (out ≡ []) × (t ≡ s)
EachAnswers {S} Answers s (line ∷ lines) out t =
    (first : List ℕ) × (others : List ℕ) × (u : S) × Answers s line first u × EachAnswers Answers u lines others t × (out ≡ first ++ others)

-- the first line of a text is answered, and the rest is left
abbrev pub FirstAnswers : {S : Type 0} → (S → List ℕ → List ℕ → S → Type 0) → S → List ℕ → List ℕ → S → Option (List ℕ) → Type 0
FirstAnswers Answers s text out t None = ⊥
FirstAnswers Answers s text out t (Some rest) = (line : List ℕ) × (lines_of text ≡ line ∷ lines_of rest) × Answers s line out t

-- The lines at the front of a text were answered, and nothing else was written: a reader went past them, and then lost
-- nothing, or some bytes at the front of the line behind them.
abbrev pub PassedAnswers : {S : Type 0} → (S → List ℕ → List ℕ → S → Type 0) → S → List ℕ → Option (List ℕ) → Option (List ℕ) → Option (List ℕ) → Type 0
PassedAnswers {S} Answers s text left old new =
    (passed : List (List ℕ)) × (behind : List ℕ) × (lines_of text ≡ passed ++ lines_of behind) × LosesOfLine (Some behind) left
    × (answers : List ℕ) × (t : S) × EachAnswers Answers s passed answers t × Appends old new answers

-- what was written is the front of the answers to lines at the front of a text
abbrev pub FrontAnswers : {S : Type 0} → (S → List ℕ → List ℕ → S → Type 0) → S → List ℕ → Option (List ℕ) → Option (List ℕ) → Type 0
FrontAnswers {S} Answers s text old new =
    (passed : List (List ℕ)) × (behind : List (List ℕ)) × (lines_of text ≡ passed ++ behind)
    × (answers : List ℕ) × (t : S) × EachAnswers Answers s passed answers t × AppendsFront old new answers
