-- How the lines of the world at the head of a text are taken.
use Rattle.std.specs.Prelude.{◌≡◌, ◌⊎◌, ℕ, ◌+◌, ◌<◌, List, ◌∷◌, [], ◌++◌, length, Option, Some, None, ⊤}
use Rattle.std.specs.List.{AllByRecursion}
use Rattle.std.specs.Io.KnownBytes.{Consumes}
use Rattle.cg_text.specs.Words.{Line}
use Rattle.cg_model.specs.Tree.{Tree}
use Rattle.cg_world_text.specs.declared.stage.Stage.{Stage}
use Rattle.cg_world_text.specs.Reader.{EndsWorld, HasTaken, SpellTree}
use Rattle.cg_lines.specs.Lines.{HasNoNewline}
use Rattle.cg_script.specs.WorldPart.{joined}

-- lines that have this front and so many bytes spell a tree only where that is too much
abbrev pub SpoilWorld : List Line → ℕ → Type 0
SpoilWorld lines bytes = (others : List Line) (T : Tree) → SpellTree (lines ++ others) T → 16777216 < bytes

-- and a line behind them that has no newline, with which they have so many bytes, ends a world only where that is too much
abbrev pub SpoilEnd : List Line → Line → ℕ → Type 0
SpoilEnd lines line bytes = EndsWorld line → (T : Tree) → SpellTree (lines ++ line ∷ []) T → 16777216 < bytes

-- known bytes are these, and none is left
abbrev pub EndsAt : Option (List ℕ) → Option (List ℕ) → List ℕ → Type 0
EndsAt None now bytes = ⊤
EndsAt (Some text) None bytes = ⊥
EndsAt (Some text) (Some rest) bytes = (text ≡ bytes) × (rest ≡ [])

-- A world's reader has taken the lines at the head of a known text, none of which ends a world; they have so many bytes with their
-- newlines, and the reader of lines goes on behind them.
pub record IsPart (start : Option (List ℕ)) (world : Stage) (bytes : ℕ) (now : Option (List ℕ)) : Type 0 where
  pub lines : List Line
  pub plain : AllByRecursion HasNoNewline lines
  pub open_lines : AllByRecursion (λ line. EndsWorld line → ⊥) lines
  pub past : Consumes start now (joined lines)
  pub counted : bytes ≡ length (joined lines)
  pub taken : HasTaken world lines

-- The same with one line more, which may end a world. It does where it has no newline, and then the text ends there.
pub record IsPartBehind (start : Option (List ℕ)) (world : Stage) (bytes : ℕ) (now : Option (List ℕ)) : Type 0 where
  pub lines : List Line
  pub last : Line
  pub plain : AllByRecursion HasNoNewline (lines ++ last ∷ [])
  pub open_lines : AllByRecursion (λ line. EndsWorld line → ⊥) lines
  pub through :
      (Consumes start now (joined lines ++ (last ++ 10 ∷ [])) × (bytes ≡ length (joined lines) + (length last + 1)))
      ⊎ (EndsWorld last × EndsAt start now (joined lines ++ last) × (bytes ≡ length (joined lines) + length last))
  pub taken : HasTaken world (lines ++ last ∷ [])
