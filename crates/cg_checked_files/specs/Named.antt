-- Texts that words name, and whether they are right.
use Rattle.std.specs.Prelude.{ℕ, List, Option, Some, None, IfSome}
use Rattle.cg_program.specs.Named.{named}
use Rattle.cg_check.specs.Right.{IsRight}
use Rattle.cg_check.specs.declared.kind.Kind.{Kind}

-- the text is right as one of this kind, or of some kind where none is asked for
abbrev pub IsRightAs : Option Kind → List ℕ → Type 0
IsRightAs None text = (kind : Kind) × IsRight kind text
IsRightAs (Some kind) text = IsRight kind text

-- it isn't
abbrev pub IsWrongAs : Option Kind → List ℕ → Type 0
IsWrongAs None text = (kind : Kind) × (IsRight kind text → ⊥)
IsWrongAs (Some kind) text = IsRight kind text → ⊥

-- the text that a word names, of standard input or of the file of this name, is right where it is known
abbrev pub IsRightNamed : Option (List ℕ) → (List ℕ → Option (List ℕ)) → Option Kind → List ℕ → Type 0
IsRightNamed standard file kind word = IfSome (named standard file word) (IsRightAs kind)

-- it isn't
abbrev pub IsWrongNamed : Option (List ℕ) → (List ℕ → Option (List ℕ)) → Option Kind → List ℕ → Type 0
IsWrongNamed standard file kind word = IfSome (named standard file word) (IsWrongAs kind)
