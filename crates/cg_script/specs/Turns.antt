-- What the lines of a schedule ask: of which session, by its number.
use Rattle.std.specs.Prelude.{◌≡◌, ℕ, ◌+◌, nat_eq, nat_lt, if◌then◌else◌, List, [], ◌∷◌, ◌++◌, length, Option, Some, None, position}
use Rattle.std.specs.List.{list_any}
use Rattle.std.specs.Cmp.Lexicographic.{pointwise}
use Rattle.cg_model.specs.Cgroups.{cgroups}
use Rattle.cg_model.specs.History.{Request}
use Rattle.cg_script.specs.Request.{SpellsLine}

-- the number after this place
abbrev pub number_after : Option ℕ → Option ℕ
number_after None = None
number_after (Some i) = Some (i + 1)

-- the number of a session: its place among the names from 1 on; a new name has the next one, up to 4,096
abbrev pub session_number : List (List ℕ) → List ℕ → Option ℕ
session_number names n =
    if list_any (pointwise nat_eq n) names then number_after (position (pointwise nat_eq n) names)
    else (if nat_lt (length names) 4096 then Some (length names + 1) else None)

-- the names with this one
abbrev pub with_name : List (List ℕ) → List ℕ → List (List ℕ)
with_name names n = if list_any (pointwise nat_eq n) names then names else names ++ n ∷ []

-- a session of a line has no number: its name is one too many
abbrev pub IsOneTooMany : List (List ℕ) → Option (List ℕ × Request cgroups) → Type 0
IsOneTooMany names None = ⊥
IsOneTooMany names (Some call) = session_number names call.0 ≡ None

-- what a line is: one that says nothing, a request of the session with a number, or one to be refused
pub data Turn : Type 0 where
  Skip : Turn
  Ask : ℕ → Request cgroups → Turn
  Fail : Turn

-- the line is that, where sessions have these names so far; and the names behind it
abbrev pub IsTurn : List (List ℕ) → List ℕ → Turn → List (List ℕ) → Type 0
IsTurn names line Skip behind = SpellsLine line None × (behind ≡ names)
IsTurn names line (Ask k r) behind = (n : List ℕ) × SpellsLine line (Some (n, r)) × (session_number names n ≡ Some k) × (behind ≡ with_name names n)
IsTurn names line Fail behind = ((call : Option (List ℕ × Request cgroups)) → SpellsLine line call → IsOneTooMany names call) × (behind ≡ names)

-- so are the lines, one after another
abbrev pub AreTurns : List (List ℕ) → List (List ℕ) → List Turn → Type 0
AreTurns names [] [] = Unit {0}
AreTurns names (line ∷ lines) (t ∷ ts) = (behind : List (List ℕ)) × IsTurn names line t behind × AreTurns behind lines ts
AreTurns names _ _ = ⊥

-- what is asked, in the order of the lines
abbrev pub asked : List Turn → List (ℕ × Request cgroups)
asked [] = []
asked (Ask k r ∷ ts) = (k, r) ∷ asked ts
asked (_ ∷ ts) = asked ts
