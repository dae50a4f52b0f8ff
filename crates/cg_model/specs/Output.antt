-- What a whole schedule is answered: each request in turn, and at its end the abort of what is still open.
use Rattle.std.specs.Prelude.{ℕ, List, [], ◌∷◌, ◌++◌, map, reverse}
use Rattle.cg_model.specs.System.{System}
use Rattle.cg_model.specs.History.{Request, Abort, Answer}
use Rattle.cg_model.specs.Opens.{opens}
use Rattle.cg_model.specs.Machine.{Machine, step}

-- the answers to requests of sessions, and the machine after them
abbrev pub answers : (y : System) → Machine y → List (ℕ × Request y) → List Answer × Machine y
answers y m [] = ([], m)
answers y m (p ∷ ps) = let after = step y m p.0 p.1 in let rest = answers y after.0 ps in (after.1 ∷ rest.0, rest.1)

-- an abort by the session of each open transaction, the least number first: in the history the newest stands first
abbrev pub aborts : {y : System} → Machine y → List (ℕ × Request y)
aborts m = map (λ p. (p.0, Abort)) (reverse (opens m.history))

-- the answers to a schedule, then those to the aborts of what is open at its end, and the last machine, whose tree is the result
abbrev pub output : (y : System) → Machine y → List (ℕ × Request y) → List Answer × Machine y
output y m asked = let asked_for = answers y m asked in let ends = answers y asked_for.1 (aborts asked_for.1) in (asked_for.0 ++ ends.0, ends.1)
