-- Values by sessions, the newest first.
use Rattle.std.specs.Prelude.{◌≡◌, ℕ, ◌==◌, cond, List, [], ◌∷◌, ◌++◌, Option, Some, None}
use Rattle.cg_history.specs.declared.session.SessionId.{SessionId}

-- the entries, of which the oldest stands first
abbrev pub by_session : {V : Type 0} → List (SessionId × V) → List (ℕ × V)
by_session [] = []
by_session (e ∷ es) = by_session es ++ (e.0.0, e.1) ∷ []

-- the value of the session s
abbrev pub found : {V : Type 0} → ℕ → List (ℕ × V) → Option V
found s [] = None
found s (x ∷ xs) = cond (x.0 == s) (Some x.1) (found s xs)

-- s has this value
abbrev pub with_value : {V : Type 0} → ℕ → V → List (ℕ × V) → List (ℕ × V)
with_value s v [] = []
with_value s v (x ∷ xs) = (x.0, cond (x.0 == s) v x.1) ∷ with_value s v xs

-- without the value of s
abbrev pub without : {V : Type 0} → ℕ → List (ℕ × V) → List (ℕ × V)
without s [] = []
without s (x ∷ xs) = cond (x.0 == s) (without s xs) (x ∷ without s xs)

-- no session has two
abbrev pub IsOnceEach : {V : Type 0} → List (ℕ × V) → Type 0
IsOnceEach [] = Unit {0}
IsOnceEach (x ∷ xs) = (found x.0 xs ≡ None) × IsOnceEach xs

-- the session that came first, whose entry stands last
abbrev pub oldest : {V : Type 0} → List (ℕ × V) → Option ℕ
oldest [] = None
oldest (x ∷ []) = Some x.0
oldest (x ∷ y ∷ xs) = oldest (y ∷ xs)
