-- Which transactions are open, and how many were begun and committed.
use Rattle.std.specs.Prelude.{ℕ, ◌+◌, ◌==◌, ◌||◌, Bool, false, cond, List, [], ◌∷◌, Option, Some, None}
use Rattle.cg_model.specs.System.{System}
use Rattle.cg_model.specs.History.{Answer, Begun, Committed, Aborted, History}

-- open transactions, each as its session and its number
abbrev pub Opens : Type 0
Opens = List (ℕ × ℕ)

-- the numbers alone
abbrev pub numbers : Opens → List ℕ
numbers [] = []
numbers (p ∷ ps) = p.1 ∷ numbers ps

-- a number is among these
abbrev pub among : ℕ → List ℕ → Bool
among u [] = false
among u (t ∷ ts) = (u == t) || among u ts

-- without the transaction t
abbrev pub without : ℕ → Opens → Opens
without t [] = []
without t (p ∷ ps) = cond (p.1 == t) (without t ps) (p ∷ without t ps)

-- the open transaction of a session
abbrev pub transaction_in : ℕ → Opens → Option ℕ
transaction_in s [] = None
transaction_in s (p ∷ ps) = cond (p.0 == s) (Some p.1) (transaction_in s ps)

-- those open after an answer to session s in transaction t
abbrev pub opens_after : Answer → ℕ → ℕ → Opens → Opens
opens_after (Begun u) s t ps = (s, u) ∷ ps
opens_after (Committed k) s t ps = without t ps
opens_after (Aborted u) s t ps = without t ps
opens_after _ s t ps = ps

-- a transaction is open from its Begin until its Commit or Abort
abbrev pub opens : {y : System} → History y → Opens
opens [] = []
opens (r ∷ h) = opens_after r.answer r.session r.transaction (opens h)

-- the count after one more answer
abbrev pub begins_after : Answer → ℕ → ℕ
begins_after (Begun u) n = n + 1
begins_after _ n = n

-- how many transactions were begun
abbrev pub begins : {y : System} → History y → ℕ
begins [] = 0
begins (r ∷ h) = begins_after r.answer (begins h)

-- the count after one more answer
abbrev pub commits_after : Answer → ℕ → ℕ
commits_after (Committed k) n = n + 1
commits_after _ n = n

-- how many were committed
abbrev pub commits : {y : System} → History y → ℕ
commits [] = 0
commits (r ∷ h) = commits_after r.answer (commits h)
