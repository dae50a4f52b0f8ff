-- Records as a history, and how many of them began and committed transactions.
use Rattle.std.proofs.Common.{◌≡◌, ℕ, ◌+◌, ◌≤◌, List, [], ◌∷◌, ◌++◌, length, map, reverse, ap, ◌∙◌, arith}
use Rattle.std.proofs.lemmas.List.{length-map, length-reverse, map-append, reverse-append}
use Rattle.cg_model.specs.Cgroups.{cgroups}
use Rattle.cg_model.specs.History as model
use Rattle.cg_model.specs.Opens.{begins, begins_after, commits, commits_after}
use Rattle.cg_history.specs.declared.record.Record.{Record}
use Rattle.cg_history.specs.Meaning.{history_of, record_of}

-- the last record is the newest
pub newest : (rs : List Record) (r : Record) → history_of (rs ++ r ∷ []) ≡ record_of r ∷ history_of rs
newest rs r = ap reverse (map-append record_of rs (r ∷ [])) ∙ reverse-append (map record_of rs) (record_of r ∷ [])

-- as many
pub same_length : (rs : List Record) → length (history_of rs) ≡ length rs
same_length rs = length-reverse (map record_of rs) ∙ length-map rs record_of

-- an answer begins one transaction at most, and commits one at most
at_most_one : (a : model.Answer) (n : ℕ) → (begins_after a n ≤ n + 1) × (commits_after a n ≤ n + 1)
at_most_one (model.Begun t) n = (omega arith, omega arith)
at_most_one (model.Gave o) n = (omega arith, omega arith)
at_most_one model.Saved n = (omega arith, omega arith)
at_most_one (model.WentBack k) n = (omega arith, omega arith)
at_most_one (model.Committed k) n = (omega arith, omega arith)
at_most_one (model.Aborted t) n = (omega arith, omega arith)
at_most_one (model.Refused r) n = (omega arith, omega arith)

pub begins_within : (h : model.History cgroups) → begins h ≤ length h
begins_within [] = omega (arith)
begins_within (r ∷ h) = omega (arith, begins_within h, (at_most_one r.answer (begins h)).0)

pub commits_within : (h : model.History cgroups) → commits h ≤ length h
commits_within [] = omega (arith)
commits_within (r ∷ h) = omega (arith, commits_within h, (at_most_one r.answer (commits h)).1)
