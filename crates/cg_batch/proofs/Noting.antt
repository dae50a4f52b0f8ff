-- How transactions ended, record by record.
use Rattle.std.proofs.Common.{◌≡◌, ℕ, ◌+◌, ◌<◌, Bool, true, false, cond, List, [], ◌∷◌, ◌++◌, length, map, reverse, take, get_or, refl, sym, ap, ◌∙◌}
use Rattle.std.proofs.lemmas.List.{map-append, reverse-append, take_more}
use Rattle.std.specs.Prelude.{Option}
use Rattle.cg_history.specs.Meaning.{history_of, record_of}
use Rattle.cg_history.specs.declared.record.Record as code
use Rattle.cg_batch.specs.declared.outcomes.Outcome.{Outcome}

-- the history of some records and of one more
pub history_next : (rs : List code.Record) (i : ℕ) (r : code.Record) → i < length rs → r ≡ get_or rs i r → history_of (take (i + 1) rs) ≡ record_of r ∷ history_of (take i rs)
history_next rs i r inside is =
    ap history_of (take_more rs i r inside ∙ ap (λ x. take i rs ++ x ∷ []) (sym is))
    ∙ ap reverse (map-append record_of (take i rs) (r ∷ []))
    ∙ reverse-append (map record_of (take i rs)) (record_of r ∷ [])

-- what is no end changes nothing
pub none_noted : (b : Bool) (x : Option Outcome) → x ≡ cond b x x
none_noted true x = refl
none_noted false x = refl
