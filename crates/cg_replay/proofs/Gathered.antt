-- Lines that are gathered behind what waits, and written.
use Rattle.std.proofs.Common.{◌≡◌, ℕ, List, [], ◌∷◌, ◌++◌, Option, Some, None, refl, sym, ap, subst, ◌∙◌, append_assoc, append-nil}
use Rattle.std.specs.Io.KnownBytes.{Appends, Keeps}
use Rattle.cg_lines.specs.Device.{AppendsFront, AppendsTo}
use Rattle.cg_lines.proofs.DeviceLemmas.{Appends-nil, AppendsTo-behind, AppendsTo-front, AppendsTo-on, AppendsTo-whole}
use Rattle.cg_replay.proofs.Answered.{AppendsFront-longer}

kept : (o : Option (List ℕ)) → Keeps o o
kept None = tt
kept (Some xs) = refl

-- what waits, with what is to come, is what is left of the whole
pub record IsGathered (old new : Option (List ℕ)) (whole waiting coming : List ℕ) : Type 0 where
  pub told : AppendsTo old new whole (waiting ++ coming)

pub gathered_first : (old : Option (List ℕ)) (waiting coming : List ℕ) → IsGathered old old (waiting ++ coming) waiting coming
gathered_first old waiting coming = record { told = ([], refl, Appends-nil old old (kept old)) }

pub gathered_on : (a b c : Option (List ℕ)) (whole waiting coming waiting' coming' : List ℕ) → IsGathered a b whole waiting coming → AppendsTo b c (waiting ++ coming) (waiting' ++ coming') → IsGathered a c whole waiting' coming'
gathered_on a b c whole waiting coming waiting' coming' h more = record { told = AppendsTo-on a b c whole (waiting ++ coming) (waiting' ++ coming') h.told more }

-- some of what waits is written
pub gathered_front : (a b c : Option (List ℕ)) (whole waiting coming : List ℕ) → IsGathered a b whole waiting coming → AppendsFront b c waiting → AppendsFront a c whole
gathered_front a b c whole waiting coming h front = AppendsTo-front a b c whole (waiting ++ coming) h.told (AppendsFront-longer b c waiting coming front)

-- the last of it is written
pub gathered_whole : (a b c : Option (List ℕ)) (whole waiting coming : List ℕ) → IsGathered a b whole waiting coming → coming ≡ [] → Appends b c waiting → Appends a c whole
gathered_whole a b c whole waiting coming h none last =
    AppendsTo-whole a b c whole (waiting ++ coming) h.told (subst (λ l. Appends b c l) (sym (append-nil waiting) ∙ ap (λ l. waiting ++ l) (sym none)) last)

-- some of what waits is written, and the next line waits behind the rest
pub line_gathered : (a b : Option (List ℕ)) (waiting coming left waiting' coming' : List ℕ) → AppendsTo a b waiting left → (line : List ℕ) × (waiting' ≡ left ++ line) × (coming ≡ line ++ coming')
    → AppendsTo a b (waiting ++ coming) (waiting' ++ coming')
line_gathered a b waiting coming left waiting' coming' sent more =
    let same : left ++ coming ≡ waiting' ++ coming' = ap (λ l. left ++ l) more.2 ∙ sym (append_assoc left more.0 coming') ∙ ap (λ l. l ++ coming') (sym more.1) in
    subst (λ l. AppendsTo a b (waiting ++ coming) l) same (AppendsTo-behind a b waiting left coming sent)

nothing_behind : (line coming' : List ℕ) → line ++ coming' ≡ [] → coming' ≡ []
nothing_behind [] coming' e = e
nothing_behind (b ∷ bs) coming' e = cc

-- where none was to come, none is
pub none_behind : (out out' coming coming' : List ℕ) → (line : List ℕ) × (out' ≡ out ++ line) × (coming ≡ line ++ coming') → coming ≡ [] → coming' ≡ []
none_behind out out' coming coming' more none = nothing_behind more.0 coming' (sym more.2 ∙ none)

-- what was appended at the front of a whole, with the rest
pub with_rest : (waiting lines rest whole out : List ℕ) → out ≡ waiting ++ lines → whole ≡ lines ++ rest → out ++ rest ≡ waiting ++ whole
with_rest waiting lines rest whole out e w = ap (λ l. l ++ rest) e ∙ append_assoc waiting lines rest ∙ ap (λ l. waiting ++ l) (sym w)

-- some of what was appended at the front of a whole is some of what would have been
pub front_with_rest : (a b : Option (List ℕ)) (waiting lines rest whole out : List ℕ) → out ≡ waiting ++ lines → whole ≡ lines ++ rest → AppendsFront a b out → AppendsFront a b (waiting ++ whole)
front_with_rest a b waiting lines rest whole out e w h =
    subst (λ l. AppendsFront a b l) (with_rest waiting lines rest whole out e w) (AppendsFront-longer a b out rest h)
