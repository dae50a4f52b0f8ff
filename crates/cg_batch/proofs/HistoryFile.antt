-- The file that a history is kept in.
use Rattle.std.proofs.Common.{◌≡◌, ◌≢◌, ◌||◌, ℕ, zero, suc, arith, ◌+◌, ◌<◌, Bool, true, false, List, [], ◌∷◌, length, map, take, get_or, refl, ap, ◌∙◌, subst, sym, inl, inr}
use Rattle.std.proofs.lemmas.List.Folds.{list_any_more}
use Rattle.std.specs.List.{list_any}
use Rattle.std.proofs.lemmas.Option.{none-some}
use Rattle.std.specs.Prelude.{◌⊎◌, Option, Some, None, IfSome, IsSome, MatchOption}
use Rattle.std.specs.Option.{option_map}
use Rattle.cg_name.specs.declared.refusal.Refusal.{Refusal}
use Rattle.cg_lines.specs.Device.{AppendsFront}
use Rattle.cg_lines.proofs.DeviceLemmas.{AppendsFront-whole}
use Rattle.cg_batch.specs.Batch.{AppendsGiven, FailedGiven, StopsIn}
use Rattle.cg_program.specs.Files.{IsFileNamed}
use Rattle.cg_program.specs.Program.{WritesUnlessFailed}
use Rattle.cg_program.specs.Status.{refusal_line, status_where}
use Rattle.std.specs.Io.KnownBytes.{Appends}

-- what was written to a new file is what the file of its name holds, once that is the file
pub kept_whole : {K W : Type 0} (now : W → List ℕ) (taken : K → Option (List ℕ)) (nothing : Option (List ℕ)) (file : List ℕ → Option (List ℕ)) (name : Option W) (old new : Option K) (bytes : List ℕ)
    → MatchOption old (name ≡ None) (λ output. IsSome name × (taken output ≡ nothing)) → AppendsGiven taken old new bytes → IfSome new (λ output. IfSome name (λ w. file (now w) ≡ taken output))
    → IsFileNamed nothing file (option_map now name) bytes
kept_whole now taken nothing file None old new bytes opened written kept = tt
kept_whole now taken nothing file (Some w) None new bytes opened written kept = absurd (none-some w (sym opened))
kept_whole now taken nothing file (Some w) (Some output) None bytes opened written kept = absurd written
kept_whole now taken nothing file (Some w) (Some output) (Some whole) bytes opened written kept =
    subst (λ held. Appends nothing held bytes) (sym kept) (subst (λ empty. Appends empty (taken whole) bytes) opened.1 written)

-- a test of what is made of the items is a test of the items
pub any_made : {X Y : Type 0} (test : X → Bool) (made : Y → X) (ys : List Y) → list_any test (map made ys) ≡ list_any (λ y. test (made y)) ys
any_made test made [] = refl
any_made test made (y ∷ ys) = ap (λ b. test (made y) || b) (any_made test made ys)

-- a test that fails so far, and at the next item
pub none_more : {X : Type 0} (test : X → Bool) (xs : List X) (i : ℕ) (d : X) → i < length xs → (list_any test (take i xs) ≡ true → ⊥) → (test (get_or xs i d) ≡ true → ⊥) → list_any test (take (i + 1) xs) ≡ true → ⊥
none_more test xs i d inside before here holds = neither (list_any test (take i xs)) (test (get_or xs i d)) before here (sym (list_any_more test xs i d inside) ∙ holds)
  where
    neither : (a b : Bool) → (a ≡ true → ⊥) → (b ≡ true → ⊥) → (a || b) ≡ true → ⊥
    neither true b not_a not_b either = not_a refl
    neither false b not_a not_b either = not_b either

-- a run's refusal is told and has its cause, whether the run gives it or the end behind it
abbrev pub IsTold : {K : Type 0} → (Refusal → Type 0) → (K → Option (List ℕ)) → (K → ℕ) → K → K → ℕ → Type 0
IsTold Cause taken failed old new status =
    (status ≡ 0) ⊎ ((refusal : Refusal) × (status ≡ status_where refusal) × WritesUnlessFailed (taken old) (taken new) (failed old) (failed new) (refusal_line refusal) × Cause refusal)

pub told_through : {K : Type 0} (Cause : Refusal → Type 0) (taken : K → Option (List ℕ)) (failed : K → ℕ) (old mid new : K) (status result : ℕ)
    → IsTold Cause taken failed old mid status → (status ≡ 0 → mid ≡ old) → (status ≡ 0 → IsTold Cause taken failed mid new result) → (status ≢ 0 → (result ≡ status) × (new ≡ mid))
    → IsTold Cause taken failed old new result
told_through Cause taken failed old mid new zero result told quiet ended stays = subst (λ from. IsTold Cause taken failed from new result) (quiet refl) (ended refl)
told_through Cause taken failed old mid new (suc n) result told quiet ended stays =
    let same = stays (λ e. absurd (omega arith)) in
    subst (λ r. IsTold Cause taken failed old new r) (sym same.0) (subst (λ to. IsTold Cause taken failed old to (suc n)) (sym same.1) told)

-- a sink of the history that failed is one that was asked for
pub given_some : {K W : Type 0} (P : K → Type 0) (failed : K → ℕ) (opened new : Option K) (name : Option W) → MatchOption opened (name ≡ None) (λ output. IsSome name × P output) → FailedGiven failed opened new → IsSome name
given_some P failed None new name opened_so fails = absurd fails
given_some P failed (Some old) None name opened_so fails = absurd fails
given_some P failed (Some old) (Some new) name opened_so fails = opened_so.0

-- where the telling stopped, some of the front was told
pub front_told : {K : Type 0} (old new : Option (List ℕ)) (taken : K → Option (List ℕ)) (history history' : Option K) (told past : List ℕ) → StopsIn old new taken history history' told past → AppendsFront old new told
front_told old new taken history history' told past (inl stops) = stops.0
front_told old new taken history history' told past (inr stops) = AppendsFront-whole old new told stops.0
