-- What is told of children and of records.
use Rattle.std.proofs.Common.{◌≡◌, ℕ, ◌&&◌, nat_lt, subst, zero, suc, ◌-◌, ◌<◌, Bool, true, false, cond, filter, List, [], ◌∷◌, ◌++◌, get_or, length, map, Some, None, option_map, reverse, slice_get, take, refl, sym, ap, ◌∙◌, arith, append_assoc}
use Rattle.std.specs.List.{flat_map}
use Rattle.cg_history.proofs.Records.{newest, same_length}
use Rattle.cg_history.specs.Meaning.{answer_of, history_of, record_of, request_of}
use Rattle.cg_history.specs.declared.record.Record.{Record}
use Rattle.cg_core.specs.State.{CoreState}
use Rattle.cg_model.specs.Cgroups.{cgroups}
use Rattle.cg_model.specs.History.{History}
use Rattle.std.proofs.lemmas.Bool.{lt-ltb, ltb-true, ltb-false}
use Rattle.std.proofs.lemmas.List.{reverse-reverse}
use Rattle.std.proofs.lemmas.Option.{slice_get-map, slice_get_past}
use Rattle.cg_name.specs.Path.{Path}
use Rattle.cg_text.specs.declared.settings.Settings.{Settings}
use Rattle.cg_explain.specs.Explained.{newest_notes, notes_text, record_notes}
use Rattle.cg_explain.specs.InTheWay.{clash_note, record_note, request_note}
use Rattle.cg_explain.specs.Notes.{first_notes, path_note}
use Rattle.cg_model.specs.Footprint.{Mark}

-- none more is told
pub none_told : (test : Path × Settings → Bool) (said : List ℕ) (n : ℕ) (e : Path × Settings) (es : List (Path × Settings)) → n ≡ 0 → first_notes test said n es ≡ first_notes test said n (e ∷ es)
none_told test said n e es h = ap (λ k. first_notes test said k es) h ∙ sym (ap (λ k. first_notes test said k (e ∷ es)) h)

-- a group that isn't wanted is passed
pub passed_over : (test : Path × Settings → Bool) (said : List ℕ) (n : ℕ) (e : Path × Settings) (es : List (Path × Settings)) → test e ≡ false → first_notes test said n es ≡ first_notes test said n (e ∷ es)
passed_over test said n e es h = sym (ap (λ b. flat_map (λ x. path_note x.0 said) (take n (cond b (e ∷ filter test es) (filter test es)))) h)

-- one that is wanted is told, where one more is
pub told_next : (test : Path × Settings → Bool) (said out new : List ℕ) (n : ℕ) (e : Path × Settings) (es : List (Path × Settings)) → 0 < n → test e ≡ true → new ≡ out ++ path_note e.0 said
    → new ++ first_notes test said (n - 1) es ≡ out ++ first_notes test said n (e ∷ es)
told_next test said out new zero e es some h g = absurd (omega (arith, some))
told_next test said out new (suc n) e es some h g =
    let less : suc n - 1 ≡ n = omega arith in
    ap (λ k. new ++ first_notes test said k es) less
    ∙ ap (λ x. x ++ first_notes test said n es) g
    ∙ append_assoc out (path_note e.0 said) (first_notes test said n es)
    ∙ ap (λ b. out ++ flat_map (λ x. path_note x.0 said) (take (suc n) (cond b (e ∷ filter test es) (filter test es)))) (sym h)

-- the newest record of a history is the last that code has
last_of_all : (rs : List Record) (d : Record) → 0 < length rs → (front : List Record) × (rs ≡ front ++ get_or rs (length rs - 1) d ∷ [])
last_of_all [] d some = absurd (omega (arith, some))
last_of_all (r ∷ []) d some = ([], refl)
last_of_all (r ∷ q ∷ rs) d some =
    let more = last_of_all (q ∷ rs) d (omega arith) in
    let here : length (q ∷ rs) - 1 ≡ length rs = omega arith in
    let there : length (r ∷ q ∷ rs) - 1 ≡ suc (length rs) = omega arith in (
      r ∷ more.0,
      ap (λ l. r ∷ l) more.1
          ∙ ap (λ k. r ∷ (more.0 ++ get_or (q ∷ rs) k d ∷ [])) here
          ∙ sym (ap (λ k. r ∷ (more.0 ++ get_or (r ∷ q ∷ rs) k d ∷ [])) there),
    )

pub newest_told : (begun : List (List ℕ)) (asked : List ℕ) (c : CoreState) (rs : List Record) (d : Record) → 0 < length rs
    → newest_notes begun asked c (history_of rs) ≡ record_notes begun asked c (request_of (get_or rs (length rs - 1) d).request) (answer_of (get_or rs (length rs - 1) d).answer)
newest_told begun asked c rs d some =
    let last = last_of_all rs d some in
    ap (λ l. newest_notes begun asked c (history_of l)) last.1 ∙ ap (newest_notes begun asked c) (newest last.0 (get_or rs (length rs - 1) d))

-- so many records
pub as_many : (rs : List Record) (h : History cgroups) → history_of rs ≡ h → length rs ≡ length h
as_many rs h e = sym (same_length rs) ∙ ap length e

-- what is told of the newest record, where there is one more than before and that is wanted
pub notes_are : (is_wanted : Bool) (n : ℕ) (begun : List (List ℕ)) (asked : List ℕ) (c : CoreState) (rs : List Record) (d : Record) → is_wanted ≡ true → history_of rs ≡ c.history → n < length rs
    → notes_text is_wanted n begun asked c ≡ record_notes begun asked c (request_of (get_or rs (length rs - 1) d).request) (answer_of (get_or rs (length rs - 1) d).answer)
notes_are is_wanted n begun asked c rs d wanted h more =
    ap (λ b. cond (b && nat_lt n (length c.history)) (newest_notes begun asked c c.history) []) wanted
    ∙ ap (λ b. cond b (newest_notes begun asked c c.history) []) (lt-ltb n (length c.history) (subst (λ k. n < k) (as_many rs c.history h) more))
    ∙ ap (newest_notes begun asked c) (sym h)
    ∙ newest_told begun asked c rs d (omega (arith, more))

-- a record is where as many stand before it
pub record_at : (rs : List Record) (i : ℕ) → option_map record_of (slice_get rs i) ≡ slice_get (reverse (history_of rs)) i
record_at rs i = sym (ap (λ l. slice_get l i) (reverse-reverse (map record_of rs)) ∙ slice_get-map record_of rs i)

at_index : (rs : List Record) (i : ℕ) (r : Record) → i < length rs → r ≡ get_or rs i r → Some r ≡ slice_get rs i
at_index [] i r within is = absurd (omega (arith, within))
at_index (q ∷ rs) zero r within is = ap Some is
at_index (q ∷ rs) (suc i) r within is = at_index rs i r (omega (arith, within)) is

-- what is told of the record at an index
pub noted : (asked : List ℕ) (rs : List Record) (i : ℕ) (m : Mark) (r : Record) (n : ℕ) → n ≡ get_or asked i 0 → true ≡ nat_lt i (length rs) → r ≡ get_or rs i r
    → request_note n m (request_of r.request) ≡ clash_note asked (history_of rs) (Some (i, m))
noted asked rs i m r n line within is =
    let there : Some r ≡ slice_get rs i = at_index rs i r (ltb-true i (length rs) (sym within)) is in
    (λ j. record_note (line j) m (ap (option_map record_of) there j)) ∙ ap (record_note (get_or asked i 0) m) (record_at rs i)

pub nothing_noted : (asked : List ℕ) (rs : List Record) (i : ℕ) (m : Mark) → false ≡ nat_lt i (length rs) → [] ≡ clash_note asked (history_of rs) (Some (i, m))
nothing_noted asked rs i m past =
    let there : None ≡ slice_get rs i = sym (slice_get_past rs i (ltb-false i (length rs) (sym past))) in
    ap (λ o. record_note (get_or asked i 0) m (option_map record_of o)) there ∙ ap (record_note (get_or asked i 0) m) (record_at rs i)
