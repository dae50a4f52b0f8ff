-- Logs that are compared with a history, record by record.
use Rattle.std.proofs.Common.{◌≡◌, ◌≢◌, ℕ, ◌+◌, ◌≤◌, ◌==◌, Bool, true, false, cond, List, [], ◌∷◌, ◌++◌, length, map, Option, Some, None, get_or, take, drop, reverse, add-one, drop-cons, ◌<◌, refl, sym, ap, subst, subst₂, ◌∙◌, arith}
use Rattle.std.proofs.lemmas.Bool.{eqb-true, eq-eqb}
use Rattle.std.proofs.lemmas.List.{append_cancel_left, append_assoc, append-nil, length-append, length-take-le, map-append, take_all, reverse-append, take-append-drop}
use Rattle.std.proofs.lemmas.List.Sums.{sum_by-cons}
use Rattle.std.proofs.lemmas.Option.{none-some, same_Some}
use Rattle.std.specs.List.{AllByRecursion, sum_by}
use Rattle.std.proofs.Math.Seq.{take-suc}
use Rattle.cg_history.specs.declared.record.Record as rust
use Rattle.cg_history.specs.Meaning.{history_of, record_of}
use Rattle.cg_history.proofs.Records.{newest, same_length}
use Rattle.cg_history.proofs.BySession.{written_once}
use Rattle.cg_history.specs.SessionMap.{found, with_value, IsOnceEach}
use Rattle.cg_model.specs.Cgroups.{cgroups}
use Rattle.cg_model.specs.History.{History, Record}
use Rattle.cg_log.specs.Call.{Call, SessionState, call_in, calls_of}
use Rattle.cg_log.specs.Rests.{Rests, rests_of, total, AreCallsOf}

-- a log, of which these records had the calls before what is left
abbrev pub added : History cgroups → ℕ × List Call → ℕ × List Call
added h x = (x.0, calls_of x.0 h ++ x.1)

absent : (s : ℕ) (w : List Call) (xs : Rests) → found s xs ≡ None → with_value s w xs ≡ xs
absent s w [] e = refl
absent s w (x ∷ xs) e = at (absent s w xs) (x.0 == s) refl e
  where
    at : (found s xs ≡ None → with_value s w xs ≡ xs) → (b : Bool) → (x.0 == s) ≡ b → cond b (Some x.1) (found s xs) ≡ None
        → (x.0, cond (x.0 == s) w x.1) ∷ with_value s w xs ≡ x ∷ xs
    at rest true p e = absurd (none-some x.1 (sym e))
    at rest false p e = (λ i. (x.0, cond (p i) w x.1) ∷ rest e i)

-- a record is of no session here
others_keep : (r : Record cgroups) (h : History cgroups) (xs : Rests) → found r.session xs ≡ None → map (added (r ∷ h)) xs ≡ map (added h) xs
others_keep r h [] e = refl
others_keep r h (x ∷ xs) e = at (others_keep r h xs) (x.0 == r.session) refl e
  where
    at : (found r.session xs ≡ None → map (added (r ∷ h)) xs ≡ map (added h) xs) → (b : Bool) → (x.0 == r.session) ≡ b
        → cond b (Some x.1) (found r.session xs) ≡ None → map (added (r ∷ h)) (x ∷ xs) ≡ map (added h) (x ∷ xs)
    at rest true p e = absurd (none-some x.1 (sym e))
    at rest false p e = (λ i. (x.0, cond (p i) (calls_of x.0 h ++ call_in r ∷ []) (calls_of x.0 h) ++ x.1) ∷ rest e i)

-- the next call of its session is taken off
pub taken : (r : Record cgroups) (h : History cgroups) (rest : List Call) (xs : Rests) → IsOnceEach xs → found r.session xs ≡ Some (call_in r ∷ rest)
    → map (added (r ∷ h)) (with_value r.session rest xs) ≡ map (added h) xs
taken r h rest [] once e = absurd (none-some (call_in r ∷ rest) e)
taken r h rest (x ∷ xs) once e = at (taken r h rest xs once.1) (x.0 == r.session) refl e
  where
    at : (found r.session xs ≡ Some (call_in r ∷ rest) → map (added (r ∷ h)) (with_value r.session rest xs) ≡ map (added h) xs) → (b : Bool) → (x.0 == r.session) ≡ b
        → cond b (Some x.1) (found r.session xs) ≡ Some (call_in r ∷ rest)
        → map (added (r ∷ h)) (with_value r.session rest (x ∷ xs)) ≡ map (added h) (x ∷ xs)
    at later true p e =
        let none : found r.session xs ≡ None = ap (λ k. found k xs) (sym (eqb-true x.0 r.session p)) ∙ once.0 in
        let log : calls_of x.0 (r ∷ h) ++ cond (x.0 == r.session) rest x.1 ≡ calls_of x.0 h ++ x.1 =
        (λ i. cond (p i) (calls_of x.0 h ++ call_in r ∷ []) (calls_of x.0 h) ++ cond (p i) rest x.1)
        ∙ append_assoc (calls_of x.0 h) (call_in r ∷ []) rest
        ∙ ap (λ l. calls_of x.0 h ++ l) (sym (same_Some _ _ e)) in
        (λ i. (x.0, log i) ∷ (ap (map (added (r ∷ h))) (absent r.session rest xs none) ∙ others_keep r h xs none) i)
    at later false p e =
        (λ i. (x.0, cond (p i) (calls_of x.0 h ++ call_in r ∷ []) (calls_of x.0 h) ++ cond (p i) rest x.1) ∷ later e i)

-- and as many are left but one
pub one_less : (s : ℕ) (c : Call) (rest : List Call) (xs : Rests) → IsOnceEach xs → found s xs ≡ Some (c ∷ rest) → total (with_value s rest xs) + 1 ≡ total xs
one_less s c rest [] once e = absurd (none-some (c ∷ rest) e)
one_less s c rest (x ∷ xs) once e = at (one_less s c rest xs once.1) (x.0 == s) refl e
  where
    at : (found s xs ≡ Some (c ∷ rest) → total (with_value s rest xs) + 1 ≡ total xs) → (b : Bool) → (x.0 == s) ≡ b
        → cond b (Some x.1) (found s xs) ≡ Some (c ∷ rest) → total (with_value s rest (x ∷ xs)) + 1 ≡ total (x ∷ xs)
    at later true p e =
        let none : found s xs ≡ None = ap (λ k. found k xs) (sym (eqb-true x.0 s p)) ∙ once.0 in
        let first : total (with_value s rest (x ∷ xs)) ≡ length (cond (x.0 == s) rest x.1) + total (with_value s rest xs) = sum_by-cons (λ y. length y.1) (x.0, cond (x.0 == s) rest x.1) (with_value s rest xs) in
        let written : length (cond (x.0 == s) rest x.1) ≡ length rest = ap (λ b. length (cond b rest x.1)) p in
        let same : total (with_value s rest xs) ≡ total xs = ap total (absent s rest xs none) in
        let was : length x.1 ≡ length (c ∷ rest) = ap length (same_Some _ _ e) in
        let all : total (x ∷ xs) ≡ length x.1 + total xs = sum_by-cons (λ y. length y.1) x xs in
        omega (arith, first, written, same, was, all)
    at later false p e =
        let first : total (with_value s rest (x ∷ xs)) ≡ length (cond (x.0 == s) rest x.1) + total (with_value s rest xs) = sum_by-cons (λ y. length y.1) (x.0, cond (x.0 == s) rest x.1) (with_value s rest xs) in
        let kept : length (cond (x.0 == s) rest x.1) ≡ length x.1 = ap (λ b. length (cond b rest x.1)) p in
        let less : total (with_value s rest xs) + 1 ≡ total xs = later e in
        let all : total (x ∷ xs) ≡ length x.1 + total xs = sum_by-cons (λ y. length y.1) x xs in
        omega (arith, first, kept, less, all)

-- no item
empty : {A : Type 0} (xs : List A) → length xs ≡ 0 → xs ≡ []
empty [] e = refl
empty (x ∷ xs) e = absurd (omega (arith, e))

-- where no call is left, the logs are the history's calls
pub ended : (h : History cgroups) (xs : Rests) → total xs ≡ 0 → AreCallsOf h (map (added h) xs)
ended h [] e = tt
ended h (x ∷ xs) e =
    let all : total (x ∷ xs) ≡ length x.1 + total xs = sum_by-cons (λ y. length y.1) x xs in (
      ap (λ l. calls_of x.0 h ++ l) (empty x.1 (omega (arith, all, e))) ∙ append-nil (calls_of x.0 h),
      ended h xs (omega (arith, all, e)),
    )

-- ---- where a record isn't the next call of its session

calls_of-append : (n : ℕ) (g h : History cgroups) → calls_of n (g ++ h) ≡ calls_of n h ++ calls_of n g
calls_of-append n [] h = sym (append-nil (calls_of n h))
calls_of-append n (r ∷ g) h = at (n == r.session) (calls_of-append n g h)
  where
    at : (b : Bool) → calls_of n (g ++ h) ≡ calls_of n h ++ calls_of n g
        → cond b (calls_of n (g ++ h) ++ call_in r ∷ []) (calls_of n (g ++ h)) ≡ calls_of n h ++ cond b (calls_of n g ++ call_in r ∷ []) (calls_of n g)
    at true e = ap (λ l. l ++ call_in r ∷ []) e ∙ append_assoc (calls_of n h) (calls_of n g) (call_in r ∷ [])
    at false e = e

-- then what is left are the calls of the later records
left_is : (h g : History cgroups) (xs : Rests) → AreCallsOf (g ++ h) (map (added h) xs) → AreCallsOf g xs
left_is h g [] a = tt
left_is h g (x ∷ xs) a =
    (append_cancel_left (calls_of x.0 h) x.1 (calls_of x.0 g) (a.0 ∙ calls_of-append x.0 g h), left_is h g xs a.1)

found_in : (P : ℕ → List Call → Type 0) (s : ℕ) (l : List Call) (xs : Rests) → AllByRecursion (λ x. P x.0 x.1) xs → found s xs ≡ Some l → P s l
found_in P s l [] a e = absurd (none-some l e)
found_in P s l (x ∷ xs) a e = at (found_in P s l xs a.1) (x.0 == s) refl e
  where
    at : (found s xs ≡ Some l → P s l) → (b : Bool) → (x.0 == s) ≡ b → cond b (Some x.1) (found s xs) ≡ Some l → P s l
    at rest true p e = subst (P s) (same_Some _ _ e) (subst (λ k. P k x.1) (eqb-true x.0 s p) a.0)
    at rest false p e = rest e

-- the calls of these sessions in a history
abbrev amount : History cgroups → Rests → ℕ
amount g xs = sum_by (λ x. length (calls_of x.0 g)) xs

total_is : (g : History cgroups) (xs : Rests) → AreCallsOf g xs → total xs ≡ amount g xs
total_is g [] a = refl
total_is g (x ∷ xs) a =
    sum_by-cons (λ y. length y.1) x xs
    ∙ (λ i. length (a.0 i) + total_is g xs a.1 i)
    ∙ sym (sum_by-cons (λ y. length (calls_of y.0 g)) x xs)

none_more : (r : Record cgroups) (g : History cgroups) (xs : Rests) → found r.session xs ≡ None → amount (r ∷ g) xs ≡ amount g xs
none_more r g [] e = refl
none_more r g (x ∷ xs) e = at (none_more r g xs) (x.0 == r.session) refl e
  where
    at : (found r.session xs ≡ None → amount (r ∷ g) xs ≡ amount g xs) → (b : Bool) → (x.0 == r.session) ≡ b
        → cond b (Some x.1) (found r.session xs) ≡ None → amount (r ∷ g) (x ∷ xs) ≡ amount g (x ∷ xs)
    at rest true p e = absurd (none-some x.1 (sym e))
    at rest false p e =
        sum_by-cons (λ y. length (calls_of y.0 (r ∷ g))) x xs
        ∙ (λ i. length (cond (p i) (calls_of x.0 g ++ call_in r ∷ []) (calls_of x.0 g)) + rest e i)
        ∙ sym (sum_by-cons (λ y. length (calls_of y.0 g)) x xs)

one_more : (r : Record cgroups) (g : History cgroups) (xs : Rests) → IsOnceEach xs → amount (r ∷ g) xs ≤ amount g xs + 1
one_more r g [] once = omega arith
one_more r g (x ∷ xs) once = at (one_more r g xs once.1) (x.0 == r.session) refl
  where
    at : amount (r ∷ g) xs ≤ amount g xs + 1 → (b : Bool) → (x.0 == r.session) ≡ b → amount (r ∷ g) (x ∷ xs) ≤ amount g (x ∷ xs) + 1
    at rest true p =
        let none : found r.session xs ≡ None = ap (λ k. found k xs) (sym (eqb-true x.0 r.session p)) ∙ once.0 in
        let first : amount (r ∷ g) (x ∷ xs) ≡ length (calls_of x.0 (r ∷ g)) + amount (r ∷ g) xs = sum_by-cons (λ y. length (calls_of y.0 (r ∷ g))) x xs in
        let longer : length (calls_of x.0 (r ∷ g)) ≡ length (calls_of x.0 g) + 1 =
        ap (λ b. length (cond b (calls_of x.0 g ++ call_in r ∷ []) (calls_of x.0 g))) p ∙ length-append (calls_of x.0 g) (call_in r ∷ []) in
        let same : amount (r ∷ g) xs ≡ amount g xs = none_more r g xs none in
        let all : amount g (x ∷ xs) ≡ length (calls_of x.0 g) + amount g xs = sum_by-cons (λ y. length (calls_of y.0 g)) x xs in
        omega (arith, first, longer, same, all)
    at rest false p =
        let first : amount (r ∷ g) (x ∷ xs) ≡ length (calls_of x.0 (r ∷ g)) + amount (r ∷ g) xs = sum_by-cons (λ y. length (calls_of y.0 (r ∷ g))) x xs in
        let kept : length (calls_of x.0 (r ∷ g)) ≡ length (calls_of x.0 g) = ap (λ b. length (cond b (calls_of x.0 g ++ call_in r ∷ []) (calls_of x.0 g))) p in
        let all : amount g (x ∷ xs) ≡ length (calls_of x.0 g) + amount g xs = sum_by-cons (λ y. length (calls_of y.0 g)) x xs in
        omega (arith, first, kept, rest, all)

few : (g : History cgroups) (xs : Rests) → IsOnceEach xs → amount g xs ≤ length g
few [] xs once = zero xs
  where
    zero : (ys : Rests) → amount [] ys ≤ 0
    zero [] = omega arith
    zero (y ∷ ys) =
        let first : amount [] (y ∷ ys) ≡ 0 + amount [] ys = sum_by-cons (λ z. length (calls_of z.0 [])) y ys in
        let rest : amount [] ys ≤ 0 = zero ys in
        omega (arith, first, rest)
few (r ∷ g) xs once =
    let step : amount (r ∷ g) xs ≤ amount g xs + 1 = one_more r g xs once in
    let rest : amount g xs ≤ length g = few g xs once in
    omega (arith, step, rest)

-- calls of none but the record's session come first
later_only : (r : Record cgroups) (g : History cgroups) (xs : Rests) → found r.session xs ≡ None → AreCallsOf (g ++ r ∷ []) xs → AreCallsOf g xs
later_only r g [] e a = tt
later_only r g (x ∷ xs) e a = at (later_only r g xs) (x.0 == r.session) refl e
  where
    at : (found r.session xs ≡ None → AreCallsOf (g ++ r ∷ []) xs → AreCallsOf g xs) → (b : Bool) → (x.0 == r.session) ≡ b
        → cond b (Some x.1) (found r.session xs) ≡ None → AreCallsOf g (x ∷ xs)
    at rest true p e = absurd (none-some x.1 (sym e))
    at rest false p e = (a.0 ∙ calls_of-append x.0 g (r ∷ []) ∙ ap (λ b. cond b (call_in r ∷ []) [] ++ calls_of x.0 g) p, rest e a.1)

pub unlike : (h g : History cgroups) (r : Record cgroups) (xs : Rests) → IsOnceEach xs → total xs ≡ length (g ++ r ∷ [])
    → ((rest : List Call) → found r.session xs ≢ Some (call_in r ∷ rest)) → AreCallsOf ((g ++ r ∷ []) ++ h) (map (added h) xs) → ⊥
unlike h g r xs once many other a = at (found r.session xs) refl
  where
    left : AreCallsOf (g ++ r ∷ []) xs
    left = left_is h (g ++ r ∷ []) xs a

    at : (o : Option (List Call)) → found r.session xs ≡ o → ⊥
    at None e =
        let calls : AreCallsOf g xs = later_only r g xs e left in
        let is : total xs ≡ amount g xs = total_is g xs calls in
        let le : amount g xs ≤ length g = few g xs once in
        let long : length (g ++ r ∷ []) ≡ length g + 1 = length-append g (r ∷ []) in
        omega (arith, many, is, le, long)
    at (Some l) e =
        let own : l ≡ calls_of r.session (g ++ r ∷ []) = found_in (λ s l. l ≡ calls_of s (g ++ r ∷ [])) r.session l xs left e in
        other (calls_of r.session g)
        (e ∙ ap Some (own ∙ calls_of-append r.session g (r ∷ []) ∙ ap (λ b. cond b (call_in r ∷ []) [] ++ calls_of r.session g) (eq-eqb r.session r.session refl)))

-- ---- over the records of the code

-- before any record the logs are whole
pub whole : (xs : Rests) → xs ≡ map (added []) xs
whole [] = refl
whole (x ∷ xs) = λ i. x ∷ whole xs i

-- the records so far, the next one and the later ones
pub parts : (rs : List rust.Record) (i : ℕ) (d : rust.Record) → i < length rs
    → history_of rs ≡ (history_of (drop (i + 1) rs) ++ record_of (get_or rs i d) ∷ []) ++ history_of (take i rs)
parts rs i d lt =
    ap history_of (sym (take-append-drop i rs) ∙ ap (λ l. take i rs ++ l) (drop-cons rs i d lt ∙ ap (λ k. get_or rs i d ∷ drop k rs) (sym (add-one i))))
    ∙ ap reverse (map-append record_of (take i rs) (get_or rs i d ∷ drop (i + 1) rs))
    ∙ reverse-append (map record_of (take i rs)) (record_of (get_or rs i d) ∷ map record_of (drop (i + 1) rs))
    ∙ ap (λ l. l ++ history_of (take i rs)) (reverse-append (record_of (get_or rs i d) ∷ []) (map record_of (drop (i + 1) rs)))

pub next_record : (rs : List rust.Record) (i : ℕ) (d : rust.Record) → i < length rs → history_of (take (i + 1) rs) ≡ record_of (get_or rs i d) ∷ history_of (take i rs)
next_record rs i d lt = ap history_of (ap (λ k. take k rs) (add-one i) ∙ take-suc rs i d lt) ∙ newest (take i rs) (get_or rs i d)

-- after i records: what is left of these logs
abbrev pub IsLeftOf : List rust.Record → Rests → ℕ → Rests → Type 0
IsLeftOf rs logs i xs = IsOnceEach xs × (logs ≡ map (added (history_of (take i rs))) xs) × (total xs + i ≡ total logs)

pub left_next : (rs : List rust.Record) (logs : Rests) (i : ℕ) (x : rust.Record) (xs new : Rests) (rest : List Call) → i < length rs → x ≡ get_or rs i x
    → IsLeftOf rs logs i xs → found x.session.0 xs ≡ Some (call_in (record_of x) ∷ rest) → new ≡ with_value x.session.0 rest xs → IsLeftOf rs logs (i + 1) new
left_next rs logs i x xs new rest lt item left f is =
    let h : history_of (take (i + 1) rs) ≡ record_of x ∷ history_of (take i rs) = next_record rs i x lt ∙ ap (λ y. record_of y ∷ history_of (take i rs)) (sym item) in
    let less : total (with_value x.session.0 rest xs) + 1 ≡ total xs = one_less x.session.0 (call_in (record_of x)) rest xs left.0 f in
    let same : total new ≡ total (with_value x.session.0 rest xs) = ap total is in (
      subst IsOnceEach (sym is) (written_once x.session.0 rest xs left.0),
      left.1 ∙ sym (taken (record_of x) (history_of (take i rs)) rest xs left.0 f) ∙ (λ j. map (added (sym h j)) (sym is j)),
      omega (arith, less, same, left.2),
    )

pub left_none : (rs : List rust.Record) (logs : Rests) (i : ℕ) (xs : Rests) → length rs ≤ i → total logs ≡ length rs → IsLeftOf rs logs i xs → AreCallsOf (history_of rs) logs
left_none rs logs i xs le many left =
    subst₂ AreCallsOf (ap history_of (take_all i rs le)) (sym left.1) (ended (history_of (take i rs)) xs (omega (arith, left.2, many, le)))

pub left_other : (rs : List rust.Record) (logs : Rests) (i : ℕ) (x : rust.Record) (xs : Rests) → i < length rs → x ≡ get_or rs i x → total logs ≡ length rs
    → IsLeftOf rs logs i xs → ((rest : List Call) → found x.session.0 xs ≢ Some (call_in (record_of x) ∷ rest)) → AreCallsOf (history_of rs) logs → ⊥
left_other rs logs i x xs lt item many left other a =
    let g = history_of (drop (i + 1) rs) in
    let h = history_of (take i rs) in
    let split : history_of rs ≡ (g ++ record_of x ∷ []) ++ h = parts rs i x lt ∙ ap (λ y. (g ++ record_of y ∷ []) ++ h) (sym item) in
    let all : length rs ≡ length (g ++ record_of x ∷ []) + length h = sym (same_length rs) ∙ ap length split ∙ length-append (g ++ record_of x ∷ []) h in
    let before : length h ≡ i = same_length (take i rs) ∙ length-take-le i rs (omega (arith, lt)) in
    unlike h g (record_of x) xs left.0 (omega (arith, all, before, many, left.2)) other (subst₂ AreCallsOf split left.1 a)

-- ---- over the sessions

module _ (P : ℕ × List Call → Type 0) where
  all_split : (xs : Rests) (y : ℕ × List Call) → AllByRecursion P (xs ++ y ∷ []) → AllByRecursion P xs × P y
  all_split [] y a = (tt, a.0)
  all_split (x ∷ xs) y a = let rest = all_split xs y a.1 in ((a.0, rest.0), rest.1)

  all_join : (xs : Rests) (y : ℕ × List Call) → AllByRecursion P xs → P y → AllByRecursion P (xs ++ y ∷ [])
  all_join [] y a p = (p, tt)
  all_join (x ∷ xs) y a p = (a.0, all_join xs y a.1 p)

  last_first : (s : SessionState) (ss : List SessionState) → rests_of (s ∷ ss) ≡ rests_of ss ++ (s.number, s.log) ∷ []
  last_first s ss = reverse-append ((s.number, s.log) ∷ []) (map (λ t. (t.number, t.log)) ss)

  pub all_sessions : (ss : List SessionState) → AllByRecursion P (rests_of ss) → AllByRecursion (λ s. P (s.number, s.log)) ss
  all_sessions [] a = tt
  all_sessions (s ∷ ss) a = let both = all_split (rests_of ss) (s.number, s.log) (subst (AllByRecursion P) (last_first s ss) a) in (both.1, all_sessions ss both.0)

  pub all_rests : (ss : List SessionState) → AllByRecursion (λ s. P (s.number, s.log)) ss → AllByRecursion P (rests_of ss)
  all_rests [] a = tt
  all_rests (s ∷ ss) a = subst (AllByRecursion P) (sym (last_first s ss)) (all_join (rests_of ss) (s.number, s.log) (all_rests ss a.1) a.0)
