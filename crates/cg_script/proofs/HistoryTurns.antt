-- The text of a history is read, record by record: sessions get their numbers in the order of their first records.
use Rattle.std.proofs.Common.{◌≡◌, ℕ, suc, ◌+◌, ◌^◌, ◌<◌, ◌≤◌, ◌||◌, nat_eq, nat_lt, Bool, true, false, not, cond, List, [], ◌∷◌, ◌++◌, length, map, reverse, Some, None, position, refl, sym, ap, subst, ◌∙◌, arith, append_assoc, length-append, true≢false}
use Rattle.std.specs.List.{AllByRecursion, flat_map, list_any, position_or_len}
use Rattle.std.specs.Fmt.{decimal}
use Rattle.std.specs.Cmp.Lexicographic.{pointwise, same_text, told_text}
use Rattle.std.proofs.lemmas.Bool.{cond_both, eq-eqb, ne_eqb, lt-ltb}
use Rattle.std.proofs.lemmas.Fmt.{decimal_injective}
use Rattle.std.proofs.lemmas.List.{reverse-append, reverse-reverse, append-nil}
use Rattle.cg_text.specs.Words.{lines_of}
use Rattle.cg_model.specs.Cgroups.{cgroups}
use Rattle.cg_model.specs.History.{Request, Record, History}
use Rattle.cg_script.specs.HistoryText.{session_name, record_text, sessions, place, renumbered, turns_of, IsReadable, HistoriesAreRead}
use Rattle.cg_script.specs.Turns.{AreTurns, asked, number_after, session_number, with_name}
use Rattle.cg_script.proofs.HistoryLines.{session_is_named, comment_says_nothing, record_lines}
use Rattle.cg_script.proofs.WrittenLines.{written_lines_are_spelled}

-- ---- the first place of a list at which a test passes

module _ {X : Type 0} (p : X → Bool) where
  other_any : (x : X) (xs : List X) → p x ≡ false → list_any p (x ∷ xs) ≡ list_any p xs
  other_any x xs t = ap (λ b. b || list_any p xs) t

  place_within : (xs : List X) → list_any p xs ≡ true → position_or_len p xs < length xs
  place_within [] e = absurd (true≢false (sym e))
  place_within (x ∷ xs) e = at (place_within xs) (p x) refl
    where
      at : (list_any p xs ≡ true → position_or_len p xs < length xs) → (b : Bool) → p x ≡ b → position_or_len p (x ∷ xs) < length (x ∷ xs)
      at more true t = rw t (omega arith)
      at more false t = let rest = more (sym (other_any x xs t) ∙ e) in rw t (omega (arith, rest))

  place_in_front : (xs ys : List X) → list_any p xs ≡ true → position_or_len p (xs ++ ys) ≡ position_or_len p xs
  place_in_front [] ys e = absurd (true≢false (sym e))
  place_in_front (x ∷ xs) ys e = at (place_in_front xs ys) (p x) refl
    where
      at : (list_any p xs ≡ true → position_or_len p (xs ++ ys) ≡ position_or_len p xs) → (b : Bool) → p x ≡ b → position_or_len p (x ∷ (xs ++ ys)) ≡ position_or_len p (x ∷ xs)
      at more true t = rw t refl
      at more false t = rw t (ap (λ n. 1 + n) (more (sym (other_any x xs t) ∙ e)))

  place_of_next : (xs : List X) (x : X) → p x ≡ true → list_any p xs ≡ false → position_or_len p (xs ++ x ∷ []) ≡ length xs
  place_of_next [] x t e = rw t refl
  place_of_next (y ∷ xs) x t e = at (place_of_next xs x t) (p y) refl
    where
      at : (list_any p xs ≡ false → position_or_len p (xs ++ x ∷ []) ≡ length xs) → (b : Bool) → p y ≡ b → position_or_len p (y ∷ (xs ++ x ∷ [])) ≡ length (y ∷ xs)
      at more true u = absurd (true≢false (ap (λ b. b || list_any p xs) (sym u) ∙ e))
      at more false u = rw u (omega (arith, more (sym (other_any y xs u) ∙ e)))

  any_next : (xs : List X) (x : X) → p x ≡ true → list_any p (xs ++ x ∷ []) ≡ true
  any_next [] x t = ap (λ b. b || false) t
  any_next (y ∷ xs) x t = ap (λ b. p y || b) (any_next xs x t) ∙ either (p y)
    where
      either : (b : Bool) → (b || true) ≡ true
      either true = refl
      either false = refl

-- ---- sessions by their names

IsCodeNumber : ℕ → Type 0
IsCodeNumber s = s < 2 ^ 32

name_rest : (s x : ℕ) → session_name s ≡ session_name x → decimal s ≡ decimal x
name_rest s x e = cc

-- a name is that of one session
same_name : (s x : ℕ) → s < 2 ^ 32 → x < 2 ^ 32 → pointwise nat_eq (session_name s) (session_name x) ≡ nat_eq s x
same_name s x small little = at (pointwise nat_eq (session_name s) (session_name x)) refl
  where
    at : (b : Bool) → pointwise nat_eq (session_name s) (session_name x) ≡ b → pointwise nat_eq (session_name s) (session_name x) ≡ nat_eq s x
    at true e =
        let same : s ≡ x = decimal_injective s x (omega (arith, small)) (omega (arith, little)) (name_rest s x (same_text (session_name s) (session_name x) (sym e))) in
        e ∙ sym (eq-eqb s x same)
    at false e = e ∙ sym (ne_eqb s x (λ same. told_text (session_name s) (session_name x) false (sym e) (ap session_name same)))

module _ (s : ℕ) (small : s < 2 ^ 32) where
  any_named : (ss : List ℕ) → AllByRecursion (λ x. x < 2 ^ 32) ss → list_any (pointwise nat_eq (session_name s)) (map session_name ss) ≡ list_any (nat_eq s) ss
  any_named [] h = refl
  any_named (x ∷ ss) h = λ i. same_name s x small h.0 i || any_named ss h.1 i

  place_named : (ss : List ℕ) → AllByRecursion (λ x. x < 2 ^ 32) ss → position_or_len (pointwise nat_eq (session_name s)) (map session_name ss) ≡ position_or_len (nat_eq s) ss
  place_named [] h = refl
  place_named (x ∷ ss) h = λ i. cond (not (same_name s x small h.0 i)) (1 + place_named ss h.1 i) 0

length_map : {X Y : Type 0} (f : X → Y) (xs : List X) → length (map f xs) ≡ length xs
length_map f [] = refl
length_map f (x ∷ xs) = ap (λ n. suc n) (length_map f xs)

pub map_next : {X Y : Type 0} (f : X → Y) (xs : List X) (x : X) → map f (xs ++ x ∷ []) ≡ map f xs ++ f x ∷ []
map_next f [] x = refl
map_next f (y ∷ xs) x = ap (λ ys. f y ∷ ys) (map_next f xs x)

-- ---- a record more

-- the sessions with this one
abbrev with_session : List ℕ → ℕ → List ℕ
with_session ss s = cond (list_any (nat_eq s) ss) ss (ss ++ s ∷ [])

small_with : (ss : List ℕ) (s : ℕ) → AllByRecursion (λ x. x < 2 ^ 32) ss → s < 2 ^ 32 → AllByRecursion (λ x. x < 2 ^ 32) (with_session ss s)
small_with ss s h small = cond_both (list_any (nat_eq s) ss) ss (ss ++ s ∷ []) (AllByRecursion (λ x. x < 2 ^ 32)) (λ _. h) (λ _. next ss h)
  where
    next : (xs : List ℕ) → AllByRecursion (λ x. x < 2 ^ 32) xs → AllByRecursion (λ x. x < 2 ^ 32) (xs ++ s ∷ [])
    next [] k = (small, tt)
    next (x ∷ xs) k = (k.0, next xs k.1)

-- a session is among those with it
is_with : (ss : List ℕ) (s : ℕ) → list_any (nat_eq s) (with_session ss s) ≡ true
is_with ss s = cond_both (list_any (nat_eq s) ss) ss (ss ++ s ∷ []) (λ xs. list_any (nat_eq s) xs ≡ true) (λ e. e) (λ _. any_next (nat_eq s) ss s (eq-eqb s s refl))

-- the names with a session's are those of the sessions with it
named_with : (ss : List ℕ) (s : ℕ) → AllByRecursion (λ x. x < 2 ^ 32) ss → s < 2 ^ 32 → with_name (map session_name ss) (session_name s) ≡ map session_name (with_session ss s)
named_with ss s h small = at (list_any (nat_eq s) ss) refl
  where
    at : (b : Bool) → list_any (nat_eq s) ss ≡ b → with_name (map session_name ss) (session_name s) ≡ map session_name (with_session ss s)
    at true e = rw (any_named s small ss h ∙ e, e) refl
    at false e = rw (any_named s small ss h ∙ e, e) (sym (map_next session_name ss s))

-- and its number is its place among them
number_with : (ss : List ℕ) (s : ℕ) → AllByRecursion (λ x. x < 2 ^ 32) ss → s < 2 ^ 32 → length (with_session ss s) ≤ 4096 → session_number (map session_name ss) (session_name s) ≡ Some (place (with_session ss s) s)
number_with ss s h small few = at (list_any (nat_eq s) ss) refl
  where
    p : List ℕ → Bool
    p = pointwise nat_eq (session_name s)

    at : (b : Bool) → list_any (nat_eq s) ss ≡ b → session_number (map session_name ss) (session_name s) ≡ Some (place (with_session ss s) s)
    at true e =
        let any : list_any p (map session_name ss) ≡ true = any_named s small ss h ∙ e in
        let within : nat_lt (position_or_len p (map session_name ss)) (length (map session_name ss)) ≡ true = lt-ltb _ _ (place_within p (map session_name ss) any) in
        ap (λ b. cond b (number_after (position p (map session_name ss))) (cond (nat_lt (length (map session_name ss)) 4096) (Some (length (map session_name ss) + 1)) None)) any
        ∙ ap (λ b. number_after (cond b (Some (position_or_len p (map session_name ss))) None)) within
        ∙ ap (λ n. Some (n + 1)) (place_named s small ss h)
        ∙ ap (λ b. Some (place (cond b ss (ss ++ s ∷ [])) s)) (sym e)
    at false e =
        let none : list_any p (map session_name ss) ≡ false = any_named s small ss h ∙ e in
        let long : length (with_session ss s) ≡ length ss + 1 = ap (λ b. length (cond b ss (ss ++ s ∷ []))) e ∙ length-append ss (s ∷ []) in
        let room : nat_lt (length (map session_name ss)) 4096 ≡ true = lt-ltb _ _ (omega (arith, length_map session_name ss, long, few)) in
        ap (λ b. cond b (number_after (position p (map session_name ss))) (cond (nat_lt (length (map session_name ss)) 4096) (Some (length (map session_name ss) + 1)) None)) none
        ∙ ap (λ b. cond b (Some (length (map session_name ss) + 1)) None) room
        ∙ ap (λ n. Some (n + 1)) (length_map session_name ss ∙ sym (place_of_next (nat_eq s) ss s (eq-eqb s s refl) e))
        ∙ ap (λ b. Some (place (cond b ss (ss ++ s ∷ [])) s)) (sym e)

-- sessions that come later stand behind
sessions_grow : (newer older : History cgroups) → (more : List ℕ) × (sessions (newer ++ older) ≡ sessions older ++ more)
sessions_grow [] older = ([], sym (append-nil (sessions older)))
sessions_grow (r ∷ newer) older =
    let g = sessions_grow newer older in
    cond_both (list_any (nat_eq r.session) (sessions (newer ++ older))) (sessions (newer ++ older)) (sessions (newer ++ older) ++ r.session ∷ [])
    (λ xs. (more : List ℕ) × (xs ≡ sessions older ++ more))
    (λ _. g)
    (λ _. (g.0 ++ r.session ∷ [], ap (λ xs. xs ++ r.session ∷ []) g.1 ∙ append_assoc (sessions older) g.0 (r.session ∷ [])))

-- ---- all records

-- the calls of these, the oldest first, where these are all sessions
abbrev calls_of : List ℕ → List (Record cgroups) → List (ℕ × Request cgroups)
calls_of all rs = map (λ r. (place all r.session, r.request)) rs

-- records that follow older ones, the oldest first, are read
read_on : (rs : List (Record cgroups)) (older : History cgroups) → AllByRecursion IsReadable rs → AllByRecursion (λ x. x < 2 ^ 32) (sessions older) → (all : List ℕ) → sessions (reverse rs ++ older) ≡ all → length all ≤ 4096 → AreTurns (map session_name (sessions older)) (lines_of (flat_map record_text rs)) (turns_of (calls_of all rs))
read_on [] older h small all same few = tt
read_on (r ∷ rs) older h small all same few =
    let s : ℕ = r.session in
    let now : List ℕ = with_session (sessions older) s in
    let names : List (List ℕ) = map session_name (sessions older) in
    let behind : List (List ℕ) = map session_name now in
    let on : sessions (reverse rs ++ r ∷ older) ≡ all = ap sessions (sym (ap (λ l. l ++ older) (reverse-append (r ∷ []) rs) ∙ append_assoc (reverse rs) (r ∷ []) older)) ∙ same in
    let g = sessions_grow (reverse rs) (r ∷ older) in
    let whole : all ≡ now ++ g.0 = sym on ∙ g.1 in
    let short : length now ≤ 4096 = omega (arith, ap length whole, length-append now g.0, few) in
    let number : session_number names (session_name s) ≡ Some (place all s) =
    number_with (sessions older) s small h.0.session short
    ∙ ap (λ n. Some (n + 1)) (sym (ap (position_or_len (nat_eq s)) whole ∙ place_in_front (nat_eq s) now g.0 (is_with (sessions older) s))) in
    let line = written_lines_are_spelled (session_name s) r.request (session_is_named s h.0.session) h.0.request in
    subst (λ lines. AreTurns names lines (turns_of (calls_of all (r ∷ rs)))) (sym (record_lines r (flat_map record_text rs) h.0)) (
      behind,
      (session_name s, line, number, sym (named_with (sessions older) s small h.0.session)),
      (behind, (comment_says_nothing r.answer h.0.shown h.0.short, refl), read_on rs (r ∷ older) h.1 (small_with (sessions older) s small h.0.session) all on few),
    )

all_turned : {X : Type 0} (P : X → Type 0) (xs : List X) → AllByRecursion P xs → AllByRecursion P (reverse xs)
all_turned P [] h = tt
all_turned P (x ∷ xs) h = subst (AllByRecursion P) (sym (reverse-append (x ∷ []) xs)) (behind (reverse xs) (all_turned P xs h.1))
  where
    behind : (ys : List _) → AllByRecursion P ys → AllByRecursion P (ys ++ x ∷ [])
    behind [] k = (h.0, tt)
    behind (y ∷ ys) k = (k.0, behind ys k.1)

pub asked_of : (calls : List (ℕ × Request cgroups)) → asked (turns_of calls) ≡ calls
asked_of [] = refl
asked_of (c ∷ calls) = ap (λ cs. c ∷ cs) (asked_of calls)

pub histories_are_read : HistoriesAreRead
histories_are_read h few readable =
    let whole : sessions (reverse (reverse h) ++ []) ≡ sessions h = ap sessions (append-nil (reverse (reverse h)) ∙ reverse-reverse h) in
    (read_on (reverse h) [] (all_turned IsReadable h readable) tt (sessions h) whole few, asked_of (renumbered h))
