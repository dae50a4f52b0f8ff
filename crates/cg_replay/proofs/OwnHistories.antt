-- The text of a machine's own history, replayed over its opening tree, is answered as its comments say.
use Rattle.std.proofs.Common.{◌≡◌, ℕ, ◌+◌, ◌≤◌, ◌||◌, nat_eq, Bool, true, false, not, cond, List, [], ◌∷◌, ◌++◌, length, map, reverse, refl, sym, ap, subst, ◌∙◌, true≢false, arith}
use Rattle.std.proofs.lemmas.Bool.{cond_both, eq-eqb, eqb-true}
use Rattle.std.proofs.lemmas.List.{append-nil}
use Rattle.std.proofs.lemmas.List.Folds.{list_any-append}
use Rattle.std.proofs.lemmas.Str.{IsUtf8-from_ascii}
use Rattle.std.specs.List.{AllByRecursion, list_any, position_or_len}
use Rattle.std.specs.Str.{IsAscii}
use Rattle.indexmap.proofs.ReorderLemmas.{map-reverse}
use Rattle.cg_model.specs.Cgroups.{cgroups}
use Rattle.cg_model.specs.History.{Request, Abort, Answer, Begun, Gave, Saved, WentBack, Committed, Aborted, Refused, Record, History}
use Rattle.cg_model.specs.Machine.{Machine, opened}
use Rattle.cg_model.specs.Opens.{Opens, opens}
use Rattle.cg_model.specs.Output.{answers, output}
use Rattle.cg_model.specs.Reply.{Legal}
use Rattle.cg_model.specs.System.{Done, Text}
use Rattle.cg_model.specs.Tree.{Tree}
use Rattle.cg_core_laws.specs.Replayed.{asked_again, recorded_answers, TellsApart, AnswersAgain}
use Rattle.cg_core_laws.specs.Serial.{IsFaithful}
use Rattle.cg_core_laws.proofs.ControlGroups.AnsweringAgain.{histories_answer_again}
use Rattle.cg_core_laws.proofs.ControlGroups.LawsOfGroups.{laws}
use Rattle.cg_core_laws.proofs.ControlGroups.ShownTexts.{texts_are_ascii}
use Rattle.cg_core_laws.proofs.Interleaving.Theorem.{faithful}
use Rattle.cg_world_text.specs.World.{world_text}
use Rattle.cg_script.specs.HistoryText.{sessions, place, renumbered, ShowsText, IsReadable, IsAsked}
use Rattle.cg_replay.specs.HistoryReplay.{HasShortComment, OwnHistoriesAreReplayed}
use Rattle.cg_replay.specs.MachineOutput.{answer_lines}
use Rattle.cg_replay.proofs.HistoryReplays.{histories_are_replayed}

-- ---- places of sessions, made numbers of all

abbrev is_in : List ℕ → ℕ → Bool
is_in ss s = list_any (nat_eq s) ss

place_within : (ss : List ℕ) (s : ℕ) → position_or_len (nat_eq s) ss ≤ length ss
place_within [] s = omega arith
place_within (x ∷ ss) s =
    let rest : position_or_len (nat_eq s) ss ≤ length ss = place_within ss s in
    cond_both (not (nat_eq s x)) (1 + position_or_len (nat_eq s) ss) 0 (λ n. n ≤ length (x ∷ ss)) (λ _. omega (arith, rest)) (λ _. omega arith)

one_place : (ss : List ℕ) (s t : ℕ) → is_in ss s ≡ true → is_in ss t ≡ true → position_or_len (nat_eq s) ss ≡ position_or_len (nat_eq t) ss → s ≡ t
one_place [] s t a b e = absurd (true≢false (sym a))
one_place (x ∷ ss) s t a b e = at (one_place ss s t) (nat_eq s x) refl (nat_eq t x) refl a b e
  where
    at : (is_in ss s ≡ true → is_in ss t ≡ true → position_or_len (nat_eq s) ss ≡ position_or_len (nat_eq t) ss → s ≡ t) → (c : Bool) → nat_eq s x ≡ c → (d : Bool) → nat_eq t x ≡ d
        → c || is_in ss s ≡ true → d || is_in ss t ≡ true → cond (not c) (1 + position_or_len (nat_eq s) ss) 0 ≡ cond (not d) (1 + position_or_len (nat_eq t) ss) 0 → s ≡ t
    at rest true k true m a b e = eqb-true s x k ∙ sym (eqb-true t x m)
    at rest true k false m a b e = absurd (omega (arith, e))
    at rest false k true m a b e = absurd (omega (arith, e))
    at rest false k false m a b e = rest a b (omega (arith, e))

module _ (ss : List ℕ) where
  -- the place of a session, and behind all places the others
  abbrev number_by : Bool → ℕ → ℕ
  number_by b s = cond b (place ss s) (length ss + 2 + s)

  abbrev number : ℕ → ℕ
  number s = number_by (is_in ss s) s

  tells_apart : TellsApart number
  tells_apart s t e = at (is_in ss s) refl (is_in ss t) refl e
    where
      at : (c : Bool) → is_in ss s ≡ c → (d : Bool) → is_in ss t ≡ d → number_by c s ≡ number_by d t → s ≡ t
      at true k true m e = let same : position_or_len (nat_eq s) ss ≡ position_or_len (nat_eq t) ss = omega (arith, e) in one_place ss s t k m same
      at true k false m e = let le : position_or_len (nat_eq s) ss ≤ length ss = place_within ss s in absurd (omega (arith, e, le))
      at false k true m e = let le : position_or_len (nat_eq t) ss ≤ length ss = place_within ss t in absurd (omega (arith, e, le))
      at false k false m e = omega (arith, e)

-- ---- the sessions of a history are those of its records

abbrev AllIn : List ℕ → History cgroups → Type 0
AllIn ss h = AllByRecursion (λ r. is_in ss r.session ≡ true) h

or_first : (b c : Bool) → b ≡ true → b || c ≡ true
or_first true c e = refl
or_first false c e = absurd (true≢false (sym e))

or_last : (b c : Bool) → c ≡ true → b || c ≡ true
or_last true c e = refl
or_last false c e = e

abbrev with_session : List ℕ → ℕ → List ℕ
with_session ss s = cond (is_in ss s) ss (ss ++ s ∷ [])

still_in : (ss : List ℕ) (s t : ℕ) → is_in ss t ≡ true → is_in (with_session ss s) t ≡ true
still_in ss s t e =
    cond_both (is_in ss s) ss (ss ++ s ∷ []) (λ xs. is_in xs t ≡ true) (λ _. e)
    (λ _. list_any-append (nat_eq t) ss (s ∷ []) ∙ or_first (is_in ss t) (is_in (s ∷ []) t) e)

now_in : (ss : List ℕ) (s : ℕ) → is_in (with_session ss s) s ≡ true
now_in ss s =
    cond_both (is_in ss s) ss (ss ++ s ∷ []) (λ xs. is_in xs s ≡ true) (λ e. e)
    (λ _. list_any-append (nat_eq s) ss (s ∷ []) ∙ or_last (is_in ss s) (is_in (s ∷ []) s) (or_first (nat_eq s s) false (eq-eqb s s refl)))

all_still : (ss : List ℕ) (s : ℕ) (h : History cgroups) → AllIn ss h → AllIn (with_session ss s) h
all_still ss s [] all = tt
all_still ss s (r ∷ h) all = (still_in ss s r.session all.0, all_still ss s h all.1)

all_in : (h : History cgroups) → AllIn (sessions h) h
all_in [] = tt
all_in (r ∷ h) = (now_in (sessions h) r.session, all_still (sessions h) r.session h (all_in h))

-- so what is asked for is the same under either numbers
module _ (ss : List ℕ) where
  abbrev call : (ℕ → ℕ) → Record cgroups → ℕ × Request cgroups
  call f r = (f r.session, r.request)

  same_calls : (h : History cgroups) → AllIn ss h → map (call (number ss)) h ≡ map (call (place ss)) h
  same_calls [] all = refl
  same_calls (r ∷ h) all = λ i. (number_by ss (all.0 i) r.session, r.request) ∷ same_calls h all.1 i

asked_is : (h : History cgroups) → asked_again (number (sessions h)) h ≡ renumbered h
asked_is h =
    map-reverse (call (sessions h) (number (sessions h))) h ∙ ap reverse (same_calls (sessions h) h (all_in h)) ∙ sym (map-reverse (call (sessions h) (place (sessions h))) h)

-- ---- its lines can be read

shows : (a : Answer) → ((text : List ℕ) → a ≡ Gave (Text text) → IsAscii text) → ShowsText a
shows (Gave (Text text)) h = IsUtf8-from_ascii text (h text refl)
shows (Gave Done) h = tt
shows (Begun t) h = tt
shows Saved h = tt
shows (WentBack k) h = tt
shows (Committed k) h = tt
shows (Aborted t) h = tt
shows (Refused r) h = tt

readable : (h : History cgroups) → AllByRecursion IsAsked h → AllByRecursion HasShortComment h → AllByRecursion (λ r. (text : List ℕ) → r.answer ≡ Gave (Text text) → IsAscii text) h → AllByRecursion IsReadable h
readable [] asked short texts = tt
readable (r ∷ h) asked short texts =
    (record { session = asked.0.0; request = asked.0.1; shown = shows r.answer texts.0; short = short.0 }, readable h asked.1 short.1 texts.1)

-- ---- where nothing is open, nothing is aborted

abbrev Answered : Type 0
Answered = List Answer × Machine cgroups

abbrev ended : Answered → List (ℕ × Request cgroups) → Answered
ended a ends = let last = answers cgroups a.1 ends in (a.0 ++ last.0, last.1)

abbrev aborting : Opens → List (ℕ × Request cgroups)
aborting ps = map (λ p. (p.0, Abort)) (reverse ps)

pub own_histories_are_replayed : OwnHistoriesAreReplayed
own_histories_are_replayed h T limit out sound reached closed few asked_for short is =
    let legal : Legal cgroups T limit h = (subst (IsFaithful cgroups T) reached.leads (faithful cgroups laws T sound limit reached.requests reached.proper)).legal in
    let again : AnswersAgain T limit h (number (sessions h)) = histories_answer_again T limit h (number (sessions h)) sound reached (tells_apart (sessions h)) in
    let a : Answered = answers cgroups (opened cgroups T limit) (asked_again (number (sessions h)) h) in
    let none : opens a.1.history ≡ [] = again.transactions ∙ ap (map (λ (p : ℕ × ℕ). (number (sessions h) p.0, p.1))) closed in
    histories_are_replayed h few (readable h asked_for short (texts_are_ascii T limit h legal)) T limit out sound is
    ∙ ap (λ calls. let o = output cgroups (opened cgroups T limit) calls in answer_lines o.0 ++ world_text o.1.tree) (sym (asked_is h))
    ∙ ap (λ (ps : Opens). let o = ended a (aborting ps) in answer_lines o.0 ++ world_text o.1.tree) none
    ∙ ap (λ (l : List Answer). answer_lines l ++ world_text a.1.tree) (append-nil a.0 ∙ again.same)
    ∙ ap (λ (U : Tree). answer_lines (recorded_answers h) ++ world_text U) again.tree
