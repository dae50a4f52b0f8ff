-- Schedules of which no line is refused.
use Rattle.std.proofs.Common.{◌≡◌, ◌<◌, ℕ, zero, suc, true, false, List, [], ◌∷◌, ◌++◌, Option, Some, None, refl, sym, ap, subst, ◌∙◌, inl, inr, append_assoc, arith}
use Rattle.std.specs.Prelude.{is_some}
use Rattle.std.proofs.lemmas.Option.{none-some, same_Some}
use Rattle.std.specs.List.{AllByRecursion, slice_split}
use Rattle.cg_text.specs.Words.{Line, SayAll, Says, is_newline, lines_of, without_empty_last}
use Rattle.cg_text.proofs.Lines.{parts_say}
use Rattle.cg_model.specs.Cgroups.{cgroups}
use Rattle.cg_model.specs.History.{Request}
use Rattle.cg_script.specs.Request.{SpellsLine}
use Rattle.cg_script.specs.Turns.{Turn, Skip, Ask, Fail, AreTurns, session_number, with_name}
use Rattle.cg_script.proofs.OneLine.{line_one}
use Rattle.cg_script.proofs.Facts.{cons_nil}
use Rattle.cg_check.specs.Right.{IsNoFailure, IsSchedule}
use Rattle.cg_check.specs.Passing.{Names, Passes}

-- lines that pass one after another, and the names behind them
abbrev pub PassAll : Names → List Line → Names → Type 0
PassAll names [] behind = behind ≡ names
PassAll names (line ∷ lines) behind = (mid : Names) × Passes names line mid × PassAll mid lines behind

-- ---- one line

asks_one : (line : Line) (n m : List ℕ) (r q : Request cgroups) → SpellsLine line (Some (n, r)) → SpellsLine line (Some (m, q)) → n ≡ m
asks_one line n m r q h k = ap (λ c. c.0) (same_Some (n, r) (m, q) (line_one line (Some (n, r)) (Some (m, q)) h k))

says_nothing : (line : Line) (n : List ℕ) (r : Request cgroups) → SpellsLine line None → SpellsLine line (Some (n, r)) → ⊥
says_nothing line n r none some = none-some (n, r) (line_one line None (Some (n, r)) none some)

-- the names behind a line are the same, however it is told
pass_one : (names : Names) (line : Line) (a b : Names) → Passes names line a → Passes names line b → a ≡ b
pass_one names line a b (inl h) (inl k) = h.1 ∙ sym k.1
pass_one names line a b (inl h) (inr (k, r, (n, s, e, f))) = absurd (says_nothing line n r h.0 s)
pass_one names line a b (inr (k, r, (n, s, e, f))) (inl h) = absurd (says_nothing line n r h.0 s)
pass_one names line a b (inr (k, r, (n, s, e, f))) (inr (l, q, (m, t, g, h))) =
    f ∙ ap (with_name names) (asks_one line n m r q s t) ∙ sym h

-- a line that says nothing passes,
pub silence_passes : (names : Names) (line : Line) → SpellsLine line None → Passes names line names
silence_passes names line h = inl (h, refl)

number_known : (number : Option ℕ) → is_some number ≡ true → (k : ℕ) × (number ≡ Some k)
number_known None e = absurd (cc)
number_known (Some k) e = (k, refl)

-- and one of a session that has a number
pub request_passes : (names : Names) (line : Line) (n : List ℕ) (r : Request cgroups) (behind : Names) → SpellsLine line (Some (n, r)) → is_some (session_number names n) ≡ true → behind ≡ with_name names n → Passes names line behind
request_passes names line n r behind h known e = let k = number_known (session_number names n) known in inr (k.0, r, (n, h, k.1, e))

-- one of a session that has none doesn't,
number_of_none : (number : Option ℕ) (k : ℕ) → is_some number ≡ false → number ≡ Some k → ⊥
number_of_none None k e f = none-some k f
number_of_none (Some l) k e f = absurd (cc)

pub no_number : (names : Names) (line : Line) (n : List ℕ) (r : Request cgroups) → SpellsLine line (Some (n, r)) → is_some (session_number names n) ≡ false → (behind : Names) → Passes names line behind → ⊥
no_number names line n r h none behind (inl p) = says_nothing line n r p.0 h
no_number names line n r h none behind (inr (k, q, (m, s, e, f))) =
    number_of_none (session_number names n) k none (subst (λ x. session_number names x ≡ Some k) (asks_one line m n q r s h) e)

-- nor does one that says nothing that it may
pub nothing_passes : (names : Names) (line : Line) → ((call : Option (List ℕ × Request cgroups)) → SpellsLine line call → ⊥) → (behind : Names) → Passes names line behind → ⊥
nothing_passes names line none behind (inl p) = none None p.0
nothing_passes names line none behind (inr (k, r, (n, s, e, f))) = none (Some (n, r)) s

-- ---- lines

pub pass_more : (names : Names) (lines : List Line) (line : Line) (mid behind : Names) → PassAll names lines mid → Passes mid line behind → PassAll names (lines ++ line ∷ []) behind
pass_more names [] line mid behind e h = (behind, subst (λ ns. Passes ns line behind) e h, refl)
pass_more names (l ∷ lines) line mid behind (first, p, h) k = (first, p, pass_more first lines line mid behind h k)

-- what is left of lines that pass passes, too
pass_rest : (names : Names) (lines rest : List Line) (mid behind : Names) → PassAll names lines mid → PassAll names (lines ++ rest) behind → PassAll mid rest behind
pass_rest names [] rest mid behind e k = subst (λ ns. PassAll ns rest behind) (sym e) k
pass_rest names (l ∷ lines) rest mid behind (first, p, h) (other, q, k) =
    pass_rest first lines rest mid behind h (subst (λ ns. PassAll ns (lines ++ rest) behind) (pass_one names l other first q p) k)

-- lines with one behind them that doesn't pass
pub none_pass : (names : Names) (lines : List Line) (line : Line) (rest : List Line) (mid behind : Names) → PassAll names lines mid → ((ns : Names) → Passes mid line ns → ⊥) → PassAll names (lines ++ line ∷ rest) behind → ⊥
none_pass names lines line rest mid behind h none k = let p = pass_rest names lines (line ∷ rest) mid behind h k in none p.0 p.1

-- ---- an empty line behind the last newline says nothing

of_nothing : SayAll ([] ∷ []) [] → Says [] None
of_nothing (inl h) = h.0
of_nothing (inr h) = absurd (cons_nil (sym h.3))

empty_says_nothing : SpellsLine [] None
empty_says_nothing = of_nothing (parts_say ([] ∷ []) [] refl)

with_last : (names : Names) (ps : List Line) (behind : Names) → PassAll names (without_empty_last ps) behind → PassAll names ps behind
with_last names [] behind h = h
with_last names ([] ∷ []) behind h = (names, inl (empty_says_nothing, refl), h)
with_last names ((b ∷ l) ∷ []) behind h = h
with_last names (l ∷ m ∷ ps) behind (mid, p, h) = (mid, p, with_last mid (m ∷ ps) behind h)

without_last : (names : Names) (ps : List Line) (behind : Names) → PassAll names ps behind → PassAll names (without_empty_last ps) behind
without_last names [] behind h = h
without_last names ([] ∷ []) behind (mid, inl p, e) = e ∙ p.1
without_last names ([] ∷ []) behind (mid, inr (k, r, (n, s, g, f)), e) = absurd (says_nothing [] n r empty_says_nothing s)
without_last names ((b ∷ l) ∷ []) behind h = h
without_last names (l ∷ m ∷ ps) behind (mid, p, h) = (mid, p, without_last mid (m ∷ ps) behind h)

-- ---- turns

-- the turns of lines that pass
record Turns (names : Names) (lines : List Line) : Type 0 where
  turns : List Turn
  are : AreTurns names lines turns
  none : AllByRecursion IsNoFailure turns

turns_of : (names : Names) (lines : List Line) (behind : Names) → PassAll names lines behind → Turns names lines
turns_of names [] behind e = record { turns = []; are = tt; none = tt }
turns_of names (l ∷ lines) behind (mid, inl p, h) =
    let t = turns_of mid lines behind h in record { turns = Skip ∷ t.turns; are = (mid, p, t.are); none = (tt, t.none) }
turns_of names (l ∷ lines) behind (mid, inr (k, r, p), h) =
    let t = turns_of mid lines behind h in record { turns = Ask k r ∷ t.turns; are = (mid, p, t.are); none = (tt, t.none) }

-- lines whose turns are no failures pass
lines_pass : (names : Names) (lines : List Line) (turns : List Turn) → AreTurns names lines turns → AllByRecursion IsNoFailure turns → (behind : Names) × PassAll names lines behind
lines_pass names [] [] h none = (names, refl)
lines_pass names [] (t ∷ ts) h none = absurd h
lines_pass names (l ∷ lines) [] h none = absurd h
lines_pass names (l ∷ lines) (Skip ∷ ts) (mid, p, h) none = let b = lines_pass mid lines ts h none.1 in (b.0, (mid, inl p, b.1))
lines_pass names (l ∷ lines) (Ask k r ∷ ts) (mid, p, h) none = let b = lines_pass mid lines ts h none.1 in (b.0, (mid, inr (k, r, p), b.1))
lines_pass names (l ∷ lines) (Fail ∷ ts) (mid, p, h) none = absurd none.0

pub is_schedule : (text : List ℕ) (behind : Names) → PassAll [] (slice_split is_newline text) behind → IsSchedule text
is_schedule text behind h = let t = turns_of [] (lines_of text) behind (without_last [] (slice_split is_newline text) behind h) in (t.turns, t.are, t.none)

pub parts_pass : (text : List ℕ) → IsSchedule text → (behind : Names) × PassAll [] (slice_split is_newline text) behind
parts_pass text h = let b = lines_pass [] (lines_of text) h.0 h.1 h.2 in (b.0, with_last [] (slice_split is_newline text) b.0 b.1)

-- ---- faults of lines so far

-- So many faults of the lines at the front of a text: without one they all pass, and with one no text of which they are the front does.
pub record HasFaults (count : ℕ) (lines : List Line) (names : Names) : Type 0 where
  pub none : count ≡ 0 → PassAll [] lines names
  pub some : 0 < count → (rest : List Line) (behind : Names) → PassAll [] (lines ++ rest) behind → ⊥

pub no_lines : (count : ℕ) (names : Names) → count ≡ 0 → names ≡ [] → HasFaults count [] names
no_lines count names none no_names = record { none = λ _. no_names; some = λ h rest behind p. absurd (omega arith) }

some_more : (old new : ℕ) (lines : List Line) (line : Line) (names behind : Names) → HasFaults old lines names → (old ≡ 0 → 0 < new → (ns : Names) → Passes names line ns → ⊥) → 0 < new → (rest : List Line) (end : Names) → PassAll [] ((lines ++ line ∷ []) ++ rest) end → ⊥
some_more zero new lines line names behind h fails more rest end p =
    none_pass [] lines line rest names end (h.none refl) (fails refl more) (subst (λ ls. PassAll [] ls end) (append_assoc lines (line ∷ []) rest) p)
some_more (suc n) new lines line names behind h fails more rest end p =
    h.some (omega arith) (line ∷ rest) end (subst (λ ls. PassAll [] ls end) (append_assoc lines (line ∷ []) rest) p)

-- one line more
pub line_more : (old new : ℕ) (lines : List Line) (line : Line) (names behind : Names) → HasFaults old lines names → (new ≡ 0 → (old ≡ 0) × Passes names line behind) → (old ≡ 0 → 0 < new → (ns : Names) → Passes names line ns → ⊥) → HasFaults new (lines ++ line ∷ []) behind
line_more old new lines line names behind h passes fails =
    record { none = λ e. let p = passes e in pass_more [] lines line names behind (h.none p.0) p.1; some = some_more old new lines line names behind h fails }
