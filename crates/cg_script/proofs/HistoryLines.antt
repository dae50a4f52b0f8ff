-- The lines of a history's text: each request's line is itself, and each answer's is a comment.
use Rattle.std.proofs.Common.{◌≡◌, ℕ, zero, suc, ◌+◌, ◌-◌, ◌/◌, ◌%◌, ◌^◌, ◌<◌, ◌≤◌, ◌==◌, ◌&&◌, Bool, true, false, not, cond, nat_le, List, [], ◌∷◌, ◌++◌, length, get_or, take, codes, None, refl, sym, ap, subst, ◌∙◌, inl, inr, arith, append_assoc, true≢false}
use Rattle.std.specs.List.{AllByRecursion, list_all}
use Rattle.std.specs.Fmt.{digit_glyph, digits, digits_onto, decimal}
use Rattle.std.specs.Str.{IsUtf8}
use Rattle.std.specs.Str.Lines.{strip_carriage_return}
use Rattle.std.proofs.Math.Nat.{mod-lt}
use Rattle.std.proofs.lemmas.Bool.{and_parts, cond_both, eq-eqb, eqb-true, le-leb, lt-ltb, leb-true, not-true, ne_eqb}
use Rattle.std.proofs.lemmas.List.Sums.{AllPass-from_list_all}
use Rattle.std.proofs.lemmas.Str.{IsUtf8-append, IsUtf8-nil, IsUtf8-take}
use Rattle.std.proofs.lemmas.Fmt.{length-decimal-le}
use Rattle.cg_name.specs.Controller.{controller_word}
use Rattle.cg_name.specs.declared.controller.Controller.{Controller}
use Rattle.cg_name.specs.declared.controller.Controller.TheVariants.{Cpuset, Cpu, Io, Memory, Hugetlb, Pids, Rdma, Misc}
use Rattle.cg_name.specs.Refusal.{number_of, word_of, argument_of, refusal_text}
use Rattle.cg_name.specs.declared.refusal.Refusal.{Refusal}
use Rattle.cg_name.specs.declared.refusal.Refusal.TheVariants as refusals
use Rattle.cg_name.specs.SaveName.{IsSaveName, IsSaveNameByte}
use Rattle.cg_name.specs.Word.{FitsLine, quoted_text}
use Rattle.cg_name.proofs.Written.{ascii_then, quoted_fits}
use Rattle.cg_text.specs.Words.{Word, Says, is_silent, line_of, lines_of}
use Rattle.cg_text.proofs.Lists.{all_append}
use Rattle.cg_lines.specs.Lines.{HasNoNewline}
use Rattle.cg_lines.proofs.LinesLaw.{lines_of-begins}
use Rattle.cg_model.specs.Cgroups.{cgroups}
use Rattle.cg_model.specs.History.{Request, Answer, Begun, Gave, Saved, WentBack, Committed, Aborted, Refused, Record}
use Rattle.cg_model.specs.System.{Done, Text}
use Rattle.cg_script.specs.Answer.{answer_text}
use Rattle.cg_script.specs.HistoryText.{session_name, comment_line, record_text, ShowsText, IsReadable}
use Rattle.cg_script.specs.Request.{newline, CanBeAsked, request_line, request_text}
use Rattle.cg_script.proofs.WrittenLines.{Written, request_written}

-- ---- digits

abbrev IsDigit : ℕ → Type 0
IsDigit b = (48 ≤ b) × (b ≤ 57)

digit : (n : ℕ) → n < 10 → IsDigit (digit_glyph false n)
digit n small = subst IsDigit (sym (ap (λ b. cond b (48 + n) (87 + n)) (lt-ltb n 10 small))) (omega arith, omega (arith, small))

digits_are : (k n : ℕ) (ds : List ℕ) → AllByRecursion IsDigit ds → AllByRecursion IsDigit (digits_onto k 10 false n ds)
digits_are zero n ds h = h
digits_are (suc k) n ds h =
    let last : IsDigit (digit_glyph false (n % 10)) = digit (n % 10) (mod-lt n (omega arith)) in
    cond_both (n / 10 == 0) (digit_glyph false (n % 10) ∷ ds) (digits_onto k 10 false (n / 10) (digit_glyph false (n % 10) ∷ ds)) (AllByRecursion IsDigit)
    (λ _. (last, h))
    (λ _. digits_are k (n / 10) (digit_glyph false (n % 10) ∷ ds) (last, h))

decimal_digits : (n : ℕ) → AllByRecursion IsDigit (decimal n)
unfolding digits
decimal_digits n = digits_are 64 n [] tt

-- ---- the names of sessions

name_bytes : (ds : List ℕ) → AllByRecursion IsDigit ds → AllByRecursion IsSaveNameByte ds
name_bytes [] h = tt
name_bytes (d ∷ ds) h = (inl (inl (inl h.0)), name_bytes ds h.1)

pub session_is_named : (s : ℕ) → s < 2 ^ 32 → IsSaveName (session_name s)
session_is_named s small = record {
  nonempty = omega arith;
  short = omega (arith, length-decimal-le 10 s (omega arith) (omega (arith, small)) (omega (arith, small)));
  bytes = (inl (inr (omega arith, omega arith)), name_bytes (decimal s) (decimal_digits s));
}

-- ---- bytes that may stand in a line

abbrev is_on_line : ℕ → Bool
is_on_line b = not (b == 10)

-- a space or another printing character of ASCII
abbrev is_printing : ℕ → Bool
is_printing b = nat_le 32 b && nat_le b 126

abbrev ArePrinting : List ℕ → Type 0
ArePrinting l = list_all is_printing l ≡ true

-- text on one line
record IsOneLine (l : List ℕ) : Type 0 where
  text : IsUtf8 l
  on_line : list_all is_on_line l ≡ true

bounds : (b : ℕ) → is_printing b ≡ true → (32 ≤ b) × (b ≤ 126)
bounds b h = let s = and_parts (nat_le 32 b) (nat_le b 126) h in (leb-true 32 b s.0, leb-true b 126 s.1)

printing_on_line : (l : List ℕ) → ArePrinting l → list_all is_on_line l ≡ true
printing_on_line [] h = refl
printing_on_line (b ∷ l) h =
    let s = and_parts (is_printing b) (list_all is_printing l) h in
    let within = bounds b s.0 in
    rw (ne_eqb b 10 (λ e. omega (arith, within.0, e))) (printing_on_line l s.1)

printing_text : (l : List ℕ) → ArePrinting l → IsUtf8 l
printing_text [] h = IsUtf8-nil
printing_text (b ∷ l) h =
    let s = and_parts (is_printing b) (list_all is_printing l) h in
    ascii_then b l (omega (arith, (bounds b s.0).1)) (printing_text l s.1)

one_line : (l : List ℕ) → ArePrinting l → IsOneLine l
one_line l h = record { text = printing_text l h; on_line = printing_on_line l h }

both_on_line : (a b : List ℕ) → IsOneLine a → IsOneLine b → IsOneLine (a ++ b)
both_on_line a b h k = record { text = IsUtf8-append a b h.text k.text; on_line = all_append is_on_line a b h.on_line k.on_line }

no_newline : (l : List ℕ) → list_all is_on_line l ≡ true → HasNoNewline l
no_newline l h = λ k d within e.
    let at : is_on_line (get_or l k d) ≡ true = AllPass-from_list_all is_on_line l h k d within in
    true≢false (sym (eq-eqb (get_or l k d) 10 e) ∙ not-true (get_or l k d == 10) at)

-- ---- the line of an answer

digits_print : (ds : List ℕ) → AllByRecursion IsDigit ds → ArePrinting ds
digits_print [] h = refl
digits_print (d ∷ ds) h =
    let low = h.0.0 in
    let high = h.0.1 in
    rw (le-leb 32 d (omega (arith, low)), le-leb d 126 (omega (arith, high))) (digits_print ds h.1)

number_prints : (n : ℕ) → ArePrinting (decimal n)
number_prints n = digits_print (decimal n) (decimal_digits n)

controller_prints : (c : Controller) → ArePrinting (controller_word c)
controller_prints Cpuset = refl
controller_prints Cpu = refl
controller_prints Io = refl
controller_prints Memory = refl
controller_prints Hugetlb = refl
controller_prints Pids = refl
controller_prints Rdma = refl
controller_prints Misc = refl

word_prints : (r : Refusal) → ArePrinting (word_of r)
word_prints refusals.Syntax = refl
word_prints refusals.NoTransaction = refl
word_prints refusals.AlreadyOpen = refl
word_prints refusals.Full = refl
word_prints (refusals.Busy t) = refl
word_prints refusals.NoGroup = refl
word_prints refusals.Exists = refl
word_prints refusals.IsRoot = refl
word_prints refusals.HasChildren = refl
word_prints refusals.HasProcesses = refl
word_prints refusals.NoProcess = refl
word_prints refusals.Controlled = refl
word_prints (refusals.Unavailable c) = refl
word_prints (refusals.InUse c) = refl
word_prints refusals.NoFile = refl
word_prints refusals.NoSavepoint = refl
word_prints refusals.NameTaken = refl
word_prints refusals.NothingToUndo = refl
word_prints refusals.Memory = refl
word_prints refusals.Lost = refl
word_prints refusals.Disagree = refl
word_prints refusals.TooMany = refl
word_prints refusals.TooDeep = refl
word_prints refusals.ReadFault = refl
word_prints refusals.WriteFault = refl

argument_prints : (r : Refusal) → ArePrinting (argument_of r)
argument_prints (refusals.Busy t) = number_prints t.0
argument_prints (refusals.Unavailable c) = controller_prints c
argument_prints (refusals.InUse c) = controller_prints c
argument_prints _ = refl

refusal_prints : (r : Refusal) → ArePrinting (refusal_text r)
refusal_prints r =
    let number : List ℕ = codes "refused " ++ decimal (number_of r) in
    let spaced : ArePrinting (number ++ codes " ") = all_append is_printing number (codes " ") (number_prints (number_of r)) refl in
    all_append is_printing (number ++ codes " " ++ word_of r) (argument_of r) (all_append is_printing (number ++ codes " ") (word_of r) spaced (word_prints r)) (argument_prints r)

answer_on_line : (a : Answer) → ShowsText a → IsOneLine (answer_text a)
answer_on_line (Begun t) h = one_line (codes "begun " ++ decimal t) (number_prints t)
answer_on_line (Gave Done) h = one_line (codes "done") refl
answer_on_line (Gave (Text x)) h =
    let quoted = quoted_fits x h in
    both_on_line (codes "text ") (quoted_text x) (one_line (codes "text ") refl) (record { text = quoted.text; on_line = quoted.one_line })
answer_on_line Saved h = one_line (codes "saved") refl
answer_on_line (WentBack n) h = one_line (codes "back " ++ decimal n) (number_prints n)
answer_on_line (Committed k) h = one_line (codes "committed " ++ decimal k) (number_prints k)
answer_on_line (Aborted t) h = one_line (codes "aborted " ++ decimal t) (number_prints t)
answer_on_line (Refused r) h = one_line (refusal_text r) (refusal_prints r)

comment_on_line : (a : Answer) → ShowsText a → IsOneLine (comment_line a)
comment_on_line a h = both_on_line (codes "# ") (answer_text a) (one_line (codes "# ") refl) (answer_on_line a h)

-- text without a carriage return at its end is text
stripped_text : (l : List ℕ) → IsUtf8 l → IsUtf8 (strip_carriage_return l)
stripped_text l u =
    cond_both (get_or l (length l - 1) 0 == 13) (take (length l - 1) l) l IsUtf8
    (λ e. IsUtf8-take l (length l - 1) u (omega arith, λ within high. absurd (omega (arith, eqb-true (get_or l (length l - 1) 0) 13 e, high))))
    (λ _. u)

stripped_silent : (l : List ℕ) → is_silent (strip_carriage_return (35 ∷ 32 ∷ l)) ≡ true
stripped_silent l =
    let whole : List ℕ = 35 ∷ 32 ∷ l in
    let short : length whole - 1 ≡ suc (length l) = omega arith in
    cond_both (get_or whole (length whole - 1) 0 == 13) (take (length whole - 1) whole) whole (λ line. is_silent line ≡ true)
    (λ _. subst (λ n. is_silent (take n whole) ≡ true) (sym short) refl)
    (λ _. refl)

pub comment_says_nothing : (a : Answer) → ShowsText a → length (comment_line a) ≤ 65536 → Says (comment_line a) None
comment_says_nothing a h short = (record { short = short; text = stripped_text (comment_line a) (comment_on_line a h).text }, stripped_silent (answer_text a))

-- ---- the line of a request

words_on_line : (ws : List Word) → AllByRecursion FitsLine ws → list_all is_on_line (line_of ws) ≡ true
words_on_line [] h = refl
words_on_line (w ∷ []) h = h.0.one_line
words_on_line (w ∷ v ∷ ws) h = all_append is_on_line w (32 ∷ line_of (v ∷ ws)) h.0.one_line (words_on_line (v ∷ ws) h.1)

request_on_line : (s : ℕ) (r : Request cgroups) → CanBeAsked r → list_all is_on_line (request_line (session_name s) r) ≡ true
request_on_line s r h =
    let w : Written r = request_written r h in
    let behind : list_all is_on_line (request_text r) ≡ true = subst (λ l. list_all is_on_line l ≡ true) w.joined (words_on_line (w.first ∷ w.more) w.fit) in
    all_append is_on_line (session_name s) (32 ∷ request_text r) (printing_on_line (session_name s) (number_prints s)) behind

-- ---- the lines of a record, and those behind it

pub record_lines : (r : Record cgroups) (behind : List ℕ) → IsReadable r → lines_of (record_text r ++ behind) ≡ request_line (session_name r.session) r.request ∷ comment_line r.answer ∷ lines_of behind
record_lines r behind h =
    let asking : List ℕ = request_line (session_name r.session) r.request in
    let comment : List ℕ = comment_line r.answer in
    let rest : List ℕ = comment ++ 10 ∷ behind in
    let second : (comment ++ newline) ++ behind ≡ rest = append_assoc comment newline behind in
    let first : record_text r ++ behind ≡ asking ++ 10 ∷ rest =
    append_assoc (asking ++ newline) (comment ++ newline) behind ∙ append_assoc asking newline ((comment ++ newline) ++ behind) ∙ ap (λ l. asking ++ 10 ∷ l) second in
    lines_of-begins (record_text r ++ behind) asking rest (no_newline asking (request_on_line r.session r.request h.request), inl first)
    ∙ ap (λ ls. asking ∷ ls) (lines_of-begins rest comment behind (no_newline comment (comment_on_line r.answer h.shown).on_line, inl refl))
