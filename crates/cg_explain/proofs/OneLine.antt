-- What stands on one line: it has no newline.
use Rattle.std.proofs.Common.{◌≡◌, ℕ, zero, suc, ◌+◌, ◌/◌, ◌%◌, ◌<◌, ◌==◌, Bool, true, false, not, cond, map, nat_le, ◌&&◌, List, [], ◌∷◌, ◌++◌, get_or, codes, refl, sym, ap, subst, ◌∙◌, inl, inr, arith, true≢false}
use Rattle.std.specs.List.{AllByRecursion, flat_map, join_with_byte, list_all, onto_first, slice_split}
use Rattle.std.specs.Fmt.{digit_glyph, digits, digits_onto, decimal}
use Rattle.std.proofs.Math.Nat.{mod-lt}
use Rattle.std.proofs.lemmas.Bool.{and_parts, cases_Bool, cond_both, eq-eqb, leb-true, lt-ltb, not-true, ne_eqb}
use Rattle.std.proofs.lemmas.List.Splits.{slice_split-cons_yes, slice_split-cons_no}
use Rattle.std.proofs.lemmas.List.Sums.{AllPass-from_list_all}
use Rattle.cg_name.specs.Controller.{controller_word}
use Rattle.cg_name.specs.declared.controller.Controller.{Controller}
use Rattle.cg_name.specs.declared.controller.Controller.TheVariants.{Cpuset, Cpu, Io, Memory, Hugetlb, Pids, Rdma, Misc}
use Rattle.cg_name.specs.Refusal.{number_of, word_of, argument_of, refusal_text}
use Rattle.cg_name.specs.Path.{Path, path_text, path_word}
use Rattle.cg_name.specs.Word.{is_plain_byte, is_special, quoted_byte, quoted_text}
use Rattle.cg_name.specs.declared.refusal.Refusal.{Refusal}
use Rattle.cg_name.specs.declared.refusal.Refusal.TheVariants as refusals
use Rattle.cg_text.specs.Words.{Line, is_newline, lines_of, without_empty_last}
use Rattle.cg_text.proofs.Lists.{all_append}
use Rattle.cg_lines.specs.Lines.{HasNoNewline}
use Rattle.cg_model.specs.History.{Answer, Begun, Gave, Saved, WentBack, Committed, Aborted, Refused}
use Rattle.cg_model.specs.System.{Done, Text}
use Rattle.cg_script.specs.Answer.{answer_text}

abbrev pub is_on_line : ℕ → Bool
is_on_line b = not (b == 10)

abbrev pub IsOnLine : List ℕ → Type 0
IsOnLine l = list_all is_on_line l ≡ true

pub no_newline : (l : List ℕ) → IsOnLine l → HasNoNewline l
no_newline l h = λ k d within e.
    let at : is_on_line (get_or l k d) ≡ true = AllPass-from_list_all is_on_line l h k d within in
    true≢false (sym (eq-eqb (get_or l k d) 10 e) ∙ not-true (get_or l k d == 10) at)

pub both_on_line : (a b : List ℕ) → IsOnLine a → IsOnLine b → IsOnLine (a ++ b)
both_on_line a b h k = all_append is_on_line a b h k

-- ---- numbers

digit_on_line : (n : ℕ) → n < 10 → is_on_line (digit_glyph false n) ≡ true
digit_on_line n small =
    subst (λ b. is_on_line b ≡ true) (sym (ap (λ b. cond b (48 + n) (87 + n)) (lt-ltb n 10 small))) (rw (ne_eqb (48 + n) 10 (λ e. omega (arith, e))) refl)

digits_on_line : (k n : ℕ) (ds : List ℕ) → IsOnLine ds → IsOnLine (digits_onto k 10 false n ds)
digits_on_line zero n ds h = h
digits_on_line (suc k) n ds h =
    let last : IsOnLine (digit_glyph false (n % 10) ∷ ds) = rw (digit_on_line (n % 10) (mod-lt n (omega arith))) h in
    cond_both (n / 10 == 0) (digit_glyph false (n % 10) ∷ ds) (digits_onto k 10 false (n / 10) (digit_glyph false (n % 10) ∷ ds)) IsOnLine
    (λ _. last)
    (λ _. digits_on_line k (n / 10) (digit_glyph false (n % 10) ∷ ds) last)

pub number_on_line : (n : ℕ) → IsOnLine (decimal n)
unfolding digits
number_on_line n = digits_on_line 64 n [] refl

-- ---- quoted texts

quoted_byte_on_line : (b : ℕ) → IsOnLine (quoted_byte b)
quoted_byte_on_line b =
    cond_both (b == 10) (92 ∷ 110 ∷ []) (cond (is_special b) (92 ∷ b ∷ []) (b ∷ [])) IsOnLine
    (λ _. refl)
    (λ n. cond_both (is_special b) (92 ∷ b ∷ []) (b ∷ []) IsOnLine (λ _. rw n refl) (λ _. rw n refl))

quoted_bytes_on_line : (text : List ℕ) → IsOnLine (flat_map quoted_byte text)
quoted_bytes_on_line [] = refl
quoted_bytes_on_line (b ∷ text) = both_on_line (quoted_byte b) (flat_map quoted_byte text) (quoted_byte_on_line b) (quoted_bytes_on_line text)

pub quoted_on_line : (text : List ℕ) → IsOnLine (quoted_text text)
quoted_on_line text = both_on_line (flat_map quoted_byte text) (34 ∷ []) (quoted_bytes_on_line text) refl

-- ---- answers

pub controller_on_line : (c : Controller) → IsOnLine (controller_word c)
controller_on_line Cpuset = refl
controller_on_line Cpu = refl
controller_on_line Io = refl
controller_on_line Memory = refl
controller_on_line Hugetlb = refl
controller_on_line Pids = refl
controller_on_line Rdma = refl
controller_on_line Misc = refl

word_on_line : (r : Refusal) → IsOnLine (word_of r)
word_on_line refusals.Syntax = refl
word_on_line refusals.NoTransaction = refl
word_on_line refusals.AlreadyOpen = refl
word_on_line refusals.Full = refl
word_on_line (refusals.Busy t) = refl
word_on_line refusals.NoGroup = refl
word_on_line refusals.Exists = refl
word_on_line refusals.IsRoot = refl
word_on_line refusals.HasChildren = refl
word_on_line refusals.HasProcesses = refl
word_on_line refusals.NoProcess = refl
word_on_line refusals.Controlled = refl
word_on_line (refusals.Unavailable c) = refl
word_on_line (refusals.InUse c) = refl
word_on_line refusals.NoFile = refl
word_on_line refusals.NoSavepoint = refl
word_on_line refusals.NameTaken = refl
word_on_line refusals.NothingToUndo = refl
word_on_line refusals.Memory = refl
word_on_line refusals.Lost = refl
word_on_line refusals.Disagree = refl
word_on_line refusals.TooMany = refl
word_on_line refusals.TooDeep = refl
word_on_line refusals.ReadFault = refl
word_on_line refusals.WriteFault = refl

argument_on_line : (r : Refusal) → IsOnLine (argument_of r)
argument_on_line (refusals.Busy t) = number_on_line t.0
argument_on_line (refusals.Unavailable c) = controller_on_line c
argument_on_line (refusals.InUse c) = controller_on_line c
argument_on_line _ = refl

pub refusal_on_line : (r : Refusal) → IsOnLine (refusal_text r)
refusal_on_line r =
    let number : List ℕ = codes "refused " ++ decimal (number_of r) in
    let spaced : IsOnLine (number ++ codes " ") = both_on_line number (codes " ") (number_on_line (number_of r)) refl in
    both_on_line (number ++ codes " " ++ word_of r) (argument_of r) (both_on_line (number ++ codes " ") (word_of r) spaced (word_on_line r)) (argument_on_line r)

pub answer_on_line : (a : Answer) → IsOnLine (answer_text a)
answer_on_line (Begun t) = number_on_line t
answer_on_line (Gave Done) = refl
answer_on_line (Gave (Text x)) = quoted_on_line x
answer_on_line Saved = refl
answer_on_line (WentBack n) = number_on_line n
answer_on_line (Committed k) = number_on_line k
answer_on_line (Aborted t) = number_on_line t
answer_on_line (Refused r) = refusal_on_line r

-- ---- paths and controllers

plain_on_line : (b : ℕ) → is_plain_byte b ≡ true → is_on_line b ≡ true
plain_on_line b h =
    let low = leb-true 33 b (and_parts (nat_le 33 b) (nat_le b 126) (and_parts (nat_le 33 b && nat_le b 126) (not (is_special b)) h).0).0 in
    rw (ne_eqb b 10 (λ e. omega (arith, low, e))) refl

plain_bytes_on_line : (l : List ℕ) → list_all is_plain_byte l ≡ true → IsOnLine l
plain_bytes_on_line [] h = refl
plain_bytes_on_line (b ∷ l) h =
    let s = and_parts (is_plain_byte b) (list_all is_plain_byte l) h in rw (plain_on_line b s.0) (plain_bytes_on_line l s.1)

pub path_on_line : (p : Path) → IsOnLine (path_word p)
path_on_line p = cond_both (list_all is_plain_byte (path_text p)) (path_text p) (quoted_text (path_text p)) IsOnLine (λ h. plain_bytes_on_line (path_text p) h) (λ _. quoted_on_line (path_text p))

pub names_on_line : (cs : List Controller) → IsOnLine (join_with_byte 44 (map controller_word cs))
names_on_line [] = refl
names_on_line (c ∷ []) = controller_on_line c
names_on_line (c ∷ d ∷ cs) = both_on_line (controller_word c) (44 ∷ join_with_byte 44 (map controller_word (d ∷ cs))) (controller_on_line c) (names_on_line (d ∷ cs))

-- ---- the lines of a text

abbrev AreOnLine : List (List ℕ) → Type 0
AreOnLine ls = AllByRecursion IsOnLine ls

onto_first_on_line : (b : ℕ) → is_newline b ≡ false → (ps : List (List ℕ)) → AreOnLine ps → AreOnLine (onto_first b ps)
onto_first_on_line b isnt [] h = (rw isnt refl, tt)
onto_first_on_line b isnt (p ∷ ps) h = (rw isnt h.0, h.1)

parts_on_line : (text : List ℕ) → AreOnLine (slice_split is_newline text)
parts_on_line [] = (refl, tt)
parts_on_line (b ∷ bytes) = elim (cases_Bool (is_newline b)) [
  | inl is ↦ subst AreOnLine (sym (slice_split-cons_yes is_newline b bytes is)) (refl, parts_on_line bytes)
  | inr isnt ↦ subst AreOnLine (sym (slice_split-cons_no is_newline b bytes isnt)) (onto_first_on_line b isnt (slice_split is_newline bytes) (parts_on_line bytes))
]

kept_on_line : (ls : List Line) → AreOnLine ls → AreOnLine (without_empty_last ls)
kept_on_line [] h = tt
kept_on_line ([] ∷ []) h = tt
kept_on_line ((b ∷ l) ∷ []) h = h
kept_on_line (l ∷ m ∷ ls) h = (h.0, kept_on_line (m ∷ ls) h.1)

pub lines_on_line : (text : List ℕ) → AllByRecursion IsOnLine (lines_of text)
lines_on_line text = kept_on_line (slice_split is_newline text) (parts_on_line text)
