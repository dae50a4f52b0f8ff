-- Words that are written in lines are what the lines say.
use Rattle.std.proofs.Common.{◌≡◌, inr, ℕ, ◌+◌, ◌-◌, ◌<◌, ◌==◌, Bool, true, false, not, cond, List, [], ◌∷◌, ◌++◌, map, length, get_or, take, Some, refl, ap, sym, subst, ◌∙◌, append_assoc, arith, length-append, length-take}
use Rattle.std.proofs.lemmas.List.{append-nil}
use Rattle.std.proofs.Math.Seq.{get_or-append_right}
use Rattle.std.proofs.lemmas.Str.{IsUtf8-append, IsUtf8-from_ascii}
use Rattle.std.proofs.lemmas.Str.Ascii.{IsAscii-nil, IsAscii-cons}
use Rattle.std.specs.List.{AllByRecursion, list_all, slice_split}
use Rattle.std.specs.Str.{IsUtf8}
use Rattle.std.specs.Str.Lines.{strip_carriage_return}
use Rattle.cg_name.specs.Word.{is_blank, IsWord, FitsLine}
use Rattle.cg_text.specs.Laws.{WrittenLinesSay}
use Rattle.cg_text.specs.Words.{Line, Word, is_newline, without_empty_last, lines_of, is_silent, Cuts, Says, SayAll, line_of, text_of, IsWrittenLine}
use Rattle.cg_text.proofs.FirstWord.{word_starts}
use Rattle.cg_text.proofs.Lists.{all_append, split_at}

-- ---- a line is whole

-- no byte of a line is a newline
abbrev is_on_line : ℕ → Bool
is_on_line b = not (b == 10)

line_has_no_newline : (ws : List Word) → AllByRecursion FitsLine ws → list_all is_on_line (line_of ws) ≡ true
line_has_no_newline [] h = refl
line_has_no_newline (w ∷ []) h = h.0.one_line
line_has_no_newline (w ∷ v ∷ ws) h = all_append is_on_line w (32 ∷ line_of (v ∷ ws)) h.0.one_line (line_has_no_newline (v ∷ ws) h.1)

line_is_text : (ws : List Word) → AllByRecursion FitsLine ws → IsUtf8 (line_of ws)
line_is_text [] h = IsUtf8-from_ascii [] IsAscii-nil
line_is_text (w ∷ []) h = h.0.text
line_is_text (w ∷ v ∷ ws) h =
    IsUtf8-append w (32 ∷ line_of (v ∷ ws)) h.0.text
    (IsUtf8-append (32 ∷ []) (line_of (v ∷ ws)) (IsUtf8-from_ascii (32 ∷ []) (IsAscii-cons 32 [] (omega arith) IsAscii-nil)) (line_is_text (v ∷ ws) h.1))

-- a line of some bytes that keeps its last byte ends with no carriage return
last_is_no_return : (l : List ℕ) → 0 < length l → strip_carriage_return l ≡ l → (get_or l (length l - 1) 0 == 13) ≡ false
last_is_no_return l long whole = by_test (get_or l (length l - 1) 0 == 13) refl
  where
    by_test : (b : Bool) → (get_or l (length l - 1) 0 == 13) ≡ b → (get_or l (length l - 1) 0 == 13) ≡ false
    by_test true e =
        let short : take (length l - 1) l ≡ l = sym (ap (λ b. cond b (take (length l - 1) l) l) e) ∙ whole in
        absurd (omega (arith, ap length short, length-take (length l - 1) l))
    by_test false e = e

whole_behind : (front l : List ℕ) → 0 < length l → strip_carriage_return l ≡ l → strip_carriage_return (front ++ l) ≡ front ++ l
whole_behind front l long whole =
    let n : length (front ++ l) ≡ length front + length l = length-append front l in
    let k : length (front ++ l) - 1 - length front ≡ length l - 1 = omega arith in
    let last : get_or (front ++ l) (length (front ++ l) - 1) 0 ≡ get_or l (length l - 1) 0 =
    get_or-append_right front l (length (front ++ l) - 1) 0 (omega arith) ∙ ap (λ i. get_or l i 0) k in
    ap (λ b. cond b (take (length (front ++ l) - 1) (front ++ l)) (front ++ l)) (ap (λ x. x == 13) last ∙ last_is_no_return l long whole)

word_is_long : (w : Word) → IsWord w → 0 < length w
word_is_long w h = let s : (b : ℕ) × (bs : List ℕ) × (w ≡ b ∷ bs) × (is_blank b ≡ false) = word_starts w h in omega (arith, ap length s.2)

line_is_long : (w : Word) (ws : List Word) → AllByRecursion FitsLine (w ∷ ws) → 0 < length (line_of (w ∷ ws))
line_is_long w [] h = word_is_long w h.0.is_word
line_is_long w (v ∷ ws) h = omega (arith, length-append w (32 ∷ line_of (v ∷ ws)))

line_is_whole : (ws : List Word) → AllByRecursion FitsLine ws → strip_carriage_return (line_of ws) ≡ line_of ws
line_is_whole [] h = refl
line_is_whole (w ∷ []) h = h.0.whole
line_is_whole (w ∷ v ∷ ws) h =
    sym (ap strip_carriage_return (append_assoc w (32 ∷ []) (line_of (v ∷ ws))))
    ∙ whole_behind (w ++ 32 ∷ []) (line_of (v ∷ ws)) (line_is_long v ws h.1) (line_is_whole (v ∷ ws) h.1)
    ∙ append_assoc w (32 ∷ []) (line_of (v ∷ ws))

-- ---- what it says

line_is_cut : (front : List ℕ) (ws : List Word) → list_all is_blank front ≡ true → AllByRecursion FitsLine ws → Cuts (front ++ line_of ws) ws
line_is_cut front [] blank h = ap (list_all is_blank) (append-nil front) ∙ blank
line_is_cut front (w ∷ []) blank h = (front, [], sym (append-nil (front ++ w)), blank, h.0.is_word, tt, refl)
line_is_cut front (w ∷ v ∷ ws) blank h = (front, 32 ∷ line_of (v ∷ ws), sym (append_assoc front w (32 ∷ line_of (v ∷ ws))), blank, h.0.is_word, refl, line_is_cut (32 ∷ []) (v ∷ ws) refl h.1)

pub says_line : (ws : List Word) → IsWrittenLine ws → Says (line_of ws) (Some ws)
says_line ws g =
    let whole : line_of ws ≡ strip_carriage_return (line_of ws) = sym (line_is_whole ws g.words) in (
      record { short = g.short; text = subst IsUtf8 whole (line_is_text ws g.words) },
      ap is_silent (sym whole) ∙ g.says,
      subst (λ line. Cuts line ws) whole (line_is_cut [] ws refl g.words),
    )

-- ---- lines

parts : (ls : List (List Word)) → AllByRecursion IsWrittenLine ls → slice_split is_newline (text_of ls) ≡ map line_of ls ++ [] ∷ []
parts [] h = refl
parts (ws ∷ ls) h =
    ap (slice_split is_newline) (append_assoc (line_of ws) (10 ∷ []) (text_of ls))
    ∙ split_at is_on_line is_newline no_newline (line_of ws) 10 (text_of ls) (line_has_no_newline ws h.0.words) refl
    ∙ ap (λ ps. line_of ws ∷ ps) (parts ls h.1)
  where
    no_newline : (b : ℕ) → not (b == 10) ≡ true → (b == 10) ≡ false
    no_newline b e = by_test (b == 10) e
      where
        by_test : (k : Bool) → not k ≡ true → k ≡ false
        by_test true d = sym d
        by_test false d = refl

last_dropped : (ls : List Line) → without_empty_last (ls ++ [] ∷ []) ≡ ls
last_dropped [] = refl
last_dropped (l ∷ []) = refl
last_dropped (l ∷ m ∷ ls) = ap (λ ps. l ∷ ps) (last_dropped (m ∷ ls))

lines_back : (ls : List (List Word)) → AllByRecursion IsWrittenLine ls → lines_of (text_of ls) ≡ map line_of ls
lines_back ls h = ap without_empty_last (parts ls h) ∙ last_dropped (map line_of ls)

each_says : (ls : List (List Word)) → AllByRecursion IsWrittenLine ls → SayAll (map line_of ls) ls
each_says [] h = refl
each_says (ws ∷ ls) h = inr (ws, ls, says_line ws h.0, refl, each_says ls h.1)

pub say_lines : WrittenLinesSay
say_lines ls h = subst (λ lines. SayAll lines ls) (sym (lines_back ls h)) (each_says ls h)
