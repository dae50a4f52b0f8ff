-- Lines that are taken up to the first that ends a world.
use Rattle.std.proofs.Common.{◌≡◌, ℕ, ◌+◌, ◌<◌, ◌≤◌, List, [], ◌∷◌, ◌++◌, length, sym, ap, ◌∙◌, refl, subst, inl, inr, arith, append-nil, append_assoc, length-append, true≢false}
use Rattle.std.specs.Prelude.{◌⊎◌, Option, Some, None, IfSome, Result, Ok, Err, OnOk}
use Rattle.std.specs.List.{AllByRecursion}
use Rattle.std.specs.Io.KnownBytes.{Consumes}
use Rattle.std.proofs.lemmas.List.{append_cancel_left}
use Rattle.std.proofs.lemmas.Grind.{flat_map-append}
use Rattle.cg_model.specs.Tree.{Tree}
use Rattle.cg_model.specs.Sound.{Sound}
use Rattle.cg_text.specs.Words.{Line, Word, IsLine, Says, SayAll, lines_of}
use Rattle.cg_world_text.specs.declared.stage.Stage.{Stage}
use Rattle.cg_world_text.specs.Reader.{EndsWorld, HasTaken, SomeEnds, SpellTree}
use Rattle.cg_world_text.specs.World.{SpellsWorld}
use Rattle.cg_lines.specs.Lines.{HasNoNewline, BeginsWithLine, TakesKnownLine}
use Rattle.cg_lines.specs.declared.lines.LineKind.TheVariants.{End, TooLong, Text, Last}
use Rattle.cg_script.specs.WorldPart.{joined, BeginsWithWorld, ReadsWorld, HasNoWorld}
use Rattle.cg_script.specs.WorldLines.{EndsAt, IsPart, IsPartBehind, SpoilEnd, SpoilWorld}
use Rattle.cg_world_text.proofs.Taken.{some_last}
use Rattle.cg_lines.proofs.LinesLaw.{lines_of-begins}
use Rattle.cg_lines.proofs.LinesLemmas.{Consumes-append}

-- ---- lists of lines

abbrev ArePlain : List (List ℕ) → Type 0
ArePlain lines = AllByRecursion HasNoNewline lines

-- lines none of which ends a world
abbrev AreOpen : List (List ℕ) → Type 0
AreOpen lines = AllByRecursion (λ line. EndsWorld line → ⊥) lines

all_append : (P : List ℕ → Type 0) (xs ys : List (List ℕ)) → AllByRecursion P xs → AllByRecursion P ys → AllByRecursion P (xs ++ ys)
all_append P [] ys h k = k
all_append P (x ∷ xs) ys h k = (h.0, all_append P xs ys h.1 k)

all_front : (P : List ℕ → Type 0) (xs ys : List (List ℕ)) → AllByRecursion P (xs ++ ys) → AllByRecursion P xs
all_front P [] ys h = tt
all_front P (x ∷ xs) ys h = (h.0, all_front P xs ys h.1)

all_back : (P : List ℕ → Type 0) (xs ys : List (List ℕ)) → AllByRecursion P (xs ++ ys) → AllByRecursion P ys
all_back P [] ys h = h
all_back P (x ∷ xs) ys h = all_back P xs ys h.1

-- lines as a text, with more behind them
joined-append : (xs ys : List (List ℕ)) → joined (xs ++ ys) ≡ joined xs ++ joined ys
joined-append xs ys = flat_map-append (λ l. l ++ 10 ∷ []) xs ys

joined-more : (lines : List (List ℕ)) (line : List ℕ) → joined (lines ++ line ∷ []) ≡ joined lines ++ (line ++ 10 ∷ [])
joined-more lines line = joined-append lines (line ∷ []) ∙ ap (λ bytes. joined lines ++ bytes) (append-nil (line ++ 10 ∷ []))

-- lines without newlines are the lines of their text
lines_of-joined : (lines : List (List ℕ)) (behind : List ℕ) → ArePlain lines → lines_of (joined lines ++ behind) ≡ lines ++ lines_of behind
lines_of-joined [] behind h = refl
lines_of-joined (line ∷ lines) behind h =
    let split : joined (line ∷ lines) ++ behind ≡ line ++ 10 ∷ (joined lines ++ behind) =
    append_assoc (line ++ 10 ∷ []) (joined lines) behind ∙ append_assoc line (10 ∷ []) (joined lines ++ behind) in
    lines_of-begins (joined (line ∷ lines) ++ behind) line (joined lines ++ behind) (h.0, inl split)
    ∙ ap (λ ls. line ∷ ls) (lines_of-joined lines behind h.1)

-- ---- what lines say

is_line : (line : List ℕ) (said : Option (List Word)) → Says line said → IsLine line
is_line line None h = h.0
is_line line (Some ws) h = h.0

-- a line that ends a world has some byte
ends_some : (line : List ℕ) → EndsWorld line → 0 < length line
ends_some [] h = absurd (true≢false h.1)
ends_some (b ∷ bytes) h = omega arith

-- of lines with no end before the last, the last is one where one is
last_ends : (lines : List Line) (last : Line) → AreOpen lines → SomeEnds (lines ++ last ∷ []) → EndsWorld last
last_ends [] last h (inl e) = e
last_ends [] last h (inr e) = absurd e
last_ends (l ∷ lines) last h (inl e) = absurd (h.0 e)
last_ends (l ∷ lines) last h (inr e) = last_ends lines last h.1 e

-- each of some lines says something that a line may
each_says : (gathered more : List (List ℕ)) (line : List ℕ) (said : List (List Word)) → SayAll (gathered ++ line ∷ more) said → (s : Option (List Word)) × Says line s
each_says [] more line said (inl h) = (None, h.0)
each_says [] more line said (inr h) = (Some h.0, h.2)
each_says (g ∷ gathered) more line said (inl h) = each_says gathered more line said h.1
each_says (g ∷ gathered) more line said (inr h) = each_says gathered more line h.1 h.4

-- ---- the lines of a part

-- how a part is made of its lines
abbrev Through : List ℕ → List (List ℕ) → List ℕ → List ℕ → Type 0
Through part lines last rest = (part ≡ joined lines ++ (last ++ 10 ∷ [])) ⊎ ((part ≡ joined lines ++ last) × (rest ≡ []))

text_lines : (text part rest : List ℕ) (lines : List (List ℕ)) (last : List ℕ) → text ≡ part ++ rest → Through part lines last rest → ArePlain (lines ++ last ∷ []) → EndsWorld last → lines_of text ≡ lines ++ last ∷ lines_of rest
text_lines text part rest lines last whole (inl e) plain ended =
    let split : text ≡ joined lines ++ (last ++ 10 ∷ rest) =
    whole ∙ ap (λ p. p ++ rest) e ∙ append_assoc (joined lines) (last ++ 10 ∷ []) rest ∙ ap (λ b. joined lines ++ b) (append_assoc last (10 ∷ []) rest) in
    ap lines_of split ∙ lines_of-joined lines (last ++ 10 ∷ rest) (all_front HasNoNewline lines (last ∷ []) plain)
    ∙ ap (λ ls. lines ++ ls) (lines_of-begins (last ++ 10 ∷ rest) last rest ((all_back HasNoNewline lines (last ∷ []) plain).0, inl refl))
text_lines text part rest lines last whole (inr e) plain ended =
    let split : text ≡ joined lines ++ last = whole ∙ ap (λ r. part ++ r) e.1 ∙ append-nil part ∙ e.0 in
    ap lines_of split ∙ lines_of-joined lines last (all_front HasNoNewline lines (last ∷ []) plain)
    ∙ ap (λ ls. lines ++ ls) (lines_of-begins last last rest ((all_back HasNoNewline lines (last ∷ []) plain).0, inr (refl, ends_some last ended, e.1)))

-- without what follows the part
through_alone : (part rest : List ℕ) (lines : List (List ℕ)) (last : List ℕ) → Through part lines last rest → Through part lines last []
through_alone part rest lines last (inl e) = inl e
through_alone part rest lines last (inr e) = inr (e.0, refl)

part_lines : (part rest : List ℕ) (lines : List (List ℕ)) (last : List ℕ) → Through part lines last rest → ArePlain (lines ++ last ∷ []) → EndsWorld last → lines_of part ≡ lines ++ last ∷ []
part_lines part rest lines last through plain ended =
    text_lines part part [] lines last (sym (append-nil part)) (through_alone part rest lines last through) plain ended

-- ---- a text has one part at most

-- the first line that ends a world is one
one_end : (gathered lines : List (List ℕ)) (end : List ℕ) (behind : List (List ℕ)) (last : List ℕ) (rest : List (List ℕ)) → AreOpen gathered → AreOpen lines → EndsWorld end → EndsWorld last → gathered ++ end ∷ behind ≡ lines ++ last ∷ rest → (gathered ≡ lines) × (end ≡ last)
one_end [] [] end behind last rest o p e f h = (refl, cc)
one_end [] (l ∷ lines) end behind last rest o p e f h =
    let same : end ≡ l = cc in
    absurd (p.0 (subst EndsWorld same e))
one_end (g ∷ gathered) [] end behind last rest o p e f h =
    let same : last ≡ g = cc in
    absurd (o.0 (subst EndsWorld same f))
one_end (g ∷ gathered) (l ∷ lines) end behind last rest o p e f h =
    let tails : gathered ++ end ∷ behind ≡ lines ++ last ∷ rest = cc in
    let more = one_end gathered lines end behind last rest o.1 p.1 e f tails in
    let same : g ≡ l = cc in
    ((λ i. same i ∷ more.0 i), more.1)

-- a part whose last line has its newline is longer than one without
no_two : (p q r s : List ℕ) (lines : List (List ℕ)) (last : List ℕ) → p ≡ joined lines ++ (last ++ 10 ∷ []) → q ≡ joined lines ++ last → s ≡ [] → p ++ r ≡ q ++ s → ⊥
no_two p q r s lines last e f g same =
    let long = ap length e ∙ length-append (joined lines) (last ++ 10 ∷ []) in
    let more = length-append last (10 ∷ []) in
    let short = ap length f ∙ length-append (joined lines) last in
    let none = ap length g in
    let both = sym (length-append p r) ∙ ap length same ∙ length-append q s in
    omega arith

one_through : (p q r s : List ℕ) (lines : List (List ℕ)) (last : List ℕ) → p ++ r ≡ q ++ s → Through p lines last r → Through q lines last s → p ≡ q
one_through p q r s lines last same (inl e) (inl f) = e ∙ sym f
one_through p q r s lines last same (inl e) (inr f) = absurd (no_two p q r s lines last e f.0 f.1 same)
one_through p q r s lines last same (inr e) (inl f) = absurd (no_two q p s r lines last f e.0 e.1 (sym same))
one_through p q r s lines last same (inr e) (inr f) = e.0 ∙ sym f.0

one_part : (text p q r s : List ℕ) → BeginsWithWorld text p r → BeginsWithWorld text q s → p ≡ q
one_part text p q r s b c =
    let lines = sym (text_lines text p r b.lines b.last b.whole b.through b.plain b.ended) ∙ text_lines text q s c.lines c.last c.whole c.through c.plain c.ended in
    let same = one_end b.lines c.lines b.last (lines_of r) c.last (lines_of s) b.open_lines c.open_lines b.ended c.ended lines in
    let moved : Through p c.lines c.last r = subst (λ l. Through p c.lines l r) same.1 (subst (λ ls. Through p ls b.last r) same.0 b.through) in
    one_through p q r s c.lines c.last (sym b.whole ∙ c.whole) moved c.through

-- ---- what a world's text can't have

-- Lines that end at the first `end` have all open lines at the front of the same text.
record EndsBehind (gathered lines : List (List ℕ)) (last : List ℕ) (behind rest : List (List ℕ)) : Type 0 where
  between : List (List ℕ)
  front : lines ≡ gathered ++ between

ends_behind : (gathered lines : List (List ℕ)) (last : List ℕ) (behind rest : List (List ℕ)) → AreOpen gathered → EndsWorld last → gathered ++ behind ≡ lines ++ last ∷ rest → EndsBehind gathered lines last behind rest
ends_behind [] lines last behind rest open_lines ended e = record { between = lines; front = refl }
ends_behind (g ∷ gathered) [] last behind rest open_lines ended e =
    let same : last ≡ g = cc in
    absurd (open_lines.0 (subst EndsWorld same ended))
ends_behind (g ∷ gathered) (l ∷ lines) last behind rest open_lines ended e =
    let tails : gathered ++ behind ≡ lines ++ last ∷ rest = cc in
    let same : l ≡ g = cc in
    let more = ends_behind gathered lines last behind rest open_lines.1 ended tails in
    record { between = more.between; front = ap (λ ls. l ∷ ls) more.front ∙ ap (λ x. x ∷ (gathered ++ more.between)) same }

-- the lines of a world's text spell its tree
spells_tree : (part : List ℕ) (lines : List Line) (T : Tree) → lines_of part ≡ lines → SpellsWorld part T → SpellTree lines T
spells_tree part lines T e h =
    subst (λ ls. SpellTree ls T) e (record { said = h.said; lines_say = h.lines; version = h.version; statements = h.statements; spelled = h.spelled; arranged = h.arranged })

-- behind these lines the first line of the text spoils the world
pub record StopsWorld (gathered : List Line) (text : List ℕ) : Type 0 where
  pub line : (line rest : List ℕ) → HasNoNewline line → text ≡ line ++ 10 ∷ rest → SpoilWorld (gathered ++ line ∷ []) (length (joined gathered) + (length line + 1))
  pub last : (line : List ℕ) → HasNoNewline line → text ≡ line → SpoilEnd gathered line (length (joined gathered) + length line)

-- behind open lines the next line is the last, and spoils the world,
spoiled_last : (text part rest r : List ℕ) (gathered : List (List ℕ)) (last : List ℕ) (T : Tree) → text ≡ joined gathered ++ r → text ≡ part ++ rest → Through part gathered last rest → ArePlain (gathered ++ last ∷ []) → EndsWorld last → StopsWorld gathered r → SpellsWorld part T → ⊥
spoiled_last text part rest r gathered last T past whole (inl e) plain ended stops spelled =
    let split = sym past ∙ whole ∙ ap (λ p. p ++ rest) e ∙ append_assoc (joined gathered) (last ++ 10 ∷ []) rest ∙ ap (λ b. joined gathered ++ b) (append_assoc last (10 ∷ []) rest) in
    let lines = part_lines part rest gathered last (inl e) plain ended ∙ sym (append-nil (gathered ++ last ∷ [])) in
    let long = stops.line last rest (all_back HasNoNewline gathered (last ∷ []) plain).0 (append_cancel_left (joined gathered) r (last ++ 10 ∷ rest) split) [] T (spells_tree part _ T lines spelled) in
    let whole_length = ap length e ∙ length-append (joined gathered) (last ++ 10 ∷ []) in
    let last_length = length-append last (10 ∷ []) in
    let short = spelled.short in
    omega arith
spoiled_last text part rest r gathered last T past whole (inr e) plain ended stops spelled =
    let split = sym past ∙ whole ∙ ap (λ x. part ++ x) e.1 ∙ append-nil part ∙ e.0 in
    let lines = part_lines part rest gathered last (inr e) plain ended in
    let long = stops.last last (all_back HasNoNewline gathered (last ∷ []) plain).0 (append_cancel_left (joined gathered) r last split) ended T (spells_tree part _ T lines spelled) in
    let whole_length = ap length e.0 ∙ length-append (joined gathered) last in
    let short = spelled.short in
    omega arith

-- what of a part stands behind its open lines
ending : (part rest : List ℕ) (lines : List (List ℕ)) (last : List ℕ) → Through part lines last rest → (q : List ℕ) × (part ≡ joined lines ++ q)
ending part rest lines last (inl e) = (last ++ 10 ∷ [], e)
ending part rest lines last (inr e) = (last, e.0)

-- or it is another, and does
spoiled_line : (text part rest r : List ℕ) (gathered : List (List ℕ)) (x : List ℕ) (xs : List (List ℕ)) (last : List ℕ) (T : Tree) → text ≡ joined gathered ++ r → text ≡ part ++ rest → Through part (gathered ++ x ∷ xs) last rest → ArePlain ((gathered ++ x ∷ xs) ++ last ∷ []) → EndsWorld last → StopsWorld gathered r → SpellsWorld part T → ⊥
spoiled_line text part rest r gathered x xs last T past whole through plain ended stops spelled =
    let q = ending part rest (gathered ++ x ∷ xs) last through in
    let front : joined (gathered ++ x ∷ xs) ≡ joined gathered ++ ((x ++ 10 ∷ []) ++ joined xs) = joined-append gathered (x ∷ xs) in
    let part_is : part ≡ joined gathered ++ (((x ++ 10 ∷ []) ++ joined xs) ++ q.0) =
    q.1 ∙ ap (λ j. j ++ q.0) front ∙ append_assoc (joined gathered) ((x ++ 10 ∷ []) ++ joined xs) q.0 in
    let split = sym past ∙ whole ∙ ap (λ p. p ++ rest) part_is ∙ append_assoc (joined gathered) (((x ++ 10 ∷ []) ++ joined xs) ++ q.0) rest in
    let line : ((((x ++ 10 ∷ []) ++ joined xs) ++ q.0) ++ rest) ≡ x ++ 10 ∷ ((joined xs ++ q.0) ++ rest) =
    ap (λ b. b ++ rest) (append_assoc (x ++ 10 ∷ []) (joined xs) q.0) ∙ append_assoc (x ++ 10 ∷ []) (joined xs ++ q.0) rest ∙ append_assoc x (10 ∷ []) ((joined xs ++ q.0) ++ rest) in
    let plain_lines = all_back HasNoNewline gathered (x ∷ xs) (all_front HasNoNewline (gathered ++ x ∷ xs) (last ∷ []) plain) in
    let lines : lines_of part ≡ gathered ++ x ∷ (xs ++ last ∷ []) =
    part_lines part rest (gathered ++ x ∷ xs) last through plain ended ∙ append_assoc gathered (x ∷ xs) (last ∷ []) in
    let tree = spells_tree part _ T (lines ∙ sym (append_assoc gathered (x ∷ []) (xs ++ last ∷ []))) spelled in
    let long = stops.line x ((joined xs ++ q.0) ++ rest) plain_lines.0 (append_cancel_left (joined gathered) r ((((x ++ 10 ∷ []) ++ joined xs) ++ q.0) ++ rest) split ∙ line) (xs ++ last ∷ []) T tree in
    let whole_length = ap length part_is ∙ length-append (joined gathered) (((x ++ 10 ∷ []) ++ joined xs) ++ q.0) in
    let more_length = length-append ((x ++ 10 ∷ []) ++ joined xs) q.0 in
    let line_length = length-append (x ++ 10 ∷ []) (joined xs) in
    let x_length = length-append x (10 ∷ []) in
    let short = spelled.short in
    omega arith

spoiled : (text part rest r : List ℕ) (gathered between : List (List ℕ)) (last : List ℕ) (T : Tree) → text ≡ joined gathered ++ r → text ≡ part ++ rest → Through part (gathered ++ between) last rest → ArePlain ((gathered ++ between) ++ last ∷ []) → EndsWorld last → StopsWorld gathered r → SpellsWorld part T → ⊥
spoiled text part rest r gathered [] last T past whole through plain ended stops spelled =
    let moved : Through part gathered last rest = subst (λ ls. Through part ls last rest) (append-nil gathered) through in
    spoiled_last text part rest r gathered last T past whole moved (subst (λ ls. ArePlain (ls ++ last ∷ [])) (append-nil gathered) plain) ended stops spelled
spoiled text part rest r gathered (x ∷ xs) last T past whole through plain ended stops spelled =
    spoiled_line text part rest r gathered x xs last T past whole through plain ended stops spelled

-- a text that goes on, behind open lines, with what stops the world has none
stopped : (text r : List ℕ) (gathered : List (List ℕ)) → ArePlain gathered → AreOpen gathered → text ≡ joined gathered ++ r → StopsWorld gathered r → HasNoWorld text
stopped text r gathered plain open_lines past stops part rest T b spelled =
    let lines = sym (ap lines_of past ∙ lines_of-joined gathered r plain) ∙ text_lines text part rest b.lines b.last b.whole b.through b.plain b.ended in
    let e = ends_behind gathered b.lines b.last (lines_of r) (lines_of rest) open_lines b.ended lines in
    spoiled text part rest r gathered e.between b.last T past b.whole (subst (λ ls. Through part ls b.last rest) e.front b.through)
    (subst (λ ls. ArePlain (ls ++ b.last ∷ [])) e.front b.plain) b.ended stops spelled

-- ---- steps of the reader

-- the first line of a text is one
first_line : (text line rest l rest' : List ℕ) → BeginsWithLine text line rest → BeginsWithLine text l rest' → line ≡ l
first_line text line rest l rest' h k =
    let a = lines_of-begins text line rest h in
    let b = lines_of-begins text l rest' k in
    cc

-- a line with its newline isn't all of a text without one
not_both : (text line rest l : List ℕ) → HasNoNewline line → HasNoNewline l → text ≡ line ++ 10 ∷ rest → text ≡ l → 0 < length l → ⊥
not_both text line rest l n m e f some =
    let same = ap length (first_line text line rest l [] (n, inl e) (m, inr (f, some, refl))) in
    let long = ap length e ∙ length-append line (10 ∷ rest) in
    let short = ap length f in
    omega arith

pub consumes_line : (old new : Option (List ℕ)) (line : List ℕ) → TakesKnownLine old Text line new → Consumes old new (line ++ 10 ∷ [])
consumes_line None new line h = tt
consumes_line (Some text) None line h = h
consumes_line (Some text) (Some rest) line h = h.2 ∙ sym (append_assoc line (10 ∷ []) rest)

pub consumes_last : (old new : Option (List ℕ)) (line : List ℕ) → TakesKnownLine old Last line new → EndsAt old new line
consumes_last None new line h = tt
consumes_last (Some text) None line h = h
consumes_last (Some text) (Some rest) line h = (h.2.0, h.2.2)

pub stops_at_text : (old new : Option (List ℕ)) (gathered : List Line) (line : List ℕ) → TakesKnownLine old Text line new → SpoilWorld (gathered ++ line ∷ []) (length (joined gathered) + (length line + 1)) → IfSome old (StopsWorld gathered)
stops_at_text None new gathered line h s = tt
stops_at_text (Some text) None gathered line h s = absurd h
stops_at_text (Some text) (Some rest) gathered line h s = record {
  line = λ l rest' plain e. subst (λ x. SpoilWorld (gathered ++ x ∷ []) (length (joined gathered) + (length x + 1))) (first_line text line rest l rest' (h.1, inl h.2) (plain, inl e)) s;
  last = λ l plain e ends. absurd (not_both text line rest l h.1 plain h.2 e (ends_some l ends));
}

pub stops_at_last : (old new : Option (List ℕ)) (gathered : List Line) (line : List ℕ) → TakesKnownLine old Last line new → SpoilEnd gathered line (length (joined gathered) + length line) → IfSome old (StopsWorld gathered)
stops_at_last None new gathered line h s = tt
stops_at_last (Some text) None gathered line h s = absurd h
stops_at_last (Some text) (Some rest) gathered line h s = record {
  line = λ l rest' plain e. absurd (not_both text l rest' line plain h.1 e h.2.0 h.2.1);
  last = λ l plain e. subst (λ x. SpoilEnd gathered x (length (joined gathered) + length x)) (sym h.2.0 ∙ e) s;
}

pub stops_at_long : (old new : Option (List ℕ)) (gathered : List Line) (line : List ℕ) → TakesKnownLine old TooLong line new → IfSome old (StopsWorld gathered)
stops_at_long None new gathered line h = tt
stops_at_long (Some text) None gathered line h = absurd h
stops_at_long (Some text) (Some rest) gathered line h = record {
  line = λ l rest' plain e others T tree.
      let same = ap length (first_line text h.1 rest l rest' h.3 (plain, inl e)) in
      let says = each_says gathered others l tree.said (subst (λ ls. SayAll ls tree.said) (append_assoc gathered (l ∷ []) others) tree.lines_say) in
      let long = h.2 in
      let short = (is_line l says.0 says.1).short in
      absurd (omega arith);
  last = λ l plain e ends.
      let same = ap length (first_line text h.1 rest l [] h.3 (plain, inr (e, ends_some l ends, refl))) in
      let long = h.2 in
      let short = ends.0.short in
      absurd (omega arith);
}

pub stops_at_end : (old new : Option (List ℕ)) (gathered : List Line) (line : List ℕ) → TakesKnownLine old End line new → IfSome old (StopsWorld gathered)
stops_at_end None new gathered line h = tt
stops_at_end (Some text) None gathered line h = absurd h
stops_at_end (Some text) (Some rest) gathered line h = record {
  line = λ l rest' plain e others T tree.
      let none = ap length (sym h.0 ∙ e) ∙ length-append l (10 ∷ rest') in
      absurd (omega arith);
  last = λ l plain e ends.
      let none = ap length (sym h.0 ∙ e) in
      let some = ends_some l ends in
      absurd (omega arith);
}

-- what two facts of an outcome that is no error say together
pub both_ok : {A E P Q R : Type 0} (r : Result A E) → (P → Q → R) → OnOk r P → OnOk r Q → OnOk r R
both_ok (Ok x) f p q = f p q
both_ok (Err e) f p q = tt

-- and three
pub three_ok : {A E P Q R S : Type 0} (r : Result A E) → (P → Q → R → S) → OnOk r P → OnOk r Q → OnOk r R → OnOk r S
three_ok (Ok x) f p q s = f p q s
three_ok (Err e) f p q s = tt

err_same : {T E : Type 0} {x y : E} → ◌≡◌ {A = Result T E} (Err x) (Err y) → x ≡ y
err_same e = cc

-- a fault that is handed on, as another outcome's fault, is the one that came
pub err_handed_on : {T U E : Type 0} (r : Result T E) (x y z : E) → r ≡ Err x → x ≡ y → r ≡ Err z → ◌≡◌ {A = Result U E} (Err y) (Err z)
err_handed_on r x y z e f h = ap (λ e. Err e) (sym f ∙ err_same (sym e ∙ h))

-- ---- the lines taken so far

-- what stops a world behind the lines taken
pub part_stops : (start now : Option (List ℕ)) (world : Stage) (bytes : ℕ) (p : IsPart start world bytes now) → IfSome now (StopsWorld p.lines) → IfSome start HasNoWorld
part_stops None now world bytes p stops = tt
part_stops (Some t) None world bytes p stops = absurd p.past
part_stops (Some t) (Some u) world bytes p stops = stopped t u p.lines p.plain p.open_lines p.past stops

-- a line was taken off known bytes with its newline
pub part_line : (start old new : Option (List ℕ)) (world next : Stage) (bytes after : ℕ) (line : List ℕ) → HasNoNewline line → TakesKnownLine old Text line new → after ≡ bytes + (length line + 1) → ((lines : List Line) → HasTaken world lines → HasTaken next (lines ++ line ∷ [])) → IsPart start world bytes old → IsPartBehind start next after new
part_line start old new world next bytes after line plain takes counted taken p = record {
  lines = p.lines;
  last = line;
  plain = all_append HasNoNewline p.lines (line ∷ []) p.plain (plain, tt);
  open_lines = p.open_lines;
  through = inl (Consumes-append start old new (joined p.lines) (line ++ 10 ∷ []) p.past (consumes_line old new line takes), counted ∙ ap (λ n. n + (length line + 1)) p.counted);
  taken = taken p.lines p.taken;
}

ends_at : (start old new : Option (List ℕ)) (front line : List ℕ) → Consumes start old front → EndsAt old new line → EndsAt start new (front ++ line)
ends_at None old new front line past ends = tt
ends_at (Some t) None new front line past ends = absurd past
ends_at (Some t) (Some u) None front line past ends = absurd ends
ends_at (Some t) (Some u) (Some v) front line past ends = (past ∙ ap (λ b. front ++ b) ends.0, ends.1)

-- or without one, and it ends a world
pub part_last : (start old new : Option (List ℕ)) (world next : Stage) (bytes after : ℕ) (line : List ℕ) → HasNoNewline line → TakesKnownLine old Last line new → after ≡ bytes + length line → ((lines : List Line) → HasTaken world lines → HasTaken next (lines ++ line ∷ [])) → ((lines : List Line) → HasTaken world lines → SomeEnds (lines ++ line ∷ [])) → IsPart start world bytes old → IsPartBehind start next after new
part_last start old new world next bytes after line plain takes counted taken ended p = record {
  lines = p.lines;
  last = line;
  plain = all_append HasNoNewline p.lines (line ∷ []) p.plain (plain, tt);
  open_lines = p.open_lines;
  through =
      inr (
        last_ends p.lines line p.open_lines (ended p.lines p.taken),
        ends_at start old new (joined p.lines) line p.past (consumes_last old new line takes),
        counted ∙ ap (λ n. n + length line) p.counted,
      );
  taken = taken p.lines p.taken;
}

-- no line ends a world yet
pub part_goes_on : (start now : Option (List ℕ)) (world : Stage) (bytes : ℕ) (p : IsPartBehind start world bytes now) → (SomeEnds (p.lines ++ p.last ∷ []) → ⊥) → IsPart start world bytes now
part_goes_on start now world bytes p none = at p.through
  where
    more : joined (p.lines ++ p.last ∷ []) ≡ joined p.lines ++ (p.last ++ 10 ∷ [])
    more = joined-more p.lines p.last

    at :
        (Consumes start now (joined p.lines ++ (p.last ++ 10 ∷ [])) × (bytes ≡ length (joined p.lines) + (length p.last + 1)))
        ⊎ (EndsWorld p.last × EndsAt start now (joined p.lines ++ p.last) × (bytes ≡ length (joined p.lines) + length p.last))
        → IsPart start world bytes now
    at (inl h) = record {
      lines = p.lines ++ p.last ∷ [];
      plain = p.plain;
      open_lines = all_append (λ line. EndsWorld line → ⊥) p.lines (p.last ∷ []) p.open_lines ((λ e. none (some_last p.lines p.last e)), tt);
      past = subst (Consumes start now) (sym more) h.0;
      counted = h.1 ∙ sym (ap length more ∙ length-append (joined p.lines) (p.last ++ 10 ∷ []) ∙ ap (λ n. length (joined p.lines) + n) (length-append p.last (10 ∷ [])));
      taken = p.taken;
    }
    at (inr h) = absurd (none (some_last p.lines p.last h.0))

-- ---- the world that the part spells

-- the whole part of a text: so many bytes, of these lines
record IsWhole (text rest : List ℕ) (lines : List Line) (bytes : ℕ) : Type 0 where
  part : List ℕ
  begins : BeginsWithWorld text part rest
  counted : bytes ≡ length part
  cut : lines_of part ≡ lines

whole : (t v : List ℕ) (world : Stage) (bytes : ℕ) (p : IsPartBehind (Some t) world bytes (Some v)) → EndsWorld p.last → IsWhole t v (p.lines ++ p.last ∷ []) bytes
whole t v world bytes p ends = at p.through
  where
    at :
        (Consumes (Some t) (Some v) (joined p.lines ++ (p.last ++ 10 ∷ [])) × (bytes ≡ length (joined p.lines) + (length p.last + 1)))
        ⊎ (EndsWorld p.last × EndsAt (Some t) (Some v) (joined p.lines ++ p.last) × (bytes ≡ length (joined p.lines) + length p.last))
        → IsWhole t v (p.lines ++ p.last ∷ []) bytes
    at (inl h) =
        let part : List ℕ = joined p.lines ++ (p.last ++ 10 ∷ []) in
        record {
          part = part;
          begins = record { lines = p.lines; last = p.last; whole = h.0; through = inl refl; plain = p.plain; open_lines = p.open_lines; ended = ends };
          counted = h.1 ∙ sym (length-append (joined p.lines) (p.last ++ 10 ∷ []) ∙ ap (λ n. length (joined p.lines) + n) (length-append p.last (10 ∷ [])));
          cut = part_lines part v p.lines p.last (inl refl) p.plain ends;
        }
    at (inr h) =
        let part : List ℕ = joined p.lines ++ p.last in
        record {
          part = part;
          begins = record {
            lines = p.lines;
            last = p.last;
            whole = h.1.0 ∙ sym (append-nil part) ∙ ap (λ r. part ++ r) (sym h.1.1);
            through = inr (refl, h.1.1);
            plain = p.plain;
            open_lines = p.open_lines;
            ended = ends;
          };
          counted = h.2 ∙ sym (length-append (joined p.lines) p.last);
          cut = part_lines part v p.lines p.last (inr (refl, h.1.1)) p.plain ends;
        }

pub part_reads : (start now : Option (List ℕ)) (world : Stage) (bytes : ℕ) (T : Tree) (p : IsPartBehind start world bytes now) → bytes ≤ 16777216 → SomeEnds (p.lines ++ p.last ∷ []) → SpellTree (p.lines ++ p.last ∷ []) T → Sound T → IfSome start (λ text. ReadsWorld text T now)
part_reads None now world bytes T p short ends tree sound = tt
part_reads (Some t) None world bytes T p short ends tree sound = elim p.through [ inl h ↦ absurd h.0 | inr h ↦ absurd h.1 ]
part_reads (Some t) (Some v) world bytes T p short ends tree sound =
    let w = whole t v world bytes p (last_ends p.lines p.last p.open_lines ends) in
    let h = subst (λ ls. SpellTree ls T) (sym w.cut) tree in
    let e = w.counted in (
      w.part,
      w.begins,
      record {
        short = omega arith;
        said = h.said;
        lines = h.lines_say;
        version = h.version;
        statements = h.statements;
        spelled = h.spelled;
        arranged = h.arranged;
        sound = sound;
      },
    )

pub part_refutes : (start now : Option (List ℕ)) (world : Stage) (bytes : ℕ) (p : IsPartBehind start world bytes now) → SomeEnds (p.lines ++ p.last ∷ []) → ((T : Tree) → SpellTree (p.lines ++ p.last ∷ []) T → Sound T → ⊥) → IfSome start HasNoWorld
part_refutes None now world bytes p ends none = tt
part_refutes (Some t) None world bytes p ends none = elim p.through [ inl h ↦ absurd h.0 | inr h ↦ absurd h.1 ]
part_refutes (Some t) (Some v) world bytes p ends none = λ part rest T b spelled.
    let w = whole t v world bytes p (last_ends p.lines p.last p.open_lines ends) in
    none T (spells_tree part _ T (ap lines_of (one_part t part w.part rest v b w.begins) ∙ w.cut) spelled) spelled.sound
