-- Lines that are answered one after another, by whatever answers them: what was answered so far, and what of it waits.
use Rattle.std.proofs.Common.{◌≡◌, ℕ, ◌<◌, List, [], ◌∷◌, ◌++◌, length, Some, None, Option, IfSome, refl, sym, ap, subst, ◌∙◌, inl, inr, append_assoc, append-nil, Result, Ok, Err, OnErr}
use Rattle.std.specs.Io.KnownBytes.{Appends, Keeps}
use Rattle.cg_lines.specs.Device.{AppendsFront, AppendsTo}
use Rattle.cg_text.specs.Words.{lines_of}
use Rattle.cg_lines.specs.Lines.{TakesKnownLine, LosesOfLine}
use Rattle.cg_lines.specs.declared.lines.LineKind.TheVariants.{TooLong, Text, Last}
use Rattle.cg_replay.specs.Answering.{EachAnswers, FirstAnswers, FrontAnswers, PassedAnswers}
use Rattle.cg_lines.proofs.DeviceLemmas.{Appends-nil, AppendsTo-front, AppendsTo-longer, AppendsTo-on, AppendsTo-whole, Gathered-more}
use Rattle.cg_lines.proofs.LinesLaw.{lines_of-begins, lines_of-nil}

-- ---- lines one after another

-- one line more is answered
pub each_more : {S : Type 0} (R : S → List ℕ → List ℕ → S → Type 0) (passed : List (List ℕ)) (s t u : S) (line done out : List ℕ) → EachAnswers R s passed done t → R t line out u → EachAnswers R s (passed ++ line ∷ []) (done ++ out) u
each_more R [] s t u line done out h a =
    (out, [], u, subst (λ r. R r line out u) h.1 a, (refl, refl), ap (λ w. w ++ out) h.0 ∙ sym (append-nil out))
each_more R (x ∷ xs) s t u line done out h a =
    (h.0, h.1 ++ out, h.2, h.3, each_more R xs h.2 t u line h.1 out h.4 a, ap (λ w. w ++ out) h.5 ∙ append_assoc h.0 h.1 out)

-- the answers to lines are those to the first ones, and then those to the others
pub each_split : {S : Type 0} (R : S → List ℕ → List ℕ → S → Type 0) (xs ys : List (List ℕ)) (s t : S) (out : List ℕ) → EachAnswers R s (xs ++ ys) out t
    → (a : List ℕ) × (b : List ℕ) × (u : S) × EachAnswers R s xs a u × EachAnswers R u ys b t × (out ≡ a ++ b)
each_split R [] ys s t out h = ([], out, s, (refl, refl), h, refl)
each_split R (x ∷ xs) ys s t out h =
    let more = each_split R xs ys h.2 t h.1 h.4 in
    (h.0 ++ more.0, more.1, more.2, (h.0, more.0, h.2, h.3, more.3, refl), more.4, h.5 ∙ ap (λ w. h.0 ++ w) more.5 ∙ sym (append_assoc h.0 more.0 more.1))

-- a line has one answer at most
abbrev pub IsOneAnswer : {S : Type 0} → (S → List ℕ → List ℕ → S → Type 0) → Type 0
IsOneAnswer {S} R = (s t u : S) (line a b : List ℕ) → R s line a t → R s line b u → (a ≡ b) × (t ≡ u)

-- so have lines
pub each_one : {S : Type 0} (R : S → List ℕ → List ℕ → S → Type 0) → IsOneAnswer R → (lines : List (List ℕ)) (s t u : S) (a b : List ℕ) → EachAnswers R s lines a t → EachAnswers R s lines b u → (a ≡ b) × (t ≡ u)
each_one R one [] s t u a b x y = (x.0 ∙ sym y.0, x.1 ∙ sym y.1)
each_one R one (line ∷ lines) s t u a b x y =
    let first = one s x.2 y.2 line x.0 y.0 x.3 y.3 in
    let others = each_one R one lines x.2 t u x.1 y.1 x.4 (subst (λ r. EachAnswers R r lines y.1 u) (sym first.1) y.4) in
    (x.5 ∙ ap (λ w. w ++ x.1) first.0 ∙ ap (λ w. y.0 ++ w) others.0 ∙ sym y.5, others.1)

-- more bytes may come behind
pub AppendsFront-longer : (a b : Option (List ℕ)) (bytes more : List ℕ) → AppendsFront a b bytes → AppendsFront a b (bytes ++ more)
AppendsFront-longer a b bytes more h =
    (h.0 ++ more, (h.1.0, ap (λ x. x ++ more) h.1.1 ∙ append_assoc h.1.0 h.0 more, h.1.2))

-- the front of the answers to some lines is the front of those to all, and of what comes behind these
pub front_of_all : {S : Type 0} (R : S → List ℕ → List ℕ → S → Type 0) → IsOneAnswer R → (s t : S) (text all behind : List ℕ) (old new : Option (List ℕ)) → FrontAnswers R s text old new → EachAnswers R s (lines_of text) all t → AppendsFront old new (all ++ behind)
front_of_all R one s t text all behind old new h each =
    let parts = each_split R h.0 h.1 s t all (subst (λ ls. EachAnswers R s ls all t) h.2 each) in
    let same = each_one R one h.0 s h.4 parts.2 h.3 parts.0 h.5 parts.3 in
    let whole : all ++ behind ≡ h.3 ++ (parts.1 ++ behind) = ap (λ w. w ++ behind) (parts.5 ∙ ap (λ w. w ++ parts.1) (sym same.0)) ∙ append_assoc h.3 parts.1 behind in
    subst (λ bytes. AppendsFront old new bytes) (sym whole) (AppendsFront-longer old new h.3 (parts.1 ++ behind) h.6)

-- ---- one line of the source

-- the first line of a text is answered behind what stood there
abbrev pub AnswersBehind : {S : Type 0} → (S → List ℕ → List ℕ → S → Type 0) → Option (List ℕ) → S → List ℕ → List ℕ → S → Option (List ℕ) → Type 0
AnswersBehind R text s old new t rest = IfSome text (λ x. (answer : List ℕ) × (new ≡ old ++ answer) × FirstAnswers R s x answer t rest)

pub answered_too_long : {S : Type 0} (R : S → List ℕ → List ℕ → S → Type 0) (old new : Option (List ℕ)) (line before out : List ℕ) (s t : S) → TakesKnownLine old TooLong line new
    → (answer : List ℕ) × (out ≡ before ++ answer) × ((l : List ℕ) → 65536 < length l → R s l answer t) → AnswersBehind R old s before out t new
answered_too_long R None new line before out s t h a = tt
answered_too_long R (Some text) None line before out s t h a = absurd h
answered_too_long R (Some text) (Some rest) line before out s t h a = (a.0, a.1, (h.1, lines_of-begins text h.1 rest h.3, a.2 h.1 h.2))

-- a line of at most 65,536 bytes is a text's first
abbrev pub IsFirstLine : Option (List ℕ) → List ℕ → Option (List ℕ) → Type 0
IsFirstLine None line new = Unit {0}
IsFirstLine (Some text) line None = ⊥
IsFirstLine (Some text) line (Some rest) = lines_of text ≡ line ∷ lines_of rest

pub first_text : (old new : Option (List ℕ)) (line : List ℕ) → TakesKnownLine old Text line new → IsFirstLine old line new
first_text None new line h = tt
first_text (Some text) None line h = absurd h
first_text (Some text) (Some rest) line h = lines_of-begins text line rest (h.1, inl h.2)

pub first_last : (old new : Option (List ℕ)) (line : List ℕ) → TakesKnownLine old Last line new → IsFirstLine old line new
first_last None new line h = tt
first_last (Some text) None line h = absurd h
first_last (Some text) (Some rest) line h = lines_of-begins text line rest (h.1, inr h.2)

answered_first : {S : Type 0} (R : S → List ℕ → List ℕ → S → Type 0) (old new : Option (List ℕ)) (line before out answer : List ℕ) (s t : S) → IsFirstLine old line new → out ≡ before ++ answer → R s line answer t → AnswersBehind R old s before out t new
answered_first R None new line before out answer s t h e a = tt
answered_first R (Some text) None line before out answer s t h e a = absurd h
answered_first R (Some text) (Some rest) line before out answer s t h e a = (answer, e, (line, h, a))

-- a call that answers a line answers the first
pub answered_line : {S : Type 0} (R : S → List ℕ → List ℕ → S → Type 0) (old new : Option (List ℕ)) (line given before out : List ℕ) (s t : S) → IsFirstLine old line new → given ≡ line
    → (answer : List ℕ) × (out ≡ before ++ answer) × R s given answer t → AnswersBehind R old s before out t new
answered_line R old new line given before out s t first same h =
    answered_first R old new line before out h.0 s t first h.1 (subst (λ l. R s l h.0 t) same h.2)

-- some of what waited is written, and the first line is answered behind the rest
pub gathers_first : {S : Type 0} (R : S → List ℕ → List ℕ → S → Type 0) (s t : S) (text rest a b : Option (List ℕ)) (before waiting after : List ℕ) → AppendsTo a b before waiting → AnswersBehind R text s waiting after t rest
    → IfSome text (λ x. (answer : List ℕ) × FirstAnswers R s x answer t rest × AppendsTo a b (before ++ answer) after)
gathers_first R s t None rest a b before waiting after h k = tt
gathers_first R s t (Some text) rest a b before waiting after h k = (k.0, k.2, Gathered-more a b waiting before after k.0 h k.1)

-- ---- all lines so far

-- where source and sink tell their bytes: the lines at the front of a text, of which the rest is left, are answered, and the answers
-- are written, but for what waits
abbrev AreAnsweredWhereTold : {S : Type 0} → (S → List ℕ → List ℕ → S → Type 0) → S → Option (List ℕ) → Option (List ℕ) → Option (List ℕ) → List ℕ → S → Option (List ℕ) → Type 0
AreAnsweredWhereTold R s None taken taken' waiting t rest = Unit {0}
AreAnsweredWhereTold R s (Some text) taken taken' waiting t None = ⊥
AreAnsweredWhereTold R s (Some text) taken taken' waiting t (Some rest) =
    (passed : List (List ℕ)) × (answers : List ℕ) × (lines_of text ≡ passed ++ lines_of rest) × EachAnswers R s passed answers t × AppendsTo taken taken' answers waiting

-- as a record, which tells of what it is said
pub record AreAnswered {S : Type 0} (R : S → List ℕ → List ℕ → S → Type 0) (s : S) (text taken taken' : Option (List ℕ)) (waiting : List ℕ) (t : S) (rest : Option (List ℕ)) : Type 0 where
  pub told : AreAnsweredWhereTold R s text taken taken' waiting t rest

kept : (o : Option (List ℕ)) → Keeps o o
kept None = tt
kept (Some xs) = refl

pub none_answered : {S : Type 0} (R : S → List ℕ → List ℕ → S → Type 0) (s : S) (text taken : Option (List ℕ)) → AreAnswered R s text taken taken [] s text
none_answered R s None taken = record { told = tt }
none_answered R s (Some text) taken = record { told = ([], [], refl, (refl, refl), ([], refl, Appends-nil taken taken (kept taken))) }

-- one line more is answered, and some of what waits is written
pub one_more_answered : {S : Type 0} (R : S → List ℕ → List ℕ → S → Type 0) (s t u : S) (text rest rest' a b c : Option (List ℕ)) (waiting waiting' : List ℕ) → AreAnswered R s text a b waiting t rest
    → IfSome rest (λ x. (answer : List ℕ) × FirstAnswers R t x answer u rest' × AppendsTo b c (waiting ++ answer) waiting') → AreAnswered R s text a c waiting' u rest'
one_more_answered R s t u None rest rest' a b c waiting waiting' p h = record { told = tt }
one_more_answered R s t u (Some text) None rest' a b c waiting waiting' p h = absurd p.told
one_more_answered R s t u (Some text) (Some rest) None a b c waiting waiting' p h = absurd h.1
one_more_answered R s t u (Some text) (Some rest) (Some rest') a b c waiting waiting' p h =
    let q = p.told in
    record {
      told = (
        q.0 ++ h.1.0 ∷ [],
        q.1 ++ h.0,
        q.2 ∙ ap (λ ls. q.0 ++ ls) h.1.1 ∙ sym (append_assoc q.0 (h.1.0 ∷ []) (lines_of rest')),
        each_more R q.0 s t u h.1.0 q.1 h.0 q.3 h.1.2,
        AppendsTo-longer a b c q.1 waiting h.0 waiting' q.4 h.2,
      );
    }

-- some of what waits at most is written
pub answered_front : {S : Type 0} (R : S → List ℕ → List ℕ → S → Type 0) (s t : S) (text rest a b c : Option (List ℕ)) (waiting : List ℕ) → AreAnswered R s text a b waiting t rest → AppendsFront b c waiting → IfSome text (λ x. FrontAnswers R s x a c)
answered_front R s t None rest a b c waiting p w = tt
answered_front R s t (Some text) None a b c waiting p w = absurd p.told
answered_front R s t (Some text) (Some rest) a b c waiting p w =
    let q = p.told in (q.0, lines_of rest, q.2, q.1, t, q.3, AppendsTo-front a b c q.1 waiting q.4 w)

-- the reader breaks: the lines that it went past are answered, and all of that is written
pub answered_passed : {S : Type 0} (R : S → List ℕ → List ℕ → S → Type 0) (s t : S) (text rest left a b c : Option (List ℕ)) (waiting : List ℕ) → AreAnswered R s text a b waiting t rest → LosesOfLine rest left → Appends b c waiting → IfSome text (λ x. PassedAnswers R s x left a c)
answered_passed R s t None rest left a b c waiting p l w = tt
answered_passed R s t (Some text) None left a b c waiting p l w = absurd p.told
answered_passed R s t (Some text) (Some rest) left a b c waiting p l w =
    let q = p.told in (q.0, rest, q.2, l, q.1, t, q.3, AppendsTo-whole a b c q.1 waiting q.4 w)

-- behind the last line nothing is answered
pub all_answered : {S : Type 0} (R : S → List ℕ → List ℕ → S → Type 0) (s t u : S) (text rest a b c : Option (List ℕ)) (waiting waiting' : List ℕ) → AreAnswered R s text a b waiting t rest
    → IfSome rest (λ x. x ≡ []) × (u ≡ t) × AppendsTo b c waiting waiting' → IfSome text (λ x. (answers : List ℕ) × EachAnswers R s (lines_of x) answers u × AppendsTo a c answers waiting')
all_answered R s t u None rest a b c waiting waiting' p e = tt
all_answered R s t u (Some text) None a b c waiting waiting' p e = absurd p.told
all_answered R s t u (Some text) (Some rest) a b c waiting waiting' p e =
    let q = p.told in
    let passed : lines_of text ≡ q.0 = q.2 ∙ ap (λ ls. q.0 ++ ls) (ap lines_of e.0 ∙ lines_of-nil) ∙ append-nil q.0 in (
      q.1,
      subst (λ ls. EachAnswers R s ls q.1 u) (sym passed) (subst (λ v. EachAnswers R s q.0 q.1 v) (sym e.1) q.3),
      AppendsTo-on a b c q.1 waiting waiting' q.4 e.2,
    )

-- ---- outcomes

pub on_any_err : {A E : Type 0} (r : Result A E) {P : Type 0} → P → OnErr r P
on_any_err (Ok x) p = tt
on_any_err (Err e) p = p
