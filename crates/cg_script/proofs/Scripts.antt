-- What the lines of a script ask for.
use Rattle.std.proofs.Common.{◌≡◌, ℕ, suc, ◌≤◌, Bool, true, false, List, [], ◌∷◌, ◌++◌, length, map, Option, Some, None, refl, sym, ap, subst, ◌∙◌, inl, inr, arith, append-nil}
use Rattle.std.proofs.lemmas.Option.{none-some, same_Some}
use Rattle.std.specs.List.{AllByRecursion, slice_split}
use Rattle.cg_text.specs.Words.{Line, Word, Says, SayAll, is_newline, lines_of, without_empty_last}
use Rattle.cg_text.proofs.Cuts.{one_saying}
use Rattle.cg_text.proofs.Lines.{parts_say}
use Rattle.cg_command_text.proofs.SpelledCommands.{spelled_can_be_asked}
use Rattle.cg_history.specs.Meaning.{request_of}
use Rattle.cg_history.specs.declared.record.Request as code
use Rattle.cg_model.specs.Cgroups.{cgroups}
use Rattle.cg_model.specs.History.{Request, Begin, Do, Save, Back, Undo, Commit, Abort}
use Rattle.cg_script.specs.Request.{SpellsRequest, CanBeAsked}
use Rattle.cg_script.specs.Script.{IsScriptRequest, AreScriptRequests, SaysRequest, SayRequests, last_request, SpellsScript, OneScript, ScriptsCanBeAsked}
use Rattle.cg_script.specs.ScriptLines.{IsNoScript}
use Rattle.cg_script.proofs.OneLine.{request_one}
use Rattle.cg_script.proofs.Facts.{head_same, rest_same, cons_nil}

abbrev Requests : Type 0
Requests = List (Request cgroups)

-- ---- what a line says

-- a line that says these words says the request that they spell, and nothing else
pub says_that : (line : Line) (ws : List Word) (r : Request cgroups) → Says line (Some ws) → SaysRequest line r → SpellsRequest ws r
says_that line ws r says h = subst (λ vs. SpellsRequest vs r) (same_Some _ _ (one_saying line (Some h.0) (Some ws) h.1 says)) h.2

says_one : (line : Line) (r q : Request cgroups) → SaysRequest line r → SaysRequest line q → r ≡ q
says_one line r q h k = request_one h.0 r q h.2 (says_that line h.0 q h.1 k)

says_something : (line : Line) (r : Request cgroups) → Says line None → SaysRequest line r → ⊥
says_something line r none h = none-some _ (sym (one_saying line (Some h.0) None h.1 none))

-- ---- what lines say

pub say_append : (ks ls : List Line) (x y : Requests) → SayRequests ks x → SayRequests ls y → SayRequests (ks ++ ls) (x ++ y)
say_append [] ls x y e k = subst (λ z. SayRequests ls (z ++ y)) (sym e) k
say_append (l ∷ ks) ls x y (inl h) k = inl (h.0, say_append ks ls x y h.1 k)
say_append (l ∷ ks) ls x y (inr (r, others, s, e, h)) k = inr (r, others ++ y, s, ap (λ z. z ++ y) e, say_append ks ls others y h k)

-- what the lines behind others ask for
record Behind (ks ls : List Line) (x z : Requests) : Type 0 where
  more : Requests
  whole : z ≡ x ++ more
  say : SayRequests ls more

behind : (ks ls : List Line) (x z : Requests) → SayRequests ks x → SayRequests (ks ++ ls) z → Behind ks ls x z
behind [] ls x z e k = record { more = z; whole = ap (λ y. y ++ z) (sym e); say = k }
behind (l ∷ ks) ls x z (inl h) (inl k) = let b = behind ks ls x z h.1 k.1 in record { more = b.more; whole = b.whole; say = b.say }
behind (l ∷ ks) ls x z (inl h) (inr (r, others, s, e, k)) = absurd (says_something l r h.0 s)
behind (l ∷ ks) ls x z (inr (r, others, s, e, h)) (inl k) = absurd (says_something l r k.0 s)
behind (l ∷ ks) ls x z (inr (r, others, s, e, h)) (inr (q, rest, t, f, k)) =
    let b = behind ks ls others rest h k in
    record {
      more = b.more;
      whole = f ∙ (λ i. says_one l q r t s i ∷ b.whole i) ∙ ap (λ y. y ++ b.more) (sym e);
      say = b.say;
    }

-- lines ask for the same, however it is told
say_one : (ls : List Line) (x y : Requests) → SayRequests ls x → SayRequests ls y → x ≡ y
say_one [] x y e f = e ∙ sym f
say_one (l ∷ ls) x y (inl h) (inl k) = say_one ls x y h.1 k.1
say_one (l ∷ ls) x y (inl h) (inr (r, others, s, e, k)) = absurd (says_something l r h.0 s)
say_one (l ∷ ls) x y (inr (r, others, s, e, h)) (inl k) = absurd (says_something l r k.0 s)
say_one (l ∷ ls) x y (inr (r, others, s, e, h)) (inr (q, rest, t, f, k)) = e ∙ (λ i. says_one l r q s t i ∷ say_one ls others rest h k i) ∙ sym f

-- an empty line behind the last newline says nothing
of_nothing : SayAll ([] ∷ []) [] → Says [] None
of_nothing (inl h) = h.0
of_nothing (inr h) = absurd (cons_nil (sym h.3))

empty_says_nothing : Says [] None
empty_says_nothing = of_nothing (parts_say ([] ∷ []) [] refl)

with_last : (ps : List Line) (x : Requests) → SayRequests (without_empty_last ps) x → SayRequests ps x
with_last [] x h = h
with_last ([] ∷ []) x h = inl (empty_says_nothing, h)
with_last ((b ∷ l) ∷ []) x h = h
with_last (l ∷ m ∷ ps) x (inl h) = inl (h.0, with_last (m ∷ ps) x h.1)
with_last (l ∷ m ∷ ps) x (inr (r, others, s, e, h)) = inr (r, others, s, e, with_last (m ∷ ps) others h)

without_last : (ps : List Line) (x : Requests) → SayRequests ps x → SayRequests (without_empty_last ps) x
without_last [] x h = h
without_last ([] ∷ []) x (inl h) = h.1
without_last ([] ∷ []) x (inr (r, others, s, e, h)) = absurd (says_something [] r empty_says_nothing s)
without_last ((b ∷ l) ∷ []) x h = h
without_last (l ∷ m ∷ ps) x (inl h) = inl (h.0, without_last (m ∷ ps) x h.1)
without_last (l ∷ m ∷ ps) x (inr (r, others, s, e, h)) = inr (r, others, s, e, without_last (m ∷ ps) others h)

-- one line more, which says nothing or a request
pub silent_more : (lines : List Line) (line : Line) (x : Requests) → SayRequests lines x → Says line None → SayRequests (lines ++ line ∷ []) x
silent_more lines line x h none = subst (SayRequests (lines ++ line ∷ [])) (append-nil x) (say_append lines (line ∷ []) x [] h (inl (none, refl)))

pub said_more : (lines : List Line) (line : Line) (x : Requests) (r : Request cgroups) → SayRequests lines x → SaysRequest line r → SayRequests (lines ++ line ∷ []) (x ++ r ∷ [])
said_more lines line x r h says = say_append lines (line ∷ []) x (r ∷ []) h (inr (r, [], says, refl, refl))

-- a line that says nothing that a line may
pub no_words : (line : Line) (lines : List Line) (more : Requests) → ((said : Option (List Word)) → Says line said → ⊥) → SayRequests (line ∷ lines) more → ⊥
no_words line lines more none (inl h) = none None h.0
no_words line lines more none (inr (r, others, s, e, h)) = none (Some s.0) s.1

-- or whose words spell no request
pub no_request : (line : Line) (ws : List Word) (lines : List Line) (more : Requests) → Says line (Some ws) → ((r : Request cgroups) → SpellsRequest ws r → ⊥) → SayRequests (line ∷ lines) more → ⊥
no_request line ws lines more says none (inl h) = none-some _ (sym (one_saying line (Some ws) None says h.0))
no_request line ws lines more says none (inr (r, others, s, e, h)) = none r (says_that line ws r says s)

-- or a request that no script has there
pub no_script_there : (line : Line) (r : Request cgroups) (lines : List Line) (x more : Requests) → SaysRequest line r → ((others : Requests) → IsNoScript (x ++ r ∷ others)) → SayRequests (line ∷ lines) more → IsNoScript (x ++ more)
no_script_there line r lines x more says none (inl h) own b few all same = says_something line r h.0 says
no_script_there line r lines x more says none (inr (q, others, s, e, h)) own b few all same =
    none others own b few all (ap (λ m. x ++ m) (ap (λ p. p ∷ others) (says_one line r q says s) ∙ sym e) ∙ same)

-- ---- how a script ends

-- what a script may not have is an abort at its end
last_alone : (x : Request cgroups) (ys : Requests) (b : Bool) → x ∷ ys ≡ last_request b → (x ≡ Abort) × (ys ≡ [])
last_alone x ys true e = (head_same e, rest_same e)
last_alone x ys false e = absurd (cons_nil e)

no_more : (x y : Request cgroups) (xs ys : Requests) (b : Bool) → x ∷ (xs ++ y ∷ ys) ≡ last_request b → ⊥
no_more x y [] ys b e = cons_nil (last_alone x (y ∷ ys) b e).1
no_more x y (z ∷ xs) ys b e = cons_nil (last_alone x (z ∷ (xs ++ y ∷ ys)) b e).1

pub ends_there : (xs : Requests) (x : Request cgroups) (ys own : Requests) (b : Bool) → (IsScriptRequest x → ⊥) → AllByRecursion IsScriptRequest own → xs ++ x ∷ ys ≡ own ++ last_request b → (x ≡ Abort) × (ys ≡ [])
ends_there [] x ys [] b never all e = last_alone x ys b e
ends_there [] x ys (o ∷ own) b never all e = absurd (never (subst IsScriptRequest (sym (head_same e)) all.0))
ends_there (z ∷ xs) x ys [] b never all e = absurd (no_more z x xs ys b e)
ends_there (z ∷ xs) x ys (o ∷ own) b never all e = ends_there xs x ys own b never all.1 (rest_same e)

pub no_end : (xs : Requests) (x : Request cgroups) (ys : Requests) → (IsScriptRequest x → ⊥) → (x ≡ Abort → ⊥) → IsNoScript (xs ++ x ∷ ys)
no_end xs x ys never other own b few all e = other (ends_there xs x ys own b never all e).0

-- ---- a text spells one script at most

scripts_one : (rs qs : Requests) (a b : Bool) → AllByRecursion IsScriptRequest rs → AllByRecursion IsScriptRequest qs → rs ++ last_request a ≡ qs ++ last_request b → (rs ≡ qs) × (a ≡ b)
scripts_one [] [] true true h k e = (refl, refl)
scripts_one [] [] true false h k e = absurd (cons_nil e)
scripts_one [] [] false true h k e = absurd (cons_nil (sym e))
scripts_one [] [] false false h k e = (refl, refl)
scripts_one [] (q ∷ qs) true b h k e = absurd (subst IsScriptRequest (sym (head_same e)) k.0)
scripts_one [] (q ∷ qs) false b h k e = absurd (cons_nil (sym e))
scripts_one (r ∷ rs) [] a true h k e = absurd (subst IsScriptRequest (head_same e) h.0)
scripts_one (r ∷ rs) [] a false h k e = absurd (cons_nil e)
scripts_one (r ∷ rs) (q ∷ qs) a b h k e = let s = scripts_one rs qs a b h.1 k.1 (rest_same e) in ((λ i. head_same e i ∷ s.0 i), s.1)

pub one_script : OneScript
one_script text rs qs a b h k = scripts_one rs qs a b h.own k.own (say_one _ (rs ++ last_request a) (qs ++ last_request b) h.lines k.lines)

-- ---- a text that is read

own_all : (rs : List code.Request) → AreScriptRequests rs → AllByRecursion IsScriptRequest (map request_of rs)
own_all [] h = tt
own_all (r ∷ rs) h = (h.0, own_all rs h.1)

length-map : (rs : List code.Request) → length (map request_of rs) ≡ length rs
length-map [] = refl
length-map (r ∷ rs) = ap (λ n. suc n) (length-map rs)

pub spells : (text : List ℕ) (rs : List code.Request) (b : Bool) → length text ≤ 16777216 → length rs ≤ 65536 → AreScriptRequests rs → SayRequests (slice_split is_newline text) (map request_of rs ++ last_request b) → SpellsScript text (map request_of rs) b
spells text rs b short few own say = record { short = short; few = omega (arith, length-map rs, few); own = own_all rs own; lines = without_last (slice_split is_newline text) _ say }

-- lines with one that spoils a script spell none
pub spoiled : (text : List ℕ) (passed lines : List Line) (line : Line) (x : Requests) → slice_split is_newline text ≡ passed ++ line ∷ lines → SayRequests passed x → ((more : Requests) → SayRequests (line ∷ lines) more → IsNoScript (x ++ more)) → (own : Requests) (b : Bool) → SpellsScript text own b → ⊥
spoiled text passed lines line x cut say none own b h =
    let all = subst (λ ls. SayRequests ls (own ++ last_request b)) cut (with_last (slice_split is_newline text) _ h.lines) in
    let rest = behind passed (line ∷ lines) x (own ++ last_request b) say all in
    none rest.more rest.say own b h.few h.own (sym rest.whole)

-- ---- what is said can be asked for

request_can : (ws : List Word) (r : Request cgroups) → SpellsRequest ws r → CanBeAsked r
request_can ws Begin h = tt
request_can ws (Do c) h = spelled_can_be_asked ws c h
request_can ws (Save n) h = h.1
request_can ws (Back n) h = h.1
request_can ws Undo h = tt
request_can ws Commit h = tt
request_can ws Abort h = tt

lines_can : (ls : List Line) (x : Requests) → SayRequests ls x → AllByRecursion CanBeAsked x
lines_can [] x e = subst (AllByRecursion CanBeAsked) (sym e) tt
lines_can (l ∷ ls) x (inl h) = lines_can ls x h.1
lines_can (l ∷ ls) x (inr (r, others, s, e, h)) = subst (AllByRecursion CanBeAsked) (sym e) (request_can s.0 r s.2, lines_can ls others h)

front_can : (x y : Requests) → AllByRecursion CanBeAsked (x ++ y) → AllByRecursion CanBeAsked x
front_can [] y h = tt
front_can (r ∷ x) y h = (h.0, front_can x y h.1)

pub scripts_can_be_asked : ScriptsCanBeAsked
scripts_can_be_asked text rs a h = front_can rs (last_request a) (lines_can (lines_of text) (rs ++ last_request a) h.lines)
