-- Bytes that are appended in several steps.
use Rattle.std.proofs.Common.{◌≡◌, ℕ, List, [], ◌++◌, take, drop, sym, ap, subst, ◌∙◌, refl, append-nil, append_assoc, take-append-drop}
use Rattle.std.specs.Prelude.{Option, Some, None}
use Rattle.std.specs.Io.KnownBytes.{Appends, Keeps}
use Rattle.cg_lines.specs.Device.{AppendsTo, AppendsFront}

-- what is kept grows by nothing
pub Appends-nil : (old new : Option (List ℕ)) → Keeps old new → Appends old new []
Appends-nil None new h = tt
Appends-nil (Some xs) None h = h
Appends-nil (Some xs) (Some ys) h = h ∙ sym (append-nil xs)

-- two steps are one
pub Appends-append : (a b c : Option (List ℕ)) (x y : List ℕ) → Appends a b x → Appends b c y → Appends a c (x ++ y)
Appends-append None b c x y h k = tt
Appends-append (Some xs) None c x y h k = absurd h
Appends-append (Some xs) (Some ys) None x y h k = k
Appends-append (Some xs) (Some ys) (Some zs) x y h k = k ∙ ap (λ l. l ++ y) h ∙ append_assoc xs x y

-- nothing is taken
pub AppendsFront-nil : (old new : Option (List ℕ)) (bytes : List ℕ) → Keeps old new → AppendsFront old new bytes
AppendsFront-nil old new bytes h = (bytes, ([], refl, Appends-nil old new h))

-- all is taken
pub AppendsFront-whole : (old new : Option (List ℕ)) (bytes : List ℕ) → Appends old new bytes → AppendsFront old new bytes
AppendsFront-whole old new bytes h = ([], (bytes, sym (append-nil bytes), h))

-- the first n bytes are taken
pub AppendsFront-take : (old new : Option (List ℕ)) (bytes : List ℕ) (n : ℕ) → Appends old new (take n bytes) → AppendsFront old new bytes
AppendsFront-take old new bytes n h = (drop n bytes, (take n bytes, sym (take-append-drop n bytes), h))

-- n more bytes are taken
pub AppendsTo-more : (a b c : Option (List ℕ)) (bytes rest : List ℕ) (n : ℕ) → AppendsTo a b bytes rest → Appends b c (take n rest) → AppendsTo a c bytes (drop n rest)
AppendsTo-more a b c bytes rest n h k =
    (h.0 ++ take n rest, h.1 ∙ ap (λ l. h.0 ++ l) (sym (take-append-drop n rest)) ∙ sym (append_assoc h.0 (take n rest) (drop n rest)), Appends-append a b c h.0 (take n rest) h.2 k)

-- some more bytes are taken
pub AppendsTo-front : (a b c : Option (List ℕ)) (bytes rest : List ℕ) → AppendsTo a b bytes rest → AppendsFront b c rest → AppendsFront a c bytes
AppendsTo-front a b c bytes rest h k =
    (k.0, (h.0 ++ k.1.0, h.1 ∙ ap (λ l. h.0 ++ l) k.1.1 ∙ sym (append_assoc h.0 k.1.0 k.0), Appends-append a b c h.0 k.1.0 h.2 k.1.2))

-- more bytes come behind what is left, of which some are taken
pub AppendsTo-longer : (a b c : Option (List ℕ)) (bytes rest more rest' : List ℕ) → AppendsTo a b bytes rest → AppendsTo b c (rest ++ more) rest' → AppendsTo a c (bytes ++ more) rest'
AppendsTo-longer a b c bytes rest more rest' h k = (
  h.0 ++ k.0,
  ap (λ l. l ++ more) h.1 ∙ append_assoc h.0 rest more ∙ ap (λ l. h.0 ++ l) k.1 ∙ sym (append_assoc h.0 k.0 rest'),
  Appends-append a b c h.0 k.0 h.2 k.2,
)

-- some of what is left is taken
pub AppendsTo-on : (a b c : Option (List ℕ)) (bytes rest rest' : List ℕ) → AppendsTo a b bytes rest → AppendsTo b c rest rest' → AppendsTo a c bytes rest'
AppendsTo-on a b c bytes rest rest' h k = (h.0 ++ k.0, h.1 ∙ ap (λ l. h.0 ++ l) k.1 ∙ sym (append_assoc h.0 k.0 rest'), Appends-append a b c h.0 k.0 h.2 k.2)

-- more bytes come behind what is left
pub AppendsTo-behind : (a b : Option (List ℕ)) (bytes rest more : List ℕ) → AppendsTo a b bytes rest → AppendsTo a b (bytes ++ more) (rest ++ more)
AppendsTo-behind a b bytes rest more h = (h.0, ap (λ l. l ++ more) h.1 ∙ append_assoc h.0 rest more, h.2)

-- all that is left is taken
pub AppendsTo-whole : (a b c : Option (List ℕ)) (bytes rest : List ℕ) → AppendsTo a b bytes rest → Appends b c rest → Appends a c bytes
AppendsTo-whole a b c bytes rest h k = subst (λ l. Appends a c l) (sym h.1) (Appends-append a b c h.0 rest h.2 k)

-- the same of a text whose first part is taken, and then a part of what is left
pub Gathered-more : (a b : Option (List ℕ)) (rest before after answer : List ℕ) → AppendsTo a b before rest → after ≡ rest ++ answer → AppendsTo a b (before ++ answer) after
Gathered-more a b rest before after answer h e = subst (λ l. AppendsTo a b (before ++ answer) l) (sym e) (AppendsTo-behind a b before rest answer h)
