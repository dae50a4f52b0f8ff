-- Lines that are gathered in pieces, over bytes that may be unknown.
use Rattle.std.proofs.Common.{◌≡◌, ◌≢◌, ℕ, ◌+◌, ◌-◌, ◌<◌, ◌≤◌, Bool, true, false, List, [], ◌∷◌, ◌++◌, length, take, drop, sym, ap, ◌∙◌, refl, subst, inl, inr, arith, append-nil, append_assoc, drop-drop, length-take}
use Rattle.std.specs.Prelude.{Option, Some, None, ◌⊎◌}
use Rattle.std.specs.List.{slice_range}
use Rattle.std.specs.Io.KnownBytes.{prepend_known, Consumes, Keeps, IsAtEnd}
use Rattle.std.proofs.lemmas.List.{drop-take, take-take}
use Rattle.std.proofs.lemmas.List.Elements.{All-append}
use Rattle.cg_lines.specs.Lines.{HasNoNewline, IsLastLine, TakesLine, TakesKnownLine, LosesOfLine, Reading, ChunkReading, pending, IsGathered, TakesPiece, IsFirstNewline, kind_where, ending_kind_where, last_kind_where}
use Rattle.cg_lines.specs.declared.lines.LineKind.TheVariants.{End}

-- nothing more is known than what is known
pub prepend_known-nil : (known : Option (List ℕ)) → prepend_known [] known ≡ known
prepend_known-nil None = refl
prepend_known-nil (Some xs) = refl

-- what is left of a range past its first k elements
pub drop-slice_range : (xs : List ℕ) (a e k : ℕ) → k ≤ e - a → drop k (slice_range xs a e) ≡ slice_range xs (a + k) e
drop-slice_range xs a e k h =
    let whole : e - a ≡ k + (e - (a + k)) = omega arith in
    ap (λ n. drop k (take n (drop a xs))) whole ∙ drop-take k (e - (a + k)) (drop a xs) ∙ ap (take (e - (a + k))) (drop-drop k a xs)

-- what is taken off a range up to its first newline
pub TakesPiece-found : (all : List ℕ) (start end n : ℕ) → IsFirstNewline (slice_range all start end) n → TakesPiece (slice_range all start end) (take n (slice_range all start end)) true (slice_range all (start + (n + 1)) end)
TakesPiece-found all start end n h =
    let range = slice_range all start end in
    let below : n + 1 ≤ end - start = omega (arith, h.0, length-take (end - start) (drop start all)) in
    h.2 ∙ ap (λ l. take n range ++ 10 ∷ l) (drop-slice_range all start end (n + 1) below)

-- what is left of the front of the bytes past its first ones
pub part_of : (bytes : List ℕ) (start end : ℕ) → start ≤ end → drop start (slice_range bytes 0 end) ≡ slice_range bytes start end
part_of bytes start end within = drop-slice_range bytes 0 end start (omega (arith, within)) ∙ ap (λ i. slice_range bytes i end) (let e : 0 + start ≡ start = omega arith in e)

-- a range within the front of the bytes
pub range_of_front : (bytes : List ℕ) (end a b : ℕ) → a ≤ b → b ≤ end → slice_range (slice_range bytes 0 end) a b ≡ slice_range bytes a b
range_of_front bytes end a b low high =
    ap (take (b - a)) (part_of bytes a end (omega arith)) ∙ take-take (b - a) (end - a) (drop a bytes) (omega arith)

-- the line before the first newline of a range, by its place in the front of the bytes
pub line_found : (all : List ℕ) (start end n : ℕ) → IsFirstNewline (slice_range all start end) n → HasNoNewline (slice_range (slice_range all 0 end) start (start + n)) × (slice_range all start end ≡ slice_range (slice_range all 0 end) start (start + n) ++ 10 ∷ slice_range all (start + (n + 1)) end)
line_found all start end n h =
    let few : n < end - start = omega (arith, h.0, length-take (end - start) (drop start all)) in
    let behind : n ≡ start + n - start = omega arith in
    let same : take n (slice_range all start end) ≡ slice_range (slice_range all 0 end) start (start + n) =
    take-take n (end - start) (drop start all) (omega arith) ∙ ap (λ k. take k (drop start all)) behind ∙ sym (range_of_front all end start (start + n) (omega arith) (omega arith)) in
    subst (λ (l : List ℕ). HasNoNewline l × (slice_range all start end ≡ l ++ 10 ∷ slice_range all (start + (n + 1)) end)) same (h.1, TakesPiece-found all start end n h)

-- two steps are one
pub Consumes-append : (a b c : Option (List ℕ)) (x y : List ℕ) → Consumes a b x → Consumes b c y → Consumes a c (x ++ y)
Consumes-append None b c x y h k = tt
Consumes-append (Some xs) None c x y h k = absurd h
Consumes-append (Some xs) (Some ys) None x y h k = k
Consumes-append (Some xs) (Some ys) (Some zs) x y h k = h ∙ ap (λ l. x ++ l) k ∙ sym (append_assoc x y zs)

-- the front of what is prepended is consumed
pub Consumes-front : (left : Option (List ℕ)) (all front rest : List ℕ) → all ≡ front ++ rest → Consumes (prepend_known all left) (prepend_known rest left) front
Consumes-front None all front rest h = tt
Consumes-front (Some xs) all front rest h = ap (λ l. l ++ xs) h ∙ append_assoc front rest xs

-- bytes that are moved in front of what is left aren't consumed
pub Consumes-moved : (old new : Option (List ℕ)) (bytes : List ℕ) → Consumes old new bytes → Consumes (prepend_known [] old) (prepend_known bytes new) []
Consumes-moved None new bytes h = tt
Consumes-moved (Some xs) None bytes h = h
Consumes-moved (Some xs) (Some ys) bytes h = h

pub Consumes-kept : (old new : Option (List ℕ)) → Keeps old new → Consumes (prepend_known [] old) (prepend_known [] new) []
Consumes-kept None new h = tt
Consumes-kept (Some xs) None h = h
Consumes-kept (Some xs) (Some ys) h = sym h

-- a whole line is taken, with what follows its newline
taken_at_newline : (text rest whole line : List ℕ) (fits : Bool) → HasNoNewline whole → text ≡ whole ++ 10 ∷ rest → IsGathered whole fits line → TakesLine text (kind_where fits) line rest
taken_at_newline text rest whole line true n h k =
    subst (λ (l : List ℕ). (length l ≤ 65536) × HasNoNewline l × (text ≡ l ++ 10 ∷ rest)) (sym k.0) (k.1, n, h)
taken_at_newline text rest whole line false n h k = (k.0, whole, k.1, (n, inl h))

-- a whole line is taken, which has none
taken_at_end : (text rest whole line : List ℕ) (fits : Bool) → HasNoNewline whole → IsLastLine text whole rest → IsGathered whole fits line → TakesLine text (ending_kind_where fits) line rest
taken_at_end text rest whole line true n h k =
    subst (λ (l : List ℕ). (length l ≤ 65536) × HasNoNewline l × IsLastLine text l rest) (sym k.0) (k.1, n, h)
taken_at_end text rest whole line false n h k = (k.0, whole, k.1, (n, inr h))

pub takes_at_newline : (old new : Option (List ℕ)) (whole line : List ℕ) (fits : Bool) → HasNoNewline whole → Consumes old new (whole ++ 10 ∷ []) → IsGathered whole fits line → TakesKnownLine old (kind_where fits) line new
takes_at_newline None new whole line fits n h k = tt
takes_at_newline (Some text) None whole line fits n h k = h
takes_at_newline (Some text) (Some rest) whole line fits n h k =
    taken_at_newline text rest whole line fits n (h ∙ append_assoc whole (10 ∷ []) rest) k

pub takes_at_end : (old new : Option (List ℕ)) (whole line : List ℕ) (fits : Bool) → HasNoNewline whole → Consumes old new whole → IsAtEnd new → 0 < length whole → IsGathered whole fits line → TakesKnownLine old (ending_kind_where fits) line new
takes_at_end None new whole line fits n h e p k = tt
takes_at_end (Some text) None whole line fits n h e p k = h
takes_at_end (Some text) (Some rest) whole line fits n h e p k =
    taken_at_end text rest whole line fits n (h ∙ ap (λ l. whole ++ l) e ∙ append-nil whole, p, e) k

pub takes_nothing : (old new : Option (List ℕ)) (line : List ℕ) → Consumes old new [] → IsAtEnd new → line ≡ [] → TakesKnownLine old End line new
takes_nothing None new line h e k = tt
takes_nothing (Some text) None line h e k = h
takes_nothing (Some text) (Some rest) line h e k = (h ∙ e, k, e)

-- the bytes that were gathered of a line between two states of its reader
abbrev pub Gathered : Reading → Reading → Bool → Type 0
Gathered old new fits = (bytes : List ℕ) × HasNoNewline bytes × Consumes (pending old) (pending new) bytes × IsGathered bytes fits new.line

-- what one step over the bytes that are read adds to the bytes that are gathered
abbrev pub Gathers : Reading → Reading → Bool → Bool → Bool → Type 0
Gathers old new fits fits' ended =
    (front : List ℕ) → IsGathered front fits old.line
    → (bytes : List ℕ) × HasNoNewline bytes × TakesPiece old.buffered bytes ended new.buffered × IsGathered (front ++ bytes) fits' new.line

-- what a step over the bytes that are read leaves
pub record KeepsSource (old new : ChunkReading) : Type 0 where
  pub left : new.left ≡ old.left
  pub failed_before : new.failed_before ≡ old.failed_before
  pub failures : new.failures ≡ old.failures
  pub reads : new.reads ≡ old.reads
  pub is_broken : new.is_broken ≡ old.is_broken

pub KeepsSource-step : (r s : ChunkReading) → s ≡ record r { buffered = s.buffered } → KeepsSource r s
KeepsSource-step r s e = record {
  left = ap (λ (x : ChunkReading). x.left) e;
  failed_before = ap (λ (x : ChunkReading). x.failed_before) e;
  failures = ap (λ (x : ChunkReading). x.failures) e;
  reads = ap (λ (x : ChunkReading). x.reads) e;
  is_broken = ap (λ (x : ChunkReading). x.is_broken) e;
}

-- what reading on leaves
pub record KeepsCounts (old new : ChunkReading) : Type 0 where
  pub failed_before : new.failed_before ≡ old.failed_before
  pub failures : new.failures ≡ old.failures
  pub reads : new.reads ≡ old.reads + 1
  pub is_broken : new.is_broken ≡ old.is_broken

pub KeepsCounts-fill : (r s : ChunkReading) → s ≡ record r { read = s.read; buffered = s.buffered; left = s.left; reads = r.reads + 1 } → KeepsCounts r s
KeepsCounts-fill r s e = record {
  failed_before = ap (λ (x : ChunkReading). x.failed_before) e;
  failures = ap (λ (x : ChunkReading). x.failures) e;
  reads = ap (λ (x : ChunkReading). x.reads) e;
  is_broken = ap (λ (x : ChunkReading). x.is_broken) e;
}

-- a state with the same bytes left, seen from the state before
pending-same : (r s : Reading) → s.left ≡ r.left → pending s ≡ prepend_known s.buffered r.left
pending-same r s e = ap (prepend_known s.buffered) e

-- the line ends in the bytes that are read
pub takes_gathered : (a r s : Reading) (fits fits' : Bool) → Gathered a r fits → Gathers r s fits fits' true → s.left ≡ r.left → TakesKnownLine (pending a) (kind_where fits') s.line (pending s)
takes_gathered a r s fits fits' h k e =
    let step = k h.0 h.3 in
    let split : r.buffered ≡ (step.0 ++ 10 ∷ []) ++ s.buffered = step.2 ∙ sym (append_assoc step.0 (10 ∷ []) s.buffered) in
    let last = Consumes-front r.left r.buffered (step.0 ++ 10 ∷ []) s.buffered split in
    let all = Consumes-append (pending a) (pending r) (prepend_known s.buffered r.left) h.0 (step.0 ++ 10 ∷ []) h.2 last in
    rw (pending-same r s e)
    (takes_at_newline (pending a) (prepend_known s.buffered r.left) (h.0 ++ step.0) s.line fits'
    (All-append (λ b. b ≢ 10) h.0 step.0 h.1 step.1)
    (subst (Consumes (pending a) (prepend_known s.buffered r.left)) (sym (append_assoc h.0 step.0 (10 ∷ []))) all)
    step.3)

-- the line goes on past the bytes that are read
pub Gathered-more : (a r s : Reading) (fits fits' : Bool) → Gathered a r fits → Gathers r s fits fits' false → s.left ≡ r.left → Gathered a s fits' × (s.buffered ≡ [])
Gathered-more a r s fits fits' h k e =
    let step = k h.0 h.3 in
    let split : r.buffered ≡ step.0 ++ s.buffered = step.2.0 ∙ sym (append-nil step.0) ∙ ap (λ l. step.0 ++ l) (sym step.2.1) in
    let last = Consumes-front r.left r.buffered step.0 s.buffered split in
    let all = Consumes-append (pending a) (pending r) (prepend_known s.buffered r.left) h.0 step.0 h.2 last in
    ((h.0 ++ step.0, All-append (λ b. b ≢ 10) h.0 step.0 h.1 step.1, subst (λ p. Consumes (pending a) p (h.0 ++ step.0)) (sym (pending-same r s e)) all, step.3), step.2.1)

-- with all that was read gathered, the pending bytes are those that the source has left
pending-left : (r : Reading) → r.buffered ≡ [] → pending r ≡ prepend_known [] r.left
pending-left r e = ap (λ l. prepend_known l r.left) e

-- bytes are read on
pub Gathered-filled : (a r s : Reading) (fits : Bool) → Gathered a r fits → r.buffered ≡ [] → Consumes r.left s.left s.buffered → s.line ≡ r.line → Gathered a s fits
Gathered-filled a r s fits h e c l =
    let moved = subst (λ p. Consumes p (pending s) []) (sym (pending-left r e)) (Consumes-moved r.left s.left s.buffered c) in
    let all = Consumes-append (pending a) (pending r) (pending s) h.0 [] h.2 moved in
    (h.0, h.1, subst (Consumes (pending a) (pending s)) (append-nil h.0) all, subst (IsGathered h.0 fits) (sym l) h.3)

-- no byte is read on: what was gathered is what is lost
pub LosesOfLine-gathered : (a r s : Reading) (fits : Bool) → Gathered a r fits → r.buffered ≡ [] → s.buffered ≡ [] → Keeps r.left s.left → LosesOfLine (pending a) (pending s)
LosesOfLine-gathered a r s fits h e f k =
    let moved = Consumes-kept r.left s.left k in
    let all =
    Consumes-append (pending a) (pending r) (pending s) h.0 [] h.2
    (subst (λ p. Consumes p (pending s) []) (sym (pending-left r e)) (subst (λ p. Consumes (prepend_known [] r.left) p []) (sym (pending-left s f)) moved)) in
    (h.0, h.1, subst (Consumes (pending a) (pending s)) (append-nil h.0) all)

-- where a line has some byte kept, or is too long, it has some byte
IsGathered-some : (whole : List ℕ) (fits : Bool) (line : List ℕ) → IsGathered whole fits line → (0 < length line) ⊎ (fits ≡ false) → 0 < length whole
IsGathered-some whole true line k some = elim some [ inl p ↦ subst (λ (l : List ℕ). 0 < length l) k.0 p | inr e ↦ absurd_of e ]
  where
    absurd_of : true ≡ false → 0 < length whole
    absurd_of e = cc
IsGathered-some whole false line k some = let long = k.1 in omega arith

-- at the end of the input
IsAtEnd-pending : (left : Option (List ℕ)) → IsAtEnd left → IsAtEnd (prepend_known [] left)
IsAtEnd-pending None h = tt
IsAtEnd-pending (Some xs) h = h

takes_last : (a s : Reading) (fits : Bool) → Gathered a s fits → s.buffered ≡ [] → IsAtEnd s.left → (0 < length s.line) ⊎ (fits ≡ false) → TakesKnownLine (pending a) (ending_kind_where fits) s.line (pending s)
takes_last a s fits h e k some =
    takes_at_end (pending a) (pending s) h.0 s.line fits h.1 h.2 (subst IsAtEnd (sym (pending-left s e)) (IsAtEnd-pending s.left k)) (IsGathered-some h.0 fits s.line h.3 some) h.3

takes_end : (a s : Reading) → Gathered a s true → s.buffered ≡ [] → IsAtEnd s.left → s.line ≡ [] → TakesKnownLine (pending a) End s.line (pending s)
takes_end a s h e k none =
    let nothing : h.0 ≡ [] = sym h.3.0 ∙ none in
    takes_nothing (pending a) (pending s) s.line (subst (Consumes (pending a) (pending s)) nothing h.2) (subst IsAtEnd (sym (pending-left s e)) (IsAtEnd-pending s.left k)) none

-- the input ends behind what was gathered
pub takes_final : (a s : Reading) (fits : Bool) (line : List ℕ) → line ≡ s.line → Gathered a s fits → s.buffered ≡ [] → IsAtEnd s.left → TakesKnownLine (pending a) (last_kind_where fits line) s.line (pending s)
takes_final a s false line l h e k = takes_last a s false h e k (inr refl)
takes_final a s true [] l h e k = takes_end a s h e k (sym l)
takes_final a s true (x ∷ xs) l h e k =
    let some : 0 < length (x ∷ xs) = omega arith in
    takes_last a s true h e k (inl (subst (λ (m : List ℕ). 0 < length m) l some))
