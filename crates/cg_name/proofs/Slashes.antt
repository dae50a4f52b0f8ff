-- The names of a path, read from its text byte by byte.
use Rattle.std.proofs.Common.{◌≡◌, ◌&&◌, ◌↔◌, ◌⊎◌, ℕ, ◌+◌, ◌-◌, ◌<◌, ◌≤◌, ◌==◌, Bool, true, false, append_assoc, IsTrue, List, [], ◌∷◌, ◌++◌, length, take, drop, get_or, map, inl, inr, refl, sym, ap, subst, ◌∙◌, arith, length-append, length-drop, IsUtf8}
use Rattle.std.specs.List.{AllByRecursion, flat_map, list_all, slice_range}
use Rattle.std.specs.Str.{IsCharBoundary}
use Rattle.std.proofs.lemmas.Str.{IsCharBoundary-start, IsCharBoundary-after_ascii}
use Rattle.std.proofs.lemmas.Bool.{false≢true}
use Rattle.std.proofs.lemmas.List.{append-nil, take_all, take_more, take_more_set, drop_more, drop-set-lt, get_or-drop, map-append}
use Rattle.std.proofs.lemmas.List.Elements.{All-from_recursion}
use Rattle.std.proofs.lemmas.List.Folds.{drop_split}
use Rattle.std.proofs.lemmas.List.Splits.{slice_split_none, slice_split_at, length-slice_split}
use Rattle.std.proofs.Math.ListN.{set}
use Rattle.std.proofs.Math.Seq.{take-append_seam, drop-append_seam}
use borrow.Author.Tests.{ne_eqb}
use Rattle.cg_name.specs.Name.{IsName, IsNameByte}
use Rattle.cg_name.specs.Packed.{packed_text, names_in, is_plain_or_zero, slashed, IsPacked}
use Rattle.cg_name.specs.Word.{is_plain_byte}
use Rattle.cg_name.specs.Path.{Path, IsPath, path_text}
use Rattle.cg_name.specs.Pieces.{pieces, marked}
use Rattle.cg_name.proofs.Packing.{start-packed_text, names_in-packed_text}
use Rattle.cg_name.proofs.Pieces.{no_slash, path_text-pieces, one_more, next_is_name}

-- read as far as i: the names before `start`, and bytes of one more
pub record Reads (text : List ℕ) (start i depth : ℕ) : Type 0 where
  pub order : start ≤ i
  pub boundary : IsCharBoundary text start
  pub bytes : AllByRecursion IsNameByte (slice_range text start i)
  pub low : depth < 64
  pub path : (p : Path) × IsPath p × (length p ≡ depth) × (p ++ pieces (drop start text) ≡ pieces text)

pub nothing_read : (text : List ℕ) → IsUtf8 text → Reads text 0 0 0
nothing_read text u =
    let root : IsPath [] = record { names = tt; depth = omega arith } in
    record { order = omega arith; boundary = IsCharBoundary-start text u; bytes = tt; low = omega arith; path = ([], root, refl, refl) }

-- ---- one byte more

bytes_push : (bs : List ℕ) (b : ℕ) → AllByRecursion IsNameByte bs → IsNameByte b → AllByRecursion IsNameByte (bs ++ b ∷ [])
bytes_push [] b h k = (k, tt)
bytes_push (c ∷ bs) b h k = (h.0, bytes_push bs b h.1 k)

range_more : (text : List ℕ) (start i : ℕ) → start ≤ i → i < length text → slice_range text start (i + 1) ≡ slice_range text start i ++ get_or text i 0 ∷ []
range_more text start i le low =
    let m : ℕ = i - start in
    let rest : List ℕ = drop start text in
    let one : i + 1 - start ≡ m + 1 = omega arith in
    let here : start + m ≡ i = omega arith in
    let byte : get_or rest m 0 ≡ get_or text i 0 = get_or-drop start text m 0 ∙ ap (λ k. get_or text k 0) here in
    ap (λ k. take k rest) one ∙ take_more rest m 0 (omega (arith, length-drop start text)) ∙ ap (λ b. take m rest ++ b ∷ []) byte

pub byte_read : (text : List ℕ) (start i depth : ℕ) → i < length text → IsNameByte (get_or text i 0) → Reads text start i depth → Reads text start (i + 1) depth
byte_read text start i depth low k h =
    let bytes = subst (AllByRecursion IsNameByte) (sym (range_more text start i h.order low)) (bytes_push (slice_range text start i) (get_or text i 0) h.bytes k) in
    let order = h.order in
    record { order = omega arith; boundary = h.boundary; bytes = bytes; low = h.low; path = h.path }

-- ---- a name ends at a slash

piece_here : (text : List ℕ) (start i : ℕ) → start ≤ i → i < length text → get_or text i 0 ≡ 47 → AllByRecursion IsNameByte (slice_range text start i) → pieces (drop start text) ≡ slice_range text start i ∷ pieces (drop (i + 1) text)
piece_here text start i le low e bytes =
    let n : List ℕ = slice_range text start i in
    let rest : List ℕ = drop (i + 1) text in
    let cut : drop start text ≡ n ++ 47 ∷ rest = drop_split text start i le ∙ ap (λ z. n ++ z) (drop_more text i 0 low ∙ ap (λ b. b ∷ rest) e) in
    ap pieces cut ∙ slice_split_at (λ b. b == 47) n 47 rest (no_slash n bytes) refl

pub name_read : (text : List ℕ) (start i depth : ℕ) → IsUtf8 text → i < length text → get_or text i 0 ≡ 47 → depth + 1 < 64 → IsName (slice_range text start i) → Reads text start i depth → Reads text (i + 1) (i + 1) (depth + 1)
name_read text start i depth u low e few name h =
    let n : List ℕ = slice_range text start i in
    let p : Path = h.path.0 in
    let here = piece_here text start i h.order low e h.bytes in
    let after = one_more p (pieces (drop start text)) (pieces text) (pieces (drop (i + 1) text)) n n (p ++ n ∷ []) h.path.1 (omega (arith, h.path.2)) name refl refl here h.path.3 in
    let none : 0 ≡ i + 1 - (i + 1) = omega arith in
    let bytes = subst (λ k. AllByRecursion IsNameByte (take k (drop (i + 1) text))) none tt in
    record { order = omega arith; boundary = IsCharBoundary-after_ascii text i u low (omega (arith, e)); bytes = bytes; low = few; path = (p ++ n ∷ [], after.0, omega (arith, h.path.2, length-append p (n ∷ [])), after.1) }

-- ---- where it is no path

-- a byte of the text of a path
abbrev IsTextByte : ℕ → Type 0
IsTextByte b = (b ≡ 47) ⊎ IsNameByte b

name_bytes : (n rest : List ℕ) → AllByRecursion IsNameByte n → AllByRecursion IsTextByte rest → AllByRecursion IsTextByte (n ++ rest)
name_bytes [] rest h k = k
name_bytes (b ∷ n) rest h k = (inr h.0, name_bytes n rest h.1 k)

names_bytes : (p : Path) → AllByRecursion IsName p → AllByRecursion IsTextByte (flat_map (λ m. 47 ∷ m) p)
names_bytes [] h = tt
names_bytes (n ∷ p) h = (inl refl, name_bytes n (flat_map (λ m. 47 ∷ m) p) h.0.bytes (names_bytes p h.1))

text_bytes : (p : Path) → AllByRecursion IsName p → AllByRecursion IsTextByte (path_text p)
text_bytes [] h = (inl refl, tt)
text_bytes (n ∷ p) h = names_bytes (n ∷ p) h

pub bad_byte : (text : List ℕ) (i : ℕ) → i < length text → (get_or text i 0 ≡ 47 → ⊥) → (IsNameByte (get_or text i 0) → ⊥) → IsPath (pieces text) → ⊥
bad_byte text i low slash name h =
    let all : AllByRecursion IsTextByte (47 ∷ text) = subst (AllByRecursion IsTextByte) (path_text-pieces text) (text_bytes (pieces text) h.names) in
    elim (All-from_recursion IsTextByte text all.1 i 0 low) [
      | inl e ↦ slash e
      | inr k ↦ name k
    ]

pub too_deep : (text : List ℕ) (start i depth : ℕ) → i < length text → get_or text i 0 ≡ 47 → 64 ≤ depth + 1 → Reads text start i depth → IsPath (pieces text) → ⊥
too_deep text start i depth low e deep h k =
    let here = piece_here text start i h.order low e h.bytes in
    omega (
      arith,
      h.path.2,
      ap length h.path.3,
      ap length here,
      length-append h.path.0 (pieces (drop start text)),
      length-slice_split (λ b. b == 47) (drop (i + 1) text),
      k.depth,
    )

pub no_name : (text : List ℕ) (start i depth : ℕ) → i < length text → get_or text i 0 ≡ 47 → (IsName (slice_range text start i) → ⊥) → Reads text start i depth → IsPath (pieces text) → ⊥
no_name text start i depth low e none h k =
    none (next_is_name h.path.0 (pieces (drop start text)) (pieces text) (pieces (drop (i + 1) text)) (slice_range text start i) (piece_here text start i h.order low e h.bytes) h.path.3 k)

pub refuses : (text : List ℕ) → (IsPath (pieces text) → ⊥) → IsTrue false ↔ IsPath (pieces text)
refuses text none = ((λ e. absurd (false≢true e)), (λ h. absurd (none h)))

-- ---- the last name

pub last_bytes : (text : List ℕ) (start i depth : ℕ) → length text ≤ i → Reads text start i depth → AllByRecursion IsNameByte (drop start text)
last_bytes text start i depth past h =
    let order = h.order in
    subst (AllByRecursion IsNameByte) (take_all (i - start) (drop start text) (omega (arith, length-drop start text))) h.bytes

pub last_name : (text : List ℕ) (start i depth : ℕ) (b : Bool) → length text ≤ i → (IsTrue b ↔ IsName (drop start text)) → Reads text start i depth → IsTrue b ↔ IsPath (pieces text)
last_name text start i depth b past told h =
    let n : List ℕ = drop start text in
    let p : Path = h.path.0 in
    let here : pieces n ≡ n ∷ [] = slice_split_none (λ c. c == 47) n (no_slash n (last_bytes text start i depth past h)) in
    let deep : length p < 64 = omega (arith, h.path.2, h.low) in
    let made : IsTrue b → IsPath (pieces text) = λ t.
    let after = one_more p (pieces n) (pieces text) [] n n (p ++ n ∷ []) h.path.1 deep (told.0 t) refl refl here h.path.3 in
    subst IsPath (sym (append-nil (p ++ n ∷ [])) ∙ after.1) after.0 in
    (made, λ k. told.1 (next_is_name p (pieces n) (pieces text) [] n here h.path.3 k))

-- ---- the text that is kept

-- one byte more is written
pub one_written : (f : ℕ → ℕ) (all bytes : List ℕ) (i b : ℕ) → i < length bytes → i < length all → b ≡ f (get_or bytes i 0) → take i bytes ≡ map f (take i all) → drop i bytes ≡ drop i all
    → (take (i + 1) (set bytes i b) ≡ map f (take (i + 1) all)) × (drop (i + 1) (set bytes i b) ≡ drop (i + 1) all)
one_written f all bytes i b low within e done left =
    let same : get_or bytes i 0 ∷ drop (i + 1) bytes ≡ get_or all i 0 ∷ drop (i + 1) all = sym (drop_more bytes i 0 low) ∙ left ∙ drop_more all i 0 within in
    let byte : get_or bytes i 0 ≡ get_or all i 0 = cc in
    let rest : drop (i + 1) bytes ≡ drop (i + 1) all = cc in (
      take_more_set bytes i b low ∙ (λ j. done j ++ (e ∙ ap f byte) j ∷ []) ∙ sym (ap (map f) (take_more all i 0 within) ∙ map-append f (take i all) (get_or all i 0 ∷ [])),
      drop-set-lt (i + 1) bytes i b (omega arith) ∙ rest,
    )

-- the bytes of a name stay
same_name : (f : ℕ → ℕ) → ((b : ℕ) → IsNameByte b → f b ≡ b) → (n rest : List ℕ) → AllByRecursion IsNameByte n → map f (n ++ rest) ≡ n ++ map f rest
same_name f same [] rest h = refl
same_name f same (b ∷ n) rest h = λ i. same b h.0 i ∷ same_name f same n rest h.1 i

same_marked : (b : ℕ) → IsNameByte b → marked b ≡ b
same_marked b h = rw (ne_eqb b 47 h.2) refl

same_slashed : (b : ℕ) → IsNameByte b → slashed b ≡ b
same_slashed b h = rw (ne_eqb b 0 h.0) refl

kept_names : (p : Path) → AllByRecursion IsName p → map marked (flat_map (λ m. 47 ∷ m) p) ≡ packed_text p
kept_names [] h = refl
kept_names (n ∷ p) h = ap (λ z. 0 ∷ z) (same_name marked same_marked n (flat_map (λ m. 47 ∷ m) p) h.0.bytes ∙ ap (λ z. n ++ z) (kept_names p h.1))

-- and back
pub slashed_names : (p : Path) → AllByRecursion IsName p → map slashed (packed_text p) ≡ flat_map (λ m. 47 ∷ m) p
slashed_names [] h = refl
slashed_names (n ∷ p) h = ap (λ z. 47 ∷ z) (same_name slashed same_slashed n (packed_text p) h.0.bytes ∙ ap (λ z. n ++ z) (slashed_names p h.1))

kept_path : (p : Path) → 0 < length p → AllByRecursion IsName p → map marked (path_text p) ≡ packed_text p
kept_path [] low h = absurd (omega arith)
kept_path (n ∷ p) low h = kept_names (n ∷ p) h

kept_text : (text : List ℕ) → IsPath (pieces text) → 0 ∷ map marked text ≡ packed_text (pieces text)
kept_text text h = sym (ap (map marked) (path_text-pieces text)) ∙ kept_path (pieces text) (omega (arith, length-slice_split (λ b. b == 47) text)) h.names

-- it is that of the path
pub kept_packed : (text : List ℕ) → IsPath (pieces text) → IsPacked (0 ∷ map marked text) × (names_in (0 ∷ map marked text) ≡ pieces text)
kept_packed text h =
    let same = kept_text text h in
    let back : names_in (packed_text (pieces text)) ≡ pieces text = names_in-packed_text (pieces text) h in
    let packed : IsPacked (packed_text (pieces text)) = record { start = start-packed_text (pieces text); path = subst IsPath (sym back) h } in
    (subst IsPacked (sym same) packed, ap names_in same ∙ back)

-- a list whose rest was written
pub rest_written : (old rest new post more all : List ℕ) (start len : ℕ) → all ≡ old ++ rest → start ≡ length old → len ≡ length all → length new ≡ length rest → take len ((take start all ++ (new ++ post)) ++ more) ≡ old ++ new
rest_written old rest new post more all start len ea es el en =
    let front : take start all ≡ old = (λ i. take (es i) (ea i)) ∙ take-append_seam old rest in
    let long : len ≡ length (old ++ new) = omega (arith, el, ap length ea, length-append old rest, length-append old new, en) in
    let whole : (take start all ++ (new ++ post)) ++ more ≡ (old ++ new) ++ (post ++ more) = ap (λ z. (z ++ (new ++ post)) ++ more) front ∙ ap (λ z. z ++ more) (sym (append_assoc old new post)) ∙ append_assoc (old ++ new) post more in
    (λ i. take (long i) (whole i)) ∙ take-append_seam (old ++ new) (post ++ more)

-- what is behind the old bytes
pub rest_is : (old rest all : List ℕ) (start : ℕ) → all ≡ old ++ rest → start ≡ length old → take (length all - start) (drop start all) ≡ rest
rest_is old rest all start ea es =
    let behind : drop start all ≡ rest = (λ i. drop (es i) (ea i)) ∙ drop-append_seam old rest in
    ap (take (length all - start)) behind ∙ take_all (length all - start) rest (omega (arith, ap length ea, length-append old rest))

-- ---- plain names

both_and : (a b c : Bool) → (a && (b && c)) ≡ ((a && b) && c)
both_and true b c = refl
both_and false b c = refl

plain_name : (n rest : List ℕ) → AllByRecursion IsNameByte n → list_all is_plain_or_zero (n ++ rest) ≡ (list_all is_plain_byte n && list_all is_plain_or_zero rest)
plain_name [] rest h = refl
plain_name (b ∷ n) rest h =
    let one : is_plain_or_zero b ≡ is_plain_byte b = rw (ne_eqb b 0 h.0.0) refl in
    (λ i. one i && plain_name n rest h.1 i) ∙ both_and (is_plain_byte b) (list_all is_plain_byte n) (list_all is_plain_or_zero rest)

pub plain_names : (p : Path) → AllByRecursion IsName p → list_all is_plain_or_zero (packed_text p) ≡ list_all (λ n. list_all is_plain_byte n) p
plain_names [] h = refl
plain_names (n ∷ p) h = plain_name n (packed_text p) h.0.bytes ∙ ap (λ z. list_all is_plain_byte n && z) (plain_names p h.1)
