-- Words of slashes and simple bytes, and the paths that they spell.
use Rattle.std.proofs.Common.{◌≡◌, ℕ, suc, ◌+◌, ◌-◌, ◌*◌, ◌<◌, ◌≤◌, ◌==◌, ◌&&◌, ◌||◌, Bool, true, false, not, cond, List, [], ◌∷◌, length, map, get_or, inl, inr, refl, sym, ap, subst, ◌∙◌, arith}
use Rattle.std.proofs.lemmas.List.Sums.{count_by-le-length, sum_by-cons}
use Rattle.std.proofs.lemmas.List.Splits.{length-slice_split}
use Rattle.std.specs.List.{count_by, AllByRecursion, Contains, list_all, list_any, onto_first}
use Rattle.std.specs.Str.{IsAscii}
use Rattle.std.proofs.lemmas.Bool.{and_parts, and_from, cases_Bool, cond-true, cond-false, not-true, eqb-true, false≢true}
use Rattle.std.proofs.lemmas.Bool.Decides.{nat_tests}
use Rattle.std.proofs.lemmas.List.{nil_from_length}
use Rattle.std.proofs.lemmas.List.Recursion.{and_at}
use Rattle.std.proofs.lemmas.Str.{IsUtf8-from_ascii}
use Rattle.std.proofs.lemmas.Str.Ascii.{IsAscii-nil, IsAscii-cons}
use Rattle.cg_name.specs.Name.{IsName, IsNameByte, reserved_names}
use Rattle.cg_name.specs.Packed.{names_in, IsPacked}
use Rattle.cg_name.specs.Path.{Path, IsPath, SpellsPath}
use Rattle.cg_name.specs.Simple.{is_simple_byte, is_slash, simple_text, may_follow, GoesOn}
use Rattle.cg_name.specs.Pieces.{pieces, marked}
use Rattle.cg_name.specs.Word.{is_bare_byte, IsBare}
use Rattle.cg_name.proofs.Pieces.{path_text-pieces}
use Rattle.cg_name.proofs.Slashes.{kept_packed}

-- ---- a simple byte

is_name_byte : (b : ℕ) → is_simple_byte b ≡ true → IsNameByte b
is_name_byte b h = ((λ e. false≢true (sym (ap is_simple_byte e) ∙ h)), (λ e. false≢true (sym (ap is_simple_byte e) ∙ h)), (λ e. false≢true (sym (ap is_simple_byte e) ∙ h)))

is_bare : (b : ℕ) → is_simple_byte b ≡ true → is_bare_byte b ≡ true
is_bare b h = grind (arith, nat_tests)

is_low : (b : ℕ) → is_simple_byte b ≡ true → b < 128
is_low b h = grind (arith, nat_tests)

no_slash : (b : ℕ) → is_simple_byte b ≡ true → (b == 47) ≡ false
no_slash b h = grind (arith, nat_tests)

no_dot : (b : ℕ) → is_simple_byte b ≡ true → (b == 46) ≡ false
no_dot b h = grind (arith, nat_tests)

-- ---- the names

abbrev AllSimple : List ℕ → Type 0
AllSimple = AllByRecursion (λ b. is_simple_byte b ≡ true)

ascii : (n : List ℕ) → AllSimple n → IsAscii n
ascii [] h = IsAscii-nil
ascii (b ∷ n) h = IsAscii-cons b n (is_low b h.0) (ascii n h.1)

name_bytes : (n : List ℕ) → AllSimple n → AllByRecursion IsNameByte n
name_bytes [] h = tt
name_bytes (b ∷ n) h = (is_name_byte b h.0, name_bytes n h.1)

abbrev has_dot : List ℕ → Bool
has_dot n = list_any (λ b. b == 46) n

undotted : (n : List ℕ) → AllSimple n → has_dot n ≡ false
undotted [] h = refl
undotted (b ∷ n) h = (λ i. no_dot b h.0 i || has_dot n) ∙ undotted n h.1

reserved_dots : list_all has_dot reserved_names ≡ true
reserved_dots = refl

-- each reserved name has a dot
is_free : (n : List ℕ) → AllSimple n → Contains reserved_names n → ⊥
is_free n h (k, low, e) =
    let dot : has_dot (get_or reserved_names k n) ≡ true = and_at (list_all has_dot) has_dot refl (λ x xs. refl) reserved_names k n low reserved_dots in
    false≢true (sym (undotted n h) ∙ sym (ap has_dot e) ∙ dot)

-- simple bytes, some and at most that many
abbrev IsShort : ℕ → List ℕ → Type 0
IsShort k n = AllSimple n × (0 < length n) × (length n ≤ k)

short_name : (k : ℕ) (n : List ℕ) → k ≤ 255 → IsShort k n → IsName n
short_name k n few h = record {
  nonempty = h.1;
  short = omega (arith, few, h.2);
  text = IsUtf8-from_ascii n (ascii n h.0);
  bytes = name_bytes n h.0;
  free = is_free n h.0;
}

short_names : (k : ℕ) (p : Path) → k ≤ 255 → AllByRecursion (IsShort k) p → AllByRecursion IsName p
short_names k [] few h = tt
short_names k (n ∷ p) few h = (short_name k n few h.0, short_names k p few h.1)

-- the first piece may be the rest of a name, and the others are names
abbrev Parts : Bool → ℕ → ℕ → Path → Type 0
Parts w k m [] = ⊥
Parts true k m (n ∷ ns) = IsShort m n × AllByRecursion (IsShort k) ns
Parts false k m (n ∷ ns) = AllSimple n × (length n ≤ m) × AllByRecursion (IsShort k) ns

one_longer : (w : Bool) (k m b : ℕ) (ps : Path) → is_simple_byte b ≡ true → Parts false k m ps → Parts w k (suc m) (onto_first b ps)
one_longer w k m b [] s h = absurd h
one_longer true k m b (n ∷ ns) s h = (((s, h.0), omega arith, omega (arith, h.1)), h.2)
one_longer false k m b (n ∷ ns) s h = ((s, h.0), omega (arith, h.1), h.2)

wider : (k m : ℕ) (ps : Path) → m ≤ k → Parts true k m ps → AllByRecursion (IsShort k) ps
wider k m [] low h = absurd h
wider k m (n ∷ ns) low h = ((h.0.0, h.0.1, omega (arith, low, h.0.2)), h.1)

parts : (w : Bool) (k : ℕ) (bs : List ℕ) → length bs ≤ k → simple_text w bs ≡ true → Parts w k (length bs) (pieces bs)
parts true k [] low h = absurd (false≢true h)
parts false k [] low h = (tt, omega arith, tt)
parts w k (b ∷ bs) low h = elim (cases_Bool (is_simple_byte b)) [
  | inl simple ↦
      let left : simple_text false bs ≡ true = sym (cond-true _ _ _ simple) ∙ h in
      let more = parts false k bs (omega (arith, low)) left in
      rw (no_slash b simple) (one_longer w k (length bs) b (pieces bs) simple more)
  | inr other ↦
      let tests : ((b == 47) && not w && simple_text true bs) ≡ true = sym (cond-false _ _ _ other) ∙ h in
      let front = and_parts ((b == 47) && not w) (simple_text true bs) tests in
      let slash = and_parts (b == 47) (not w) front.0 in
      let more = parts true k bs (omega (arith, low)) front.1 in
      rw (slash.0, not-true w slash.1) (tt, omega arith, wider k (length bs) (pieces bs) (omega (arith, low)) more)
]

simple_path : (text : List ℕ) → length text ≤ 255 → count_by is_slash text < 64 → simple_text true text ≡ true → IsPath (pieces text)
simple_path text low few h = record {
  names = short_names 255 (pieces text) (omega arith) (wider 255 (length text) (pieces text) low (parts true 255 text low h));
  depth = omega (arith, few, length-slice_split is_slash text);
}

bare_bytes : (w : Bool) (bs : List ℕ) → simple_text w bs ≡ true → list_all is_bare_byte bs ≡ true
bare_bytes w [] h = refl
bare_bytes w (b ∷ bs) h = elim (cases_Bool (is_simple_byte b)) [
  | inl simple ↦ and_from (is_bare_byte b) (list_all is_bare_byte bs) (is_bare b simple) (bare_bytes false bs (sym (cond-true _ _ _ simple) ∙ h))
  | inr other ↦
      let tests : ((b == 47) && not w && simple_text true bs) ≡ true = sym (cond-false _ _ _ other) ∙ h in
      let front = and_parts ((b == 47) && not w) (simple_text true bs) tests in
      let slash : b ≡ 47 = eqb-true b 47 (and_parts (b == 47) (not w) front.0).0 in
      and_from (is_bare_byte b) (list_all is_bare_byte bs) (ap is_bare_byte slash) (bare_bytes true bs front.1)
]

-- ---- a word that goes on

-- behind a byte of a text that goes on, and ends with no slash, what is left is simple
pub rest_simple : (b : ℕ) (bs : List ℕ) → GoesOn (b ∷ bs) → is_slash (get_or (b ∷ bs) (length bs) 0) ≡ false → simple_text (is_slash b) bs ≡ true
rest_simple b [] on last = ap not last
rest_simple b (c ∷ cs) on last =
    let more : simple_text (is_slash c) cs ≡ true = rest_simple c cs (λ k low. on (suc k) (omega (arith, low))) last in
    let here : may_follow b c ≡ true = on 0 (omega arith) in
    elim (cases_Bool (is_simple_byte c)) [
      | inl simple ↦ cond-true _ _ _ simple ∙ (λ i. simple_text (sym (no_slash c simple) i) cs) ∙ more
      | inr other ↦
          let slash : (is_slash c && not (is_slash b)) ≡ true = (λ i. sym other i || (is_slash c && not (is_slash b))) ∙ here in
          let both = and_parts (is_slash c) (not (is_slash b)) slash in
          cond-false _ _ _ other ∙ and_from ((c == 47) && not (is_slash b)) (simple_text true cs) slash ((λ i. simple_text (sym both.0 i) cs) ∙ more)
    ]

begun_simple : (text : List ℕ) → 0 < length text → is_simple_byte (get_or text 0 0) ≡ true → GoesOn text → is_slash (get_or text (length text - 1) 0) ≡ false → simple_text true text ≡ true
begun_simple [] some first on last = absurd (omega (arith, some))
begun_simple (b ∷ bs) some first on last =
    cond-true _ _ _ first ∙ (λ i. simple_text (sym (no_slash b first) i) bs) ∙ rest_simple b bs on ((λ i. is_slash (get_or (b ∷ bs) (end i) 0)) ∙ last)
  where
    end : length bs ≡ length (b ∷ bs) - 1
    end = omega arith

-- of each two bytes one is no slash
slashes_apart : (w : Bool) (bs : List ℕ) → simple_text w bs ≡ true → 2 * count_by is_slash bs + cond w 1 0 ≤ length bs
slashes_apart true [] h = absurd (false≢true h)
slashes_apart false [] h = omega arith
slashes_apart w (b ∷ bs) h = elim (cases_Bool (is_simple_byte b)) [
  | inl simple ↦
      let left = slashes_apart false bs (sym (cond-true _ _ _ simple) ∙ h) in
      rw (no_slash b simple) (elim w as (λ v. 2 * count_by is_slash bs + cond v 1 0 ≤ suc (length bs)) [ true ↦ omega (arith, left) | false ↦ omega (arith, left) ])
  | inr other ↦
      let tests : ((b == 47) && not w && simple_text true bs) ≡ true = sym (cond-false _ _ _ other) ∙ h in
      let front = and_parts ((b == 47) && not w) (simple_text true bs) tests in
      let slash = and_parts (b == 47) (not w) front.0 in
      let left = slashes_apart true bs front.1 in
      let count : count_by is_slash (b ∷ bs) ≡ 1 + count_by is_slash bs = sum_by-cons (λ x. cond (is_slash x) 1 0) b bs ∙ (λ i. cond (slash.0 i) 1 0 + count_by is_slash bs) in
      subst (λ v. 2 * count_by is_slash (b ∷ bs) + cond v 1 0 ≤ suc (length bs)) (sym (not-true w slash.1)) (omega (arith, left, count))
]

-- so a short text has few
pub few_in_short : (text : List ℕ) → length text < 128 → simple_text true text ≡ true → count_by is_slash text < 64
few_in_short text low h = omega (arith, low, slashes_apart true text h)

-- ---- the path

pub simple_names : (text : List ℕ) → length text ≤ 255 → 0 < length text → is_simple_byte (get_or text 0 0) ≡ true → GoesOn text → is_slash (get_or text (length text - 1) 0) ≡ false → (simple_text true text ≡ true → count_by is_slash text < 64)
    → IsPath (pieces text) × (list_all is_bare_byte text ≡ true)
simple_names text low some first on last few =
    let simple = begun_simple text some first on last in
    (simple_path text low (few simple) simple, bare_bytes true text simple)

spells_itself : (text : List ℕ) → list_all is_bare_byte text ≡ true → IsPath (pieces text) → SpellsPath (47 ∷ text) (pieces text)
spells_itself text bare path = (path, inl (record { nonempty = omega arith; bytes = bare }, path_text-pieces text))

-- a bare word spells the path between its slashes
pub names_spelled : (word text : List ℕ) (p : Path) → word ≡ 47 ∷ text → IsPath (pieces text) × (list_all is_bare_byte text ≡ true) → p ≡ pieces text → SpellsPath word p
names_spelled word text p ew h e = subst (λ v. SpellsPath v p) (sym ew) (subst (SpellsPath (47 ∷ text)) (sym e) (spells_itself text h.1 h.0))

-- a short word that is simple is kept as the path that it spells
pub short_spelled : (word text bytes : List ℕ) → word ≡ 47 ∷ text → length text < 12 → simple_text true text ≡ true → bytes ≡ 0 ∷ map marked text → IsPacked bytes × SpellsPath word (names_in bytes)
short_spelled word text bytes ew few simple is =
    let path : IsPath (pieces text) = simple_path text (omega (arith, few)) (omega (arith, few, count_by-le-length is_slash text)) simple in
    let packed = kept_packed text path in
    let names : names_in bytes ≡ pieces text = ap names_in is ∙ packed.1 in
    (subst IsPacked (sym is) packed.0, names_spelled word text (names_in bytes) ew (path, bare_bytes true text simple) names)

-- the root is a slash alone
pub root_spelled : (word text : List ℕ) → word ≡ 47 ∷ text → length text ≡ 0 → IsPacked [] × SpellsPath word (names_in [])
root_spelled word text ew e =
    let root : IsPath [] = record { names = tt; depth = omega arith } in
    let slash : word ≡ 47 ∷ [] = ew ∙ ap (λ z. 47 ∷ z) (nil_from_length text e) in
    let bare : IsBare (47 ∷ []) = record { nonempty = omega arith; bytes = refl } in
    let spells : SpellsPath (47 ∷ []) [] = (root, inl (bare, refl)) in
    (record { start = tt; path = root }, subst (λ v. SpellsPath v []) (sym slash) spells)
