-- Paths on the way down to another, and the next one on it.
use Rattle.std.proofs.Common.{◌≡◌, ◌≢◌, ◌<◌, suc, ◌&&◌, Bool, true, false, [], ◌∷◌, length, refl, sym, ap, ◌∙◌, arith}
use Rattle.std.proofs.lemmas.Bool.{and_from, and_parts, false≢true}
use Rattle.std.proofs.Math.Bool.{and-false}
use Rattle.cg_name.specs.Name.{same_name}
use Rattle.cg_name.specs.Path.{Path, is_above, is_parent, is_prefix}
use Rattle.cg_name.proofs.Packing.{same_name-is, same_name-itself}
use Rattle.cg_tree.proofs.Climbing.{root_only}

-- ---- a path begins with itself, and with what is above it

pub begins_itself : (p : Path) → is_prefix p p ≡ true
begins_itself [] = refl
begins_itself (n ∷ p) = λ i. same_name-itself n i && begins_itself p i

pub begins_by_above : (q p : Path) → q ≢ p → is_prefix q p ≡ is_above q p
begins_by_above [] [] ne = absurd (ne refl)
begins_by_above [] (m ∷ p) ne = refl
begins_by_above (k ∷ q) [] ne = refl
begins_by_above (k ∷ q) (m ∷ p) ne = elim (same_name k m) as (λ b. same_name k m ≡ b → b && is_prefix q p ≡ b && is_above q p) [
  | true ↦ λ e. begins_by_above q p (λ f. ne (λ i. same_name-is k m e i ∷ f i))
  | false ↦ λ e. refl
] refl

-- ---- the next one

-- one name longer than q, where that is above p
abbrev pub next : Path → Path → Path
next q [] = []
next [] (m ∷ p) = m ∷ []
next (k ∷ q) (m ∷ p) = m ∷ next q p

pub next_begins : (q p : Path) → is_prefix (next q p) p ≡ true
next_begins q [] = refl
next_begins [] (m ∷ p) = and_from _ _ (same_name-itself m) refl
next_begins (k ∷ q) (m ∷ p) = and_from _ _ (same_name-itself m) (next_begins q p)

pub next_child : (q p : Path) → is_above q p ≡ true → is_parent q (next q p) ≡ true
next_child q [] h = absurd (false≢true h)
next_child [] (m ∷ p) h = refl
next_child (k ∷ q) (m ∷ p) h = let both = and_parts (same_name k m) (is_above q p) h in and_from _ _ both.0 (next_child q p both.1)

pub longer_next : (q p : Path) → is_above q p ≡ true → length (next q p) ≡ suc (length q)
longer_next q [] h = absurd (false≢true h)
longer_next [] (m ∷ p) h = refl
longer_next (k ∷ q) (m ∷ p) h = ap suc (longer_next q p (and_parts (same_name k m) (is_above q p) h).1)

pub shorter_above : (q p : Path) → is_above q p ≡ true → length q < length p
shorter_above q [] h = absurd (false≢true h)
shorter_above [] (m ∷ p) h = omega arith
shorter_above (k ∷ q) (m ∷ p) h = let rest = shorter_above q p (and_parts (same_name k m) (is_above q p) h).1 in omega (arith, rest)

-- each other path right below q is on another way
pub only_next : (q c p : Path) → is_parent q c ≡ true → is_prefix c p ≡ true → (c ≡ next q p) × (is_above q p ≡ true)
only_next q [] p h b = absurd (false≢true h)
only_next q (m ∷ c) [] h b = absurd (false≢true b)
only_next [] (m ∷ c) (l ∷ p) h b =
    let same = same_name-is m l (and_parts (same_name m l) (is_prefix c p) b).0 in
    let end = root_only c h in
    (λ i. same i ∷ end i, refl)
only_next (k ∷ q) (m ∷ c) (l ∷ p) h b =
    let down = and_parts (same_name k m) (is_parent q c) h in
    let both = and_parts (same_name m l) (is_prefix c p) b in
    let same = same_name-is m l both.0 in
    let rest = only_next q c p down.1 both.1 in
    (λ i. same i ∷ rest.0 i, and_from _ _ (ap (same_name k) (sym same) ∙ down.0) rest.1)

pub above_child_of : (s q c : Path) → is_prefix s q ≡ true → is_parent q c ≡ true → is_above s c ≡ true
above_child_of s q [] b h = absurd (false≢true h)
above_child_of [] q (m ∷ c) b h = refl
above_child_of (k ∷ s) [] (m ∷ c) b h = absurd (false≢true b)
above_child_of (k ∷ s) (l ∷ q) (m ∷ c) b h =
    let both = and_parts (same_name k l) (is_prefix s q) b in
    let down = and_parts (same_name l m) (is_parent q c) h in
    and_from _ _ (ap (same_name k) (sym (same_name-is l m down.0)) ∙ both.0) (above_child_of s q c both.1 down.1)

-- of two paths on the way down to p, one that isn't at q or above it begins with the next after q
pub next_on_way : (q s p : Path) → is_prefix q p ≡ true → is_prefix s p ≡ true → is_prefix s q ≡ false → is_prefix (next q p) s ≡ true
next_on_way q [] p a b off = absurd (false≢true (sym off))
next_on_way q (l ∷ s) [] a b off = absurd (false≢true b)
next_on_way [] (l ∷ s) (m ∷ p) a b off =
    let same = same_name-is l m (and_parts (same_name l m) (is_prefix s p) b).0 in
    and_from _ _ (ap (same_name m) same ∙ same_name-itself m) refl
next_on_way (k ∷ q) (l ∷ s) (m ∷ p) a b off =
    let up = and_parts (same_name k m) (is_prefix q p) a in
    let down = and_parts (same_name l m) (is_prefix s p) b in
    let same = same_name-is l m down.0 in
    let here : same_name l k ≡ true = ap (λ x. same_name x k) (same ∙ sym (same_name-is k m up.0)) ∙ same_name-itself k in
    and_from _ _ (ap (same_name m) same ∙ same_name-itself m) (next_on_way q s p up.1 down.1 (ap (λ x. x && is_prefix s q) (sym here) ∙ off))

-- of the paths on the way down to p, those below a path are those that begin with the one right below it
pub below_is_from_child : (q r c p : Path) → is_parent r c ≡ true → is_prefix c p ≡ true → is_prefix q p ≡ true → is_above r q ≡ is_prefix c q
below_is_from_child q r [] p h b a = absurd (false≢true h)
below_is_from_child q r (m ∷ c) [] h b a = absurd (false≢true b)
below_is_from_child [] [] (m ∷ c) (l ∷ p) h b a = refl
below_is_from_child [] (k ∷ r) (m ∷ c) (l ∷ p) h b a = refl
below_is_from_child (n ∷ q) [] (m ∷ c) (l ∷ p) h b a =
    let mine = and_parts (same_name m l) (is_prefix c p) b in
    let here = and_parts (same_name n l) (is_prefix q p) a in
    let same : same_name m n ≡ true = ap (same_name m) (same_name-is n l here.0) ∙ mine.0 in
    sym (and_from _ _ same (ap (λ x. is_prefix x q) (root_only c h)))
below_is_from_child (n ∷ q) (k ∷ r) (m ∷ c) (l ∷ p) h b a =
    let down = and_parts (same_name k m) (is_parent r c) h in
    let mine = and_parts (same_name m l) (is_prefix c p) b in
    let here = and_parts (same_name n l) (is_prefix q p) a in
    (λ i. same_name (same_name-is k m down.0 i) n && below_is_from_child q r c p down.1 mine.1 here.1 i)

pub parent_begins : (r c p : Path) → is_parent r c ≡ true → is_prefix c p ≡ true → is_prefix r p ≡ true
parent_begins r [] p h b = absurd (false≢true h)
parent_begins [] (m ∷ c) p h b = refl
parent_begins (k ∷ r) (m ∷ c) [] h b = absurd (false≢true b)
parent_begins (k ∷ r) (m ∷ c) (l ∷ p) h b =
    let down = and_parts (same_name k m) (is_parent r c) h in
    let mine = and_parts (same_name m l) (is_prefix c p) b in
    and_from _ _ (ap (λ x. same_name x l) (same_name-is k m down.0) ∙ mine.0) (parent_begins r c p down.1 mine.1)

-- nothing is on the way from a path down to itself
pub none_between : (p q : Path) → (is_above p q && is_prefix q p) ≡ false
none_between p [] = refl
none_between [] (m ∷ q) = refl
none_between (k ∷ p) (m ∷ q) = by (same_name k m) (same_name m k) (none_between p q)
  where
    by : (a b : Bool) → (is_above p q && is_prefix q p) ≡ false → ((a && is_above p q) && (b && is_prefix q p)) ≡ false
    by true true rest = rest
    by true false rest = and-false (is_above p q)
    by false b rest = refl
