-- The marks on numbers of descendants, path by path.
use Rattle.std.proofs.Common.{◌≡◌, ℕ, zero, suc, ◌<◌, ◌≤◌, cond, true, false, List, [], ◌∷◌, ◌++◌, drop, length, take, Option, Some, None, refl, sym, ap, ◌∙◌, arith}
use Rattle.std.proofs.lemmas.List.{append_assoc, append-nil, take-take}
use Rattle.cg_command.proofs.Above.{next_along, end_along}
use Rattle.cg_locks.specs.Counts.{counts_at, limited_depths, prefixes, AreDescending}
use Rattle.cg_name.specs.Path.{Path, along}
use Rattle.cg_model.specs.Footprint.{Mark, Count, count_of, counts, is_finite, is_limited, joined_marks}
use Rattle.cg_model.specs.Tree.{Tree, group}
use Rattle.cg_text.specs.declared.settings.Settings.{Settings}
use Rattle.cg_tree.specs.Ancestors.{ancestor_at, ancestors_above, downward}
use Rattle.cg_tree.specs.declared.ancestors.Ancestor.{Ancestor}
use Rattle.cg_tree.specs.Unlimited.{AreUnlimited}

-- those of groups above a path that come the deepest first: that of the last one first
abbrev counts_upward : Path → List Ancestor → List Mark
counts_upward p [] = []
counts_upward p (a ∷ rest) = counts_upward p rest ++ count_of (take a.depth p) a.settings

-- those of the paths above p that have n names or more
abbrev counts_from : Tree → Path → ℕ → List Mark
counts_from T p n = joined_marks (drop n (along (λ a. count_of a (group T a)) p))

counted_so_far : (T : Tree) (p : Path) (n : ℕ) → n ≤ length p → counts_upward p (downward (ancestor_at T p) n) ++ counts_from T p n ≡ counts T p
counted_so_far T p zero h = refl
counted_so_far T p (suc n) h =
    let above = counts_upward p (downward (ancestor_at T p) n) in
    append_assoc above (count_of (take n p) (group T (take n p))) (counts_from T p (suc n))
    ∙ ap (λ x. above ++ joined_marks x) (sym (next_along (λ a. count_of a (group T a)) p n (omega (arith, h))))
    ∙ counted_so_far T p n (omega (arith, h))

all_counted : (T : Tree) (p : Path) → counts_upward p (ancestors_above T p) ≡ counts T p
all_counted T p =
    sym (append-nil (counts_upward p (ancestors_above T p)))
    ∙ ap (λ x. counts_upward p (ancestors_above T p) ++ joined_marks x) (sym (end_along (λ a. count_of a (group T a)) p))
    ∙ counted_so_far T p (length p) (omega arith)

-- ---- told by how many names the paths have

pub still_descending : (m n : ℕ) (ds : List ℕ) → m ≤ n → AreDescending m ds → AreDescending n ds
still_descending m n [] low h = tt
still_descending m n (d ∷ ds) low h = let first : d < m = h.0 in (omega (arith, low, first), h.1)

-- what a path begins with, what its first names begin with
pub prefixes_from : (p : Path) (d : ℕ) (ds : List ℕ) → AreDescending d ds → prefixes (take d p) ds ≡ prefixes p ds
prefixes_from p d [] h = refl
prefixes_from p d (e ∷ es) h = let first : e < d = h.0 in ap (λ q. q ∷ prefixes q es) (take-take e d p (omega (arith, first)))

pub prefixes_same : (p : Path) (d : ℕ) (ds : List ℕ) → prefixes (take d p) (d ∷ ds) ≡ prefixes p (d ∷ ds)
prefixes_same p d ds = ap (λ q. q ∷ prefixes q ds) (take-take d d p (omega arith))

pub limited_descending : (T : Tree) (p : Path) (n : ℕ) → AreDescending n (limited_depths (downward (ancestor_at T p) n))
limited_descending T p zero = tt
limited_descending T p (suc n) =
    let rest = limited_depths (downward (ancestor_at T p) n) in
    let below : AreDescending n rest = limited_descending T p n in
    elim (is_limited (group T (take n p))) as (λ b. AreDescending (suc n) (cond b (n ∷ rest) rest)) [
      | true ↦ (omega arith, below)
      | false ↦ still_descending n (suc n) rest (omega arith) below
    ]

limited_counted : (T : Tree) (p : Path) (n : ℕ) → counts_at (prefixes p (limited_depths (downward (ancestor_at T p) n))) ≡ counts_upward p (downward (ancestor_at T p) n)
limited_counted T p zero = refl
limited_counted T p (suc n) =
    let rest = limited_depths (downward (ancestor_at T p) n) in
    let before : counts_at (prefixes p rest) ≡ counts_upward p (downward (ancestor_at T p) n) = limited_counted T p n in
    let from : prefixes (take n p) rest ≡ prefixes p rest = prefixes_from p n rest (limited_descending T p n) in
    elim (is_limited (group T (take n p))) as (λ b. counts_at (prefixes p (cond b (n ∷ rest) rest)) ≡ counts_upward p (downward (ancestor_at T p) n) ++ cond b (Count (take n p) ∷ []) []) [
      | true ↦ ap (λ ms. ms ++ Count (take n p) ∷ []) (ap counts_at from ∙ before)
      | false ↦ before ∙ sym (append-nil (counts_upward p (downward (ancestor_at T p) n)))
    ]

pub all_limited : (T : Tree) (p : Path) → counts_at (prefixes p (limited_depths (ancestors_above T p))) ≡ counts T p
all_limited T p = limited_counted T p (length p) ∙ all_counted T p

-- ---- where no group has a limit there are none

none_joined : (f : Path → List Mark) → ((q : Path) → f q ≡ []) → (p : Path) → joined_marks (along f p) ≡ []
none_joined f none [] = refl
none_joined f none (m ∷ p) = ap (λ x. x ++ joined_marks (along (λ q. f (m ∷ q)) p)) (none []) ∙ none_joined (λ q. f (m ∷ q)) (λ q. none (m ∷ q)) p

pub none_counted : (T : Tree) → AreUnlimited T.groups → (p : Path) → counts T p ≡ []
none_counted T free p = none_joined (λ a. count_of a (group T a)) (λ q. by q (group T q) refl) p
  where
    by : (q : Path) (o : Option Settings) → group T q ≡ o → count_of q (group T q) ≡ []
    by q None e = ap (count_of q) e
    by q (Some s) e = ap (count_of q) e ∙ ap (λ l. cond (is_finite l) (Count q ∷ []) []) (free q s e).descendants
