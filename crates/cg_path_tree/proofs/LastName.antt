-- A path's text without its last name.
use Rattle.std.proofs.Common.{◌≡◌, ◌≢◌, ℕ, suc, ◌+◌, ◌-◌, ◌<◌, cond, List, [], ◌∷◌, ◌++◌, length, get_or, take, drop, refl, sym, ap, ◌∙◌, arith, length-append, length-drop, get_or-drop, drop-cons}
use Rattle.std.specs.List.{count_by}
use Rattle.std.proofs.Math.Seq.{take-append_seam}
use Rattle.std.proofs.lemmas.Option.{slice_get_within, get_or_from_slice_get}
use borrow.Author.Tests.{ne_eqb}
use Rattle.cg_name.specs.Path.{Path}
use Rattle.cg_name.specs.Packed.{names_in, IsPacked}
use Rattle.cg_name.proofs.Packing.{is_zero, length-names_in, start_at, names_in-cut, packed-take}
use Rattle.cg_path_tree.specs.Nodes.{parent_path}
use Rattle.cg_path_tree.proofs.Parents.{count-cons, count_none}

-- behind its zero byte the last name has none
one_zero : (bs : List ℕ) (i : ℕ) → i < length bs → get_or bs i 0 ≡ 0 → ((k : ℕ) → i < k → k < length bs → get_or bs k 0 ≢ 0) → count_by is_zero (drop i bs) ≡ 1
one_zero bs i low here behind =
    let none : count_by is_zero (drop (suc i) bs) ≡ 0 = count_none is_zero (drop (suc i) bs) (λ j x h.
    let within : j < length (drop (suc i) bs) = slice_get_within (drop (suc i) bs) j x h in
    let is : get_or bs (suc i + j) 0 ≡ x = sym (get_or-drop (suc i) bs j 0) ∙ get_or_from_slice_get (drop (suc i) bs) j x 0 h in
    ne_eqb x 0 (λ zeroed. behind (suc i + j) (omega arith) (omega (arith, length-drop (suc i) bs)) (is ∙ zeroed))) in
    ap (count_by is_zero) (drop-cons bs i 0 low)
    ∙ count-cons is_zero (get_or bs i 0) (drop (suc i) bs)
    ∙ ap (λ b. cond (is_zero b) 1 0 + count_by is_zero (drop (suc i) bs)) here
    ∙ ap (λ n. 1 + n) none

-- all names but the one behind
all_but_one : (q r : Path) → length r ≡ 1 → parent_path (q ++ r) ≡ q
all_but_one q r one =
    let short : length (q ++ r) - 1 ≡ length q = omega (arith, length-append q r) in
    ap (λ n. take n (q ++ r)) short ∙ take-append_seam q r

pub before_last : (bs : List ℕ) (i : ℕ) → i < length bs → get_or bs i 0 ≡ 0 → ((k : ℕ) → i < k → k < length bs → get_or bs k 0 ≢ 0) → names_in (take i bs) ≡ parent_path (names_in bs)
before_last bs i low here behind =
    sym (ap parent_path (names_in-cut bs i (start_at bs i low here))
    ∙ all_but_one (names_in (take i bs)) (names_in (drop i bs)) (length-names_in (drop i bs) ∙ one_zero bs i low here behind))

-- a text with no zero byte is the root's
pub no_last : (bs : List ℕ) → IsPacked bs → ((k : ℕ) → k < length bs → get_or bs k 0 ≢ 0) → names_in (take 0 bs) ≡ parent_path (names_in bs)
no_last [] h none = refl
no_last (b ∷ bs) h none = absurd (none 0 (omega arith) h.start)

pub packed_before : (bs : List ℕ) (i : ℕ) → IsPacked bs → names_in (take i bs) ≡ parent_path (names_in bs) → IsPacked (take i bs)
packed_before bs i h is = packed-take bs i (length (names_in bs) - 1) h is
