-- Marks, and transactions with marks, are told apart.
use Rattle.std.proofs.Common.{◌≡◌, ℕ, nat_eq, true, [], ◌∷◌, refl, sym, ap, ◌∙◌}
use Rattle.std.proofs.lemmas.Bool.{false≢true, eqb-true, eq-eqb}
use Rattle.std.specs.Cmp.{IsTotalOrder, on_total}
use Rattle.std.specs.Cmp.Lexicographic.{lists_ties, pointwise, slice_cmp, texts_ties}
use Rattle.std.specs.FinMap.{IsAntisymmetric}
use Rattle.std.specs.Ordering.{nat_cmp}
use Rattle.cg_name.specs.Order.{path_cmp_total, path_cmp_exact}
use Rattle.cg_name.specs.Path.{Path, same_path}
use Rattle.cg_model.specs.Footprint.{Mark, X, S, N, Pid, Count}
use Rattle.cg_model_laws.proofs.Paths.{same_path-itself, same_path-is}
use Rattle.cg_locks.specs.Holdings.{holding_cmp, holding_text}
use Rattle.cg_locks.specs.Marks.{same_mark, text_mark, mark_back}

-- as the code compares paths
pub compared : (p q : Path) → pointwise (pointwise nat_eq) p q ≡ same_path p q
unfolding same_path
compared p q = lists_ties (slice_cmp nat_cmp) texts_ties p q

pub same_mark-itself : (m : Mark) → same_mark m m ≡ true
same_mark-itself (X p) = same_path-itself p
same_mark-itself (S p) = same_path-itself p
same_mark-itself (N p) = same_path-itself p
same_mark-itself (Pid k) = eq-eqb k k refl
same_mark-itself (Count p) = same_path-itself p

pub same_mark-is : (m n : Mark) → same_mark m n ≡ true → m ≡ n
same_mark-is (X p) (X q) e = ap X (same_path-is p q e)
same_mark-is (S p) (S q) e = ap S (same_path-is p q e)
same_mark-is (N p) (N q) e = ap N (same_path-is p q e)
same_mark-is (Pid k) (Pid l) e = ap Pid (eqb-true k l e)
same_mark-is (Count p) (Count q) e = ap Count (same_path-is p q e)
same_mark-is m n e = absurd (false≢true e)

-- a text of a transaction and a mark tells both
text_number : Path → ℕ
text_number ((k ∷ ks) ∷ p) = k
text_number _ = 0

text_rest : Path → Path
text_rest [] = []
text_rest (n ∷ p) = p

holding_of : Path → ℕ × Mark
holding_of p = (text_number p, text_mark (text_rest p))

holding_back : (h : ℕ × Mark) → holding_of (holding_text h) ≡ h
unfolding holding_of text_number text_rest
holding_back h = λ i. (h.0, mark_back h.1 i)

pub holding_cmp_total : IsTotalOrder holding_cmp
holding_cmp_total = on_total holding_text path_cmp_total

pub holding_cmp_exact : IsAntisymmetric holding_cmp
holding_cmp_exact a b e = sym (holding_back a) ∙ ap holding_of (path_cmp_exact (holding_text a) (holding_text b) e) ∙ holding_back b
