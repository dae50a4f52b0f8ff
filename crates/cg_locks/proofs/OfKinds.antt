-- The holders of the marks of one kind, changed.
use Rattle.std.proofs.Common.{◌≡◌, ℕ, ◌+◌, ◌<◌, ◌==◌, ◌&&◌, List, refl, sym, ap, subst, ◌∙◌, arith}
use Rattle.cg_name.specs.Path.{Path}
use Rattle.cg_model.specs.Footprint.{Mark, X, S, N, Pid, Count}
use Rattle.cg_locks.specs.declared.shared_marks.SharedMarks.TheInside.{Inside}
use Rattle.cg_locks.specs.declared.mark.Mark as rust
use Rattle.cg_locks.specs.declared.held.Kind.{Kind}
use Rattle.cg_locks.specs.declared.held.Kind.TheVariants as kinds_of
use Rattle.cg_locks.specs.Held.{Marked, IsMarkedAlike, IsMarkedMore}
use Rattle.cg_locks.specs.Holders.{Counts, held_for, one}
use Rattle.cg_locks.specs.Holdings.{Holdings, holdings}
use Rattle.cg_locks.specs.Marks.{same_mark}
use Rattle.cg_locks.specs.Meaning.{mark_of}
use Rattle.cg_locks.specs.Single.{IsHeldOnceMore}
use Rattle.cg_locks.specs.Table.{by_kind, ByKind, count_of, table_of}
use Rattle.cg_locks.proofs.Tables.{more_told, told_of}

abbrev pub kinds : Inside → ByKind
kinds t = by_kind t.marks t.processes.entries

-- what the maps say of what the mark of the code means, the table tells
pub count_told : (K : ByKind) (H : Holdings) → table_of K ≡ H → (t n : ℕ) (x : rust.Mark) (m : Mark) → mark_of x ≡ m → n ≡ count_of K t m → n ≡ holdings H t (mark_of x)
count_told K H view t n x m means is = is ∙ sym (told_of K H view t m) ∙ ap (holdings H t) (sym means)

pub count_there : (K : ByKind) (H : Holdings) → table_of K ≡ H → (t : ℕ) (x : rust.Mark) (m : Mark) → mark_of x ≡ m → 0 < holdings H t (mark_of x) → 0 < count_of K t m
count_there K H view t x m means low = subst (λ n. 0 < n) (ap (holdings H t) means ∙ told_of K H view t m) low

-- one mark more of its kind, and none of another
abbrev pub IsCountMore : ByKind → Mark → ℕ → ByKind → Type 0
IsCountMore K n t L = (u : ℕ) (m : Mark) → count_of L u m ≡ count_of K u m + one (same_mark m n && (u == t))

abbrev pub IsCountAlike : ByKind → ByKind → Type 0
IsCountAlike K L = (u : ℕ) (m : Mark) → count_of L u m ≡ count_of K u m

-- the mark of a kind at a path
abbrev pub mark_at : Kind → Path → Mark
mark_at kinds_of.Changed p = X p
mark_at kinds_of.Read p = S p
mark_at kinds_of.Stays p = N p
mark_at kinds_of.Descendants p = Count p

module _ (M M' : Marked) (es : List (ℕ × Counts)) where
  pub more_marked : (k : Kind) (p : Path) (t : ℕ) → IsMarkedMore M k p t M' → IsCountMore (by_kind M es) (mark_at k p) t (by_kind M' es)
  more_marked kinds_of.Changed p t more u (X q) = more kinds_of.Changed q u
  more_marked k p t more u (X q) = more kinds_of.Changed q u
  more_marked kinds_of.Changed p t more u (S q) = more kinds_of.Read q u
  more_marked k p t more u (S q) = more kinds_of.Read q u
  more_marked kinds_of.Changed p t more u (N q) = more kinds_of.Stays q u
  more_marked k p t more u (N q) = more kinds_of.Stays q u
  more_marked kinds_of.Changed p t more u (Count q) = more kinds_of.Descendants q u
  more_marked k p t more u (Count q) = more kinds_of.Descendants q u
  more_marked kinds_of.Changed p t more u (Pid l) = omega arith
  more_marked k p t more u (Pid l) = omega arith

  pub alike_marked : IsMarkedAlike M M' → IsCountAlike (by_kind M es) (by_kind M' es)
  alike_marked same u (X q) = same kinds_of.Changed q u
  alike_marked same u (S q) = same kinds_of.Read q u
  alike_marked same u (N q) = same kinds_of.Stays q u
  alike_marked same u (Pid l) = refl
  alike_marked same u (Count q) = same kinds_of.Descendants q u

module _ (M : Marked) (es fs : List (ℕ × Counts)) where
  pub more_processes : (pid t : ℕ) → ((k u : ℕ) → held_for fs k u ≡ held_for es k u + one ((k == pid) && (u == t))) → IsCountMore (by_kind M es) (Pid pid) t (by_kind M fs)
  more_processes pid t more u (X q) = omega arith
  more_processes pid t more u (S q) = omega arith
  more_processes pid t more u (N q) = omega arith
  more_processes pid t more u (Pid k) = more k u
  more_processes pid t more u (Count q) = omega arith

  pub alike_processes : ((k u : ℕ) → held_for fs k u ≡ held_for es k u) → IsCountAlike (by_kind M es) (by_kind M fs)
  alike_processes same u (X q) = refl
  alike_processes same u (S q) = refl
  alike_processes same u (N q) = refl
  alike_processes same u (Pid k) = same k u
  alike_processes same u (Count q) = refl

-- one holding more by the maps is one by the tables, of what the mark of the code means
pub more_for : (K L : ByKind) (G H : Holdings) (t : ℕ) (x : rust.Mark) (n : Mark) → mark_of x ≡ n → table_of K ≡ G → table_of L ≡ H → IsCountMore K n t L → IsHeldOnceMore G t (mark_of x) H
more_for K L G H t x n means g h more = subst (λ m. IsHeldOnceMore G t m H) (sym means) (more_told K L G H t n g h more)
