-- How often a mark stands in a footprint; and marks as data.
use Rattle.std.specs.Prelude.{◌≡◌, ℕ, ◌==◌, Bool, false, cond, List, [], ◌∷◌, refl}
use Rattle.std.specs.Coded.{Coded, code_by}
use Rattle.std.specs.List.{count_by}
use Rattle.cg_name.specs.Path.{Path, same_path}
use Rattle.cg_model.specs.Code.{path_code}
use Rattle.cg_model.specs.Footprint.{Mark, X, S, N, Pid, Count}

-- the two are one mark
abbrev pub same_mark : Mark → Mark → Bool
same_mark (X p) (X q) = same_path p q
same_mark (S p) (S q) = same_path p q
same_mark (N p) (N q) = same_path p q
same_mark (Pid k) (Pid l) = k == l
same_mark (Count p) (Count q) = same_path p q
same_mark _ _ = false

-- how often the mark stands there
abbrev pub times : Mark → List Mark → ℕ
times m f = count_by (same_mark m) f

-- ---- a mark as a text, by which a proof tells marks apart: the number of its kind, and its path or its PID

abbrev pub mark_text : Mark → Path
mark_text (X p) = (0 ∷ []) ∷ p
mark_text (S p) = (1 ∷ []) ∷ p
mark_text (N p) = (2 ∷ []) ∷ p
mark_text (Pid k) = (3 ∷ []) ∷ (k ∷ []) ∷ []
mark_text (Count p) = (4 ∷ []) ∷ p

-- the number with which a text begins
abbrev first_number : Path → ℕ
first_number ((k ∷ ks) ∷ p) = k
first_number _ = 0

abbrev of_kind : ℕ → Path → Mark
of_kind k p = cond (k == 0) (X p) (cond (k == 1) (S p) (cond (k == 2) (N p) (cond (k == 3) (Pid (first_number p)) (Count p))))

abbrev pub text_mark : Path → Mark
text_mark [] = Count []
text_mark (n ∷ p) = of_kind (first_number (n ∷ p)) p

pub mark_back : (m : Mark) → text_mark (mark_text m) ≡ m
mark_back (X p) = refl
mark_back (S p) = refl
mark_back (N p) = refl
mark_back (Pid k) = refl
mark_back (Count p) = refl

abbrev pub mark_code : Coded Mark
mark_code = code_by Path path_code mark_text text_mark mark_back
