-- A reserved name is a directory, its parent, or that of an interface file.
use Rattle.std.proofs.Common.{◌≡◌, ℕ, suc, ◌<◌, Bool, List, [], ◌∷◌, map, get_or, Result, Ok, Err, IfOk, IfErr, IsTrue, ◌↔◌, sym, ap, ◌∙◌, lit<, codes, arith, true≢false}
use Rattle.std.specs.List.{Contains}
use Rattle.std.specs.Result.{IsErrOf, is_ok}
use Rattle.std.proofs.lemmas.Map.Made.{Contains-tail}
use Rattle.cg_name.specs.FileName.{all_files, file_word}
use Rattle.cg_name.specs.Name.{reserved_names}
use Rattle.cg_name.specs.declared.file_name.FileName.{FileName}
use Rattle.cg_name.specs.declared.file_name.FileName.TheVariants.{Procs, Controllers, SubtreeControl, Events, Freeze, Cpus, EffectiveCpus, MaxDescendants, MaxDepth}
use Rattle.cg_name.specs.declared.refusal.Refusal.{Refusal}
use Rattle.cg_name.specs.declared.refusal.Refusal.TheVariants.{Syntax}

file_at : (k : ℕ) (n : List ℕ) → k < 9 → n ≡ get_or (map file_word all_files) k n → Contains (map file_word all_files) n
file_at k n h e = (k, h, sym e)

named_file : (f : FileName) (n : List ℕ) → n ≡ file_word f → Contains (map file_word all_files) n
named_file Procs n e = file_at 0 n (lit< tt) e
named_file Controllers n e = file_at 1 n (lit< tt) e
named_file SubtreeControl n e = file_at 2 n (lit< tt) e
named_file Events n e = file_at 3 n (lit< tt) e
named_file Freeze n e = file_at 4 n (lit< tt) e
named_file Cpus n e = file_at 5 n (lit< tt) e
named_file EffectiveCpus n e = file_at 6 n (lit< tt) e
named_file MaxDescendants n e = file_at 7 n (lit< tt) e
named_file MaxDepth n e = file_at 8 n (lit< tt) e

-- what is none of the names of files is not among them
no_file : (files : List FileName) (n : List ℕ) → ((f : FileName) → n ≡ file_word f → ⊥) → Contains (map file_word files) n → ⊥
no_file [] n h (k, low, e) = absurd (search arith)
no_file (f ∷ files) n h held = no_file files n h (Contains-tail (file_word f) (map file_word files) n (λ e. h f (sym e)) held)

-- a reader of the files' names tells whether it is one
pub file_named : (n : List ℕ) (r : Result FileName Refusal) (b : Bool) → b ≡ is_ok r → IfOk r (λ f. n ≡ file_word f) → (IsErrOf r Syntax → (f : FileName) → n ≡ file_word f → ⊥) → IfErr r (λ e. e ≡ Syntax)
    → IsTrue b ↔ Contains (map file_word all_files) n
file_named n (Ok f) b e found none syntax = ((λ _. named_file f n found), (λ _. e))
file_named n (Err d) b e found none syntax = ((λ t. absurd (true≢false (sym t ∙ e))), (λ h. absurd (no_file all_files n (none (ap (λ x. Err x) syntax)) h)))

behind : (m n : List ℕ) (names : List (List ℕ)) → Contains names n → Contains (m ∷ names) n
behind m n names (k, low, e) = (suc k, omega arith, e)

-- what is neither a directory nor its parent is reserved where it is a file's name
pub reserved : (n : List ℕ) (b : Bool) → (n ≡ codes "." → ⊥) → (n ≡ codes ".." → ⊥) → (IsTrue b ↔ Contains (map file_word all_files) n) → IsTrue b ↔ Contains reserved_names n
reserved n b one two same = (
  (λ t. behind (codes ".") n (codes ".." ∷ map file_word all_files) (behind (codes "..") n (map file_word all_files) (same.0 t))),
  (λ h. same.1 (Contains-tail (codes "..") (map file_word all_files) n (λ x. two (sym x)) (Contains-tail (codes ".") (codes ".." ∷ map file_word all_files) n (λ x. one (sym x)) h))),
)
