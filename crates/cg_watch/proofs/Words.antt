-- A path and a file in one word: cut at the last colon.
use Rattle.std.proofs.Common.{◌≡◌, ◌≢◌, ◌<◌, ◌+◌, ◌-◌, ◌==◌, ℕ, suc, true, false, not, List, ◌∷◌, ◌++◌, length, take, drop, get_or, inl, inr, refl, sym, ap, ◌∙◌, arith, take-append-drop}
use Rattle.std.proofs.Math.Seq.{drop-append-add, get_or-append_seam, take-append_seam}
use Rattle.std.proofs.lemmas.Bool.{cases_order, true≢false}
use Rattle.std.proofs.lemmas.List.{get_or-append-add, get_or-drop, length-append}
use Rattle.std.proofs.lemmas.List.Folds.{list_all_at}
use Rattle.std.proofs.lemmas.Str.Pattern.{NoCharPasses-char}
use Rattle.std.specs.Prelude.{None}
use Rattle.std.specs.List.{list_all}
use Rattle.std.specs.Str.Pattern.{RFindsChar, SplitsAroundMatch}
use Rattle.cg_name.specs.FileName.{file_word}
use Rattle.cg_name.specs.declared.file_name.FileName.{FileName}
use Rattle.cg_name.specs.declared.file_name.FileName.TheVariants as files

has_no_colon : (f : FileName) → list_all (λ b. not (b == 58)) (file_word f) ≡ true
has_no_colon files.Procs = refl
has_no_colon files.Controllers = refl
has_no_colon files.SubtreeControl = refl
has_no_colon files.Events = refl
has_no_colon files.Freeze = refl
has_no_colon files.Cpus = refl
has_no_colon files.EffectiveCpus = refl
has_no_colon files.MaxDescendants = refl
has_no_colon files.MaxDepth = refl

no_colon_at : (f : FileName) (k : ℕ) → k < length (file_word f) → get_or (file_word f) k 0 ≢ 58
no_colon_at f k inside e =
    let found : not (get_or (file_word f) k 0 == 58) ≡ false = ap (λ b. not (b == 58)) e in
    true≢false (sym (has_no_colon f) ∙ list_all_at (λ b. not (b == 58)) (file_word f) k 0 inside found)

-- a word that is cut at its last colon
pub cut_word : (word front back : List ℕ) → SplitsAroundMatch (RFindsChar 58) word front back → word ≡ front ++ 58 ∷ back
unfolding lib.Utf8.encode
cut_word word front back h =
    sym (take-append-drop h.0 word) ∙ ap (λ l. take h.0 word ++ l) h.2.1.split ∙ ap (λ l. l ++ 58 ∷ drop h.1 word) (sym h.3) ∙ ap (λ l. front ++ 58 ∷ l) (sym h.4)

-- it is cut where a path and the name of a file come together
cut_there : (word front back path : List ℕ) (f : FileName) → SplitsAroundMatch (RFindsChar 58) word front back → word ≡ path ++ 58 ∷ file_word f → length front ≡ length path
cut_there word front back path f h is = elim (cases_order (length front) (length path)) [
  | inl same ↦ same
  | inr (inl before) ↦
      let at : get_or word (length path) 0 ≡ 58 = ap (λ l. get_or l (length path) 0) is ∙ get_or-append_seam path 58 (file_word f) 0 in
      let next : h.1 ≡ h.0 + 1 = h.2.1.ends in
      let on : h.1 + (length path - h.1) ≡ length path = omega (arith, before, next, h.6) in
      absurd (NoCharPasses-char 58 (drop h.1 word) (length path - h.1) h.2.0 (omega arith)
      (omega (arith, before, next, h.6, h.7, ap length h.4, ap length is, length-append path (58 ∷ file_word f)))
      (get_or-drop h.1 word (length path - h.1) 0 ∙ ap (λ n. get_or word n 0) on ∙ at))
  | inr (inr behind) ↦
      let k = length front - (length path + 1) in
      let place : length path + (k + 1) ≡ length front = omega (arith, behind) in
      let one : k + 1 ≡ suc k = omega arith in
      let byte : get_or word (length front) 0 ≡ 58 = ap (λ n. get_or word n 0) h.6 ∙ h.2.1.byte (omega arith) in
      let same : get_or word (length front) 0 ≡ get_or (file_word f) k 0 =
      ap (λ l. get_or l (length front) 0) is ∙ ap (λ n. get_or (path ++ 58 ∷ file_word f) n 0) (sym place)
      ∙ get_or-append-add path (58 ∷ file_word f) (k + 1) 0 ∙ ap (λ n. get_or (58 ∷ file_word f) n 0) one ∙ refl in
      absurd (no_colon_at f k (omega (arith, behind, h.2.1.ends, h.6, h.7, ap length is, length-append path (58 ∷ file_word f))) (sym same ∙ byte))
]

pub cut_path : (word front back path : List ℕ) (f : FileName) → SplitsAroundMatch (RFindsChar 58) word front back → word ≡ path ++ 58 ∷ file_word f → front ≡ path
cut_path word front back path f h is =
    let same = cut_there word front back path f h is in
    sym (take-append_seam front (58 ∷ back)) ∙ ap (take (length front)) (sym (cut_word word front back h) ∙ is) ∙ ap (λ n. take n (path ++ 58 ∷ file_word f)) same
    ∙ take-append_seam path (58 ∷ file_word f)

pub cut_file : (word front back path : List ℕ) (f : FileName) → SplitsAroundMatch (RFindsChar 58) word front back → word ≡ path ++ 58 ∷ file_word f → back ≡ file_word f
cut_file word front back path f h is =
    let same = cut_there word front back path f h is in
    sym (drop-append-add front (58 ∷ back) 1) ∙ ap (drop (length front + 1)) (sym (cut_word word front back h) ∙ is)
    ∙ ap (λ n. drop (n + 1) (path ++ 58 ∷ file_word f)) same ∙ drop-append-add path (58 ∷ file_word f) 1

-- a word without a colon is not such a one
pub never_cut : (word path : List ℕ) (f : FileName) → RFindsChar 58 word None → word ≡ path ++ 58 ∷ file_word f → ⊥
never_cut word path f none is =
    NoCharPasses-char 58 word (length path) none (omega arith) (omega (arith, ap length is, length-append path (58 ∷ file_word f)))
    (ap (λ l. get_or l (length path) 0) is ∙ get_or-append_seam path 58 (file_word f) 0)
