-- Scripts, their texts and their ends, one after another.
use Rattle.std.proofs.Common.{◌≡◌, ℕ, ◌+◌, ◌<◌, List, [], ◌∷◌, ◌++◌, length, map, Option, take, get_or, subst, sym, ap, ◌∙◌, append_assoc, append-nil, arith, length-take}
use Rattle.std.specs.List.{AllZip}
use Rattle.std.proofs.lemmas.List.{take_more}
use Rattle.std.proofs.lemmas.Slice.Zip.{all_zipped_more}
use Rattle.cg_runner.specs.declared.end.ScriptEnd.{ScriptEnd}
use Rattle.cg_batch.specs.Ends.{explained_line, lines_by}
use Rattle.cg_batch.specs.declared.outcomes.Outcome.{Outcome}

-- the lines of ends and of one more
lines_more : (line : ℕ → ScriptEnd → List ℕ) (n : ℕ) (es : List ScriptEnd) (e : ScriptEnd) → lines_by line n (es ++ e ∷ []) ≡ lines_by line n es ++ line (n + length es) e
lines_more line n [] e = append-nil (line n e) ∙ ap (λ k. line k e) (omega arith)
lines_more line n (x ∷ es) e =
    ap (λ t. line n x ++ t) (lines_more line (n + 1) es e)
    ∙ sym (append_assoc (line n x) (lines_by line (n + 1) es) (line (n + 1 + length es) e))
    ∙ ap (λ k. (line n x ++ lines_by line (n + 1) es) ++ line k e) (omega arith)

lines_next : (line : ℕ → ScriptEnd → List ℕ) (es : List ScriptEnd) (i : ℕ) (d : ScriptEnd) → i < length es → lines_by line 1 (take (i + 1) es) ≡ lines_by line 1 (take i es) ++ line (i + 1) (get_or es i d)
lines_next line es i d inside =
    ap (lines_by line 1) (take_more es i d inside)
    ∙ lines_more line 1 (take i es) (get_or es i d)
    ∙ ap (λ k. lines_by line 1 (take i es) ++ line k (get_or es i d)) (omega (arith, length-take i es))

-- a text of so many lines, and of one more
pub lines_step : (line : ℕ → ScriptEnd → List ℕ) (es : List ScriptEnd) (i n : ℕ) (d : ScriptEnd) (old new : List ℕ)
    → i < length es → n ≡ i → old ≡ lines_by line 1 (take i es) → new ≡ old ++ line (n + 1) (get_or es i d) → new ≡ lines_by line 1 (take (i + 1) es)
lines_step line es i n d old new inside same before now =
    now
    ∙ ap (λ m. old ++ line (m + 1) (get_or es i d)) same
    ∙ ap (λ t. t ++ line (i + 1) (get_or es i d)) before
    ∙ sym (lines_next line es i d inside)

-- the second list grows by what fits the next item of the first
pub zip_next : {A B : Type 0} (R : A → B → Type 0) (xs : List A) (ys : List B) (i : ℕ) (d : A) (y : B) → i < length xs → AllZip R (take i xs) ys → R (get_or xs i d) y → AllZip R (take (i + 1) xs) (ys ++ y ∷ [])
zip_next R xs ys i d y inside before here =
    subst (λ zs. AllZip R zs (ys ++ y ∷ [])) (sym (take_more xs i d inside)) (all_zipped_more R (take i xs) ys (get_or xs i d) y before here)

-- what holds of the items of two lists, place by place, holds of what is made of them
pub zip_maps : {A B C D : Type 0} (R : C → D → Type 0) (f : A → C) (g : B → D) (xs : List A) (ys : List B) → AllZip (λ x y. R (f x) (g y)) xs ys → AllZip R (map f xs) (map g ys)
zip_maps R f g [] [] h = h
zip_maps R f g [] (y ∷ ys) h = absurd h
zip_maps R f g (x ∷ xs) [] h = absurd h
zip_maps R f g (x ∷ xs) (y ∷ ys) h = (h.0, zip_maps R f g xs ys h.1)

pub zip_map : {A B C : Type 0} (R : C → B → Type 0) (f : A → C) (xs : List A) (ys : List B) → AllZip (λ x y. R (f x) y) xs ys → AllZip R (map f xs) ys
zip_map R f [] [] h = h
zip_map R f [] (y ∷ ys) h = absurd h
zip_map R f (x ∷ xs) [] h = absurd h
zip_map R f (x ∷ xs) (y ∷ ys) h = (h.0, zip_map R f xs ys h.1)

-- five texts, one behind the other
pub five_appended : (t u v w x y a b c d e : List ℕ) → u ≡ t ++ a → v ≡ u ++ b → w ≡ v ++ c → x ≡ w ++ d → y ≡ x ++ e → y ≡ t ++ (a ++ b ++ c ++ d ++ e)
five_appended t u v w x y a b c d e first second third fourth fifth =
    fifth ∙ ap (λ l. l ++ e) (four (fourth ∙ ap (λ l. l ++ d) (three (third ∙ ap (λ l. l ++ c) (two (second ∙ ap (λ l. l ++ b) first)))))) ∙ append_assoc t (a ++ b ++ c ++ d) e
  where
    two : {l : List ℕ} → l ≡ t ++ a ++ b → l ≡ t ++ (a ++ b)
    two h = h ∙ append_assoc t a b

    three : {l : List ℕ} → l ≡ t ++ (a ++ b) ++ c → l ≡ t ++ (a ++ b ++ c)
    three h = h ∙ append_assoc t (a ++ b) c

    four : {l : List ℕ} → l ≡ t ++ (a ++ b ++ c) ++ d → l ≡ t ++ (a ++ b ++ c ++ d)
    four h = h ∙ append_assoc t (a ++ b ++ c) d

-- the explained lines tell of outcomes that are the same
pub lines_alike : (f g : ℕ → Option Outcome) → ((t : ℕ) → f t ≡ g t) → (es : List ScriptEnd) → lines_by (explained_line f) 1 es ≡ lines_by (explained_line g) 1 es
lines_alike f g same es = λ i. lines_by (explained_line (λ t. same t i)) 1 es
