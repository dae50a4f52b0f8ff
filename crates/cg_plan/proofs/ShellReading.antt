-- What a shell reads of what is written for it.
use Rattle.std.proofs.Common.{◌≡◌, ℕ, ◌==◌, Bool, true, false, not, List, [], ◌∷◌, ◌++◌, Some, refl, sym, ap, subst, ◌∙◌, append_assoc, append-nil}
use Rattle.std.proofs.lemmas.Bool.{and_parts, eqb-true, not-true}
use Rattle.std.specs.List.{flat_map, list_all}
use Rattle.cg_plan.specs.ShellWord.{Word, Between, Comment, InWord, Quoted, found_from, shell_byte, shell_word, tokens_of}

-- a byte between quotes is added to the word
byte_read : (is_quote : Bool) (b : ℕ) (w text : List ℕ) → (b == 39) ≡ is_quote → found_from (Quoted w) (shell_byte b ++ text) ≡ found_from (Quoted (w ++ b ∷ [])) text
byte_read true b w text e =
    subst (λ n. found_from (Quoted w) (shell_byte n ++ text) ≡ found_from (Quoted (w ++ n ∷ [])) text) (sym (eqb-true b 39 e)) refl
byte_read false b w text e = simp e

-- so are all
pub bytes_read : (bytes w text : List ℕ) → found_from (Quoted w) (flat_map shell_byte bytes ++ text) ≡ found_from (Quoted (w ++ bytes)) text
bytes_read [] w text = ap (λ all. found_from (Quoted all) text) (sym (append-nil w))
bytes_read (b ∷ bytes) w text =
    ap (found_from (Quoted w)) (append_assoc (shell_byte b) (flat_map shell_byte bytes) text)
    ∙ byte_read (b == 39) b w (flat_map shell_byte bytes ++ text) refl
    ∙ bytes_read bytes (w ++ b ∷ []) text
    ∙ ap (λ all. found_from (Quoted all) text) (append_assoc w (b ∷ []) bytes)

-- a word is read up to where it ends
pub word_read : (bytes text : List ℕ) → found_from Between (shell_word bytes ++ text) ≡ found_from (InWord bytes) text
word_read bytes text =
    ap (found_from (Quoted [])) (append_assoc (flat_map shell_byte bytes) (39 ∷ []) text) ∙ bytes_read bytes [] (39 ∷ text)

pub words_are_read : (w : List ℕ) → tokens_of (shell_word w) ≡ Some (Word w ∷ [])
words_are_read w = bytes_read w [] (39 ∷ [])

-- of a comment nothing is found but its end
pub comment_read : (note text : List ℕ) → list_all (λ b. not (b == 10)) note ≡ true → found_from Comment (note ++ text) ≡ found_from Comment text
comment_read [] text on_line = refl
comment_read (b ∷ note) text on_line =
    let parts = and_parts (not (b == 10)) (list_all (λ d. not (d == 10)) note) on_line in
    let other : (b == 10) ≡ false = not-true (b == 10) parts.0 in
    simp other (comment_read note text parts.1)
