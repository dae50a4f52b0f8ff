-- A session's name is a plain word that doesn't begin a comment.
use Rattle.std.proofs.Common.{◌≡◌, ◌≢◌, ℕ, ◌≤◌, ◌==◌, true, false, List, [], ◌∷◌, ◌++◌, refl, inl, inr, ◌⊎◌, arith}
use Rattle.std.specs.List.{AllByRecursion, list_all}
use Rattle.std.proofs.lemmas.Bool.Decides.{nat_tests}
use Rattle.cg_name.specs.SaveName.{IsSaveName, IsSaveNameByte}
use Rattle.cg_name.specs.Word.{FitsLine, is_blank, is_plain_byte}
use Rattle.cg_text.specs.Words.{is_silent}
use Rattle.cg_name.proofs.Written.{plain_fits}

-- a byte between these two, or one of these two
abbrev IsRange : ℕ → Type 0
IsRange b = (48 ≤ b) × (b ≤ 122) × (b ≢ 92)

in_range : (b : ℕ) → IsSaveNameByte b → IsRange b ⊎ (b ≡ 45)
in_range b (inl (inl (inl h))) = inl (omega (arith, h.0), omega (arith, h.1), λ e. omega (arith, h.1, e))
in_range b (inl (inl (inr h))) = inl (omega (arith, h.0), omega (arith, h.1), λ e. omega (arith, h.1, e))
in_range b (inl (inr h)) = inl (omega (arith, h.0), omega (arith, h.1), λ e. omega (arith, h.0, e))
in_range b (inr (inl e)) = inl (omega (arith, e), omega (arith, e), λ f. omega (arith, e, f))
in_range b (inr (inr e)) = inr e

plain_byte : (b : ℕ) → IsRange b ⊎ (b ≡ 45) → is_plain_byte b ≡ true
plain_byte b (inl h) = let low = h.0 in let high = h.1 in let other = h.2 in grind (arith, nat_tests)
plain_byte b (inr e) = grind (arith, nat_tests)

plain : (n : List ℕ) → AllByRecursion IsSaveNameByte n → list_all is_plain_byte n ≡ true
plain [] h = refl
plain (b ∷ n) h = let first = plain_byte b (in_range b h.0) in let others = plain n h.1 in rw first others

pub save_name_fits : (n : List ℕ) → IsSaveName n → FitsLine n
save_name_fits n h = plain_fits n h.nonempty (plain n h.bytes)

no_blank : (b : ℕ) → IsRange b ⊎ (b ≡ 45) → is_blank b ≡ false
no_blank b (inl h) = let low = h.0 in grind (arith, nat_tests)
no_blank b (inr e) = grind (arith, nat_tests)

no_number_sign : (b : ℕ) → IsRange b ⊎ (b ≡ 45) → (b == 35) ≡ false
no_number_sign b (inl h) = let low = h.0 in grind (arith, nat_tests)
no_number_sign b (inr e) = grind (arith, nat_tests)

pub save_name_says : (n rest : List ℕ) → IsSaveName n → is_silent (n ++ rest) ≡ false
save_name_says [] rest h = absurd (omega (arith, h.nonempty))
save_name_says (b ∷ n) rest h =
    let range = in_range b h.bytes.0 in
    let blank = no_blank b range in
    let sign = no_number_sign b range in
    rw (blank, sign) refl
