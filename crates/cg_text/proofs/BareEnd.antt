-- Where a bare word ends, found by searches for the bytes that it can't have.
use Rattle.std.proofs.Common.{◌≡◌, ℕ, zero, suc, ◌-◌, ◌<◌, ◌≤◌, Bool, true, false, List, [], ◌∷◌, length, take, drop, get_or, get_or-take, length-take, length-drop, take_all, refl, sym, ap, ◌∙◌, arith}
use Rattle.std.specs.Prelude.{Option, Some, None, slice_index, slice_range}
use Rattle.std.specs.Option.{unwrap_or}
use Rattle.std.proofs.lemmas.Bool.{false_from_ne_true}
use Rattle.std.proofs.lemmas.Bool.Decides.{nat_tests}
use Rattle.memchr.specs.Find.{IsFirstByte, Nowhere, Passes, is_byte, is_byte3}
use Rattle.cg_name.specs.Word.{is_bare_byte}
use Rattle.cg_text.specs.Cutting.{behind}

-- what stands behind the bytes that pass is what stands from the first that doesn't
behind_at : (p : ℕ → Bool) (xs : List ℕ) (n : ℕ) → n ≤ length xs → ((i : ℕ) → i < n → p (get_or xs i 0) ≡ true) → (n < length xs → p (get_or xs n 0) ≡ false) → behind p xs ≡ drop n xs
behind_at p [] zero low all end = refl
behind_at p [] (suc n) low all end = absurd (omega (arith, low))
behind_at p (x ∷ xs) zero low all end = let stops : p x ≡ false = end (omega arith) in rw stops refl
behind_at p (x ∷ xs) (suc n) low all end =
    let passes : p x ≡ true = all 0 (omega arith) in
    rw passes (behind_at p xs n (omega (arith, low)) (λ i h. all (suc i) (omega (arith, h))) (λ h. end (omega (arith, h))))

-- the place that a search found, or the length
first_end : (test : ℕ → Bool) (xs : List ℕ) (r : Option ℕ) → IsFirstByte test xs r →
    (unwrap_or r (length xs) ≤ length xs) × Nowhere (Passes test xs) 0 (unwrap_or r (length xs)) × (unwrap_or r (length xs) < length xs → test (slice_index xs (unwrap_or r (length xs))) ≡ true)
first_end test xs None h = (omega arith, h, λ low. absurd (omega (arith, low)))
first_end test xs (Some k) h = (omega (arith, h.0.high), h.0.before, λ _. h.1)

bare : (b : ℕ) → is_byte3 32 9 34 b ≡ false → is_byte 92 b ≡ false → is_bare_byte b ≡ true
bare b h k = grind (arith, nat_tests)

no_bare : (b : ℕ) → is_byte3 32 9 34 b ≡ true → is_bare_byte b ≡ false
no_bare b h = grind (arith, nat_tests)

no_bare_backslash : (b : ℕ) → is_byte 92 b ≡ true → is_bare_byte b ≡ false
no_bare_backslash b h = grind (arith, nat_tests)

-- all bytes below a place are bare, where neither search found one there
all_bare : (text : List ℕ) (e n : ℕ) → n ≤ e → Nowhere (Passes (is_byte3 32 9 34) text) 0 e → Nowhere (Passes (is_byte 92) (take e text)) 0 n → (i : ℕ) → i < n → is_bare_byte (get_or text i 0) ≡ true
all_bare text e n low marks backslashes i h =
    bare (get_or text i 0)
    (false_from_ne_true _ (λ k. marks i (omega arith) (omega (arith, h, low)) k))
    (false_from_ne_true _ (λ k. backslashes i (omega arith) h (ap (is_byte 92) (get_or-take e text i 0 (omega (arith, h, low))) ∙ k)))

end_at : (text : List ℕ) (e : ℕ) → e ≤ length text → Nowhere (Passes (is_byte3 32 9 34) text) 0 e → (e < length text → is_byte3 32 9 34 (slice_index text e) ≡ true) → (s : Option ℕ) → IsFirstByte (is_byte 92) (take e text) s → behind is_bare_byte text ≡ drop (unwrap_or s e) text
end_at text e low marks stop None none =
    behind_at is_bare_byte text e low
    (all_bare text e e (omega arith) marks (λ i a b. none i a (omega (arith, b, low, length-take e text))))
    (λ h. no_bare (get_or text e 0) (stop h))
end_at text e low marks stop (Some k) found =
    let within : k < e = omega (arith, found.0.high, low, length-take e text) in
    behind_at is_bare_byte text k (omega (arith, within, low))
    (all_bare text e k (omega (arith, within)) marks found.0.before)
    (λ h. no_bare_backslash (get_or text k 0) (ap (is_byte 92) (sym (get_or-take e text k 0 within)) ∙ found.1))

pub bare_end : (text : List ℕ) (r : Option ℕ) → IsFirstByte (is_byte3 32 9 34) text r → (e : ℕ) → e ≡ unwrap_or r (length text) → (s : Option ℕ) → IsFirstByte (is_byte 92) (take e text) s → (n : ℕ) → n ≡ unwrap_or s e → slice_range text n (length text) ≡ behind is_bare_byte text
bare_end text r h e same s k n at =
    let first = first_end (is_byte3 32 9 34) text r h in
    let first_at = rw (sym same) at first in
    take_all (length text - n) (drop n text) (omega (arith, length-drop n text)) ∙ ap (λ i. drop i text) at ∙ sym (end_at text e first_at.0 first_at.1 first_at.2 s k)
