-- An array of zeros that is filled from the front.
use Rattle.std.proofs.Common.{◌≡◌, ℕ, suc, ◌+◌, ◌-◌, ◌<◌, List, [], ◌∷◌, ◌++◌, length, replicate, sym, ap, ◌∙◌, arith, append_assoc}
use Rattle.std.specs.List.{AllByRecursion}
use Rattle.std.proofs.lemmas.List.{set_at}
use Rattle.std.proofs.Math.ListN.{set}

-- one byte takes the place of the first zero
pub filled_more : (done bytes : List ℕ) (n i b : ℕ) → length done ≡ i → i < n → bytes ≡ done ++ replicate (n - i) 0 → set bytes i b ≡ (done ++ b ∷ []) ++ replicate (n - (i + 1)) 0
filled_more done bytes n i b long room e =
    let rest : ℕ = n - (i + 1) in
    let one : n - i ≡ suc rest = omega arith in
    let zeros : bytes ≡ done ++ 0 ∷ replicate rest 0 = e ∙ ap (λ k. done ++ replicate k 0) one in
    ap (λ z. set z i b) zeros ∙ set_at done 0 (replicate rest 0) b i long ∙ sym (append_assoc done (b ∷ []) (replicate rest 0))

-- what holds of each byte so far holds with one more
pub all_push : (P : ℕ → Type 0) (bs : List ℕ) (b : ℕ) → AllByRecursion P bs → P b → AllByRecursion P (bs ++ b ∷ [])
all_push P [] b h k = (k, tt)
all_push P (c ∷ bs) b h k = (h.0, all_push P bs b h.1 k)
