-- Each script lies between the end of the one before and its own.
use Rattle.std.proofs.Common.{◌≡◌, ℕ, zero, suc, ◌+◌, ◌-◌, ◌≤◌, ◌==◌, Bool, true, false, cond, List, [], ◌∷◌, ◌++◌, length, drop, get_or, refl, sym, ap, ◌∙◌, subst, arith}
use Rattle.std.specs.List.{between}
use Rattle.std.proofs.lemmas.Bool.{eqb-true, eq-eqb, false_from_ne_true, true≢false}
use Rattle.std.proofs.lemmas.List.{length-append, take-append-le, take_all, get_or_append_left}
use Rattle.std.proofs.lemmas.Slice.{between_is}
use Rattle.std.proofs.Math.Seq.{drop-append_seam, get_or-append_seam}
use Rattle.cg_core_laws.specs.CommittedCommands.{numbered}
use Rattle.cg_commits.specs.Layout.{joined, ends_of, end_of}

pub ends_count : (ls : List (List ℕ)) → length (ends_of ls) ≡ length ls
ends_count [] = refl
ends_count (l ∷ ls) =
    let more : length (ends_of (l ∷ ls)) ≡ length (ends_of ls) + 1 = length-append (ends_of ls) (length (joined (l ∷ ls)) ∷ []) in
    let rest : length (ends_of ls) ≡ length ls = ends_count ls in
    omega (arith, more, rest)

-- one script more leaves the ends of the others
end_kept : (l : List ℕ) (ls : List (List ℕ)) (k : ℕ) → k ≤ length ls → end_of (ends_of (l ∷ ls)) k ≡ end_of (ends_of ls) k
end_kept l ls zero le = refl
end_kept l ls (suc k) le =
    let count : length (ends_of ls) ≡ length ls = ends_count ls in
    get_or_append_left (ends_of ls) (length (joined (l ∷ ls)) ∷ []) 0 k (omega (arith, count, le))

-- the last one ends where all end
last_end : (ls : List (List ℕ)) → end_of (ends_of ls) (length ls) ≡ length (joined ls)
last_end [] = refl
last_end (l ∷ ls) = ap (λ k. get_or (ends_of (l ∷ ls)) k 0) (sym (ends_count ls)) ∙ get_or-append_seam (ends_of ls) (length (joined (l ∷ ls))) [] 0

-- a further one is the newest, or one of the others
kept_or_last : (k : ℕ) (ls : List (List ℕ)) → k ≤ suc (length ls) → (b : Bool) → (suc (length ls) == k) ≡ b → b ≡ false → k ≤ length ls
kept_or_last k ls le b e f =
    let isnt : suc (length ls) ≡ k → ⊥ = λ is. true≢false (sym (eq-eqb (suc (length ls)) k is) ∙ e ∙ f) in
    omega (arith, le, isnt)

pub end_within : (ls : List (List ℕ)) (k : ℕ) → k ≤ length ls → end_of (ends_of ls) k ≤ length (joined ls)
end_within [] k le = let none : k ≡ 0 = omega (arith, le) in subst (λ n. end_of [] n ≤ 0) (sym none) (omega arith)
end_within (l ∷ ls) k le = at (suc (length ls) == k) refl (end_within ls k)
  where
    more : length (joined ls ++ l) ≡ length (joined ls) + length l
    more = length-append (joined ls) l

    at : (b : Bool) → (suc (length ls) == k) ≡ b → (k ≤ length ls → end_of (ends_of ls) k ≤ length (joined ls)) → end_of (ends_of (l ∷ ls)) k ≤ length (joined (l ∷ ls))
    at true e rest =
        let is : suc (length ls) ≡ k = eqb-true (suc (length ls)) k e in
        let at_end : end_of (ends_of (l ∷ ls)) k ≡ length (joined (l ∷ ls)) = ap (end_of (ends_of (l ∷ ls))) (sym is) ∙ last_end (l ∷ ls) in
        omega (arith, at_end)
    at false e rest =
        let lower : k ≤ length ls = kept_or_last k ls le false e refl in
        let kept : end_of (ends_of (l ∷ ls)) k ≡ end_of (ends_of ls) k = end_kept l ls k lower in
        let within = rest lower in
        omega (arith, kept, within, more)

pub ends_rise : (ls : List (List ℕ)) (k : ℕ) → suc k ≤ length ls → end_of (ends_of ls) k ≤ end_of (ends_of ls) (suc k)
ends_rise [] k le = absurd (omega (arith, le))
ends_rise (l ∷ ls) k le = at (suc (length ls) == suc k) refl (ends_rise ls k)
  where
    at : (b : Bool) → (suc (length ls) == suc k) ≡ b → (suc k ≤ length ls → end_of (ends_of ls) k ≤ end_of (ends_of ls) (suc k)) → end_of (ends_of (l ∷ ls)) k ≤ end_of (ends_of (l ∷ ls)) (suc k)
    at true e rest =
        let is : suc (length ls) ≡ suc k = eqb-true (suc (length ls)) (suc k) e in
        let at_end : end_of (ends_of (l ∷ ls)) (suc k) ≡ length (joined (l ∷ ls)) = ap (end_of (ends_of (l ∷ ls))) (sym is) ∙ last_end (l ∷ ls) in
        let within : end_of (ends_of (l ∷ ls)) k ≤ length (joined (l ∷ ls)) = end_within (l ∷ ls) k (omega (arith, le)) in
        omega (arith, at_end, within)
    at false e rest =
        let lower : suc k ≤ length ls = kept_or_last (suc k) ls le false e refl in
        let this : end_of (ends_of (l ∷ ls)) k ≡ end_of (ends_of ls) k = end_kept l ls k (omega (arith, lower)) in
        let next : end_of (ends_of (l ∷ ls)) (suc k) ≡ end_of (ends_of ls) (suc k) = end_kept l ls (suc k) lower in
        let up = rest lower in
        omega (arith, this, next, up)

-- what lies within the front
between_front : (xs ys : List ℕ) (i j : ℕ) → j ≤ length xs → between i j (xs ++ ys) ≡ between i j xs
between_front xs ys i j le = between_is (xs ++ ys) i j ∙ ap (drop i) (take-append-le j xs ys le) ∙ sym (between_is xs i j)

pub between_ends : (ls : List (List ℕ)) (k : ℕ) → suc k ≤ length ls → between (end_of (ends_of ls) k) (end_of (ends_of ls) (suc k)) (joined ls) ≡ numbered (suc k) ls
between_ends [] k le = absurd (omega (arith, le))
between_ends (l ∷ ls) k le = at (suc (length ls) == suc k) refl (between_ends ls k)
  where
    at : (b : Bool) → (suc (length ls) == suc k) ≡ b → (suc k ≤ length ls → between (end_of (ends_of ls) k) (end_of (ends_of ls) (suc k)) (joined ls) ≡ numbered (suc k) ls)
        → between (end_of (ends_of (l ∷ ls)) k) (end_of (ends_of (l ∷ ls)) (suc k)) (joined (l ∷ ls)) ≡ cond b l (numbered (suc k) ls)
    at true e rest =
        let is : length ls ≡ k = let all : suc (length ls) ≡ suc k = eqb-true (suc (length ls)) (suc k) e in omega (arith, all) in
        let from : end_of (ends_of (l ∷ ls)) k ≡ length (joined ls) = end_kept l ls k (omega (arith, is)) ∙ ap (end_of (ends_of ls)) (sym is) ∙ last_end ls in
        let to : end_of (ends_of (l ∷ ls)) (suc k) ≡ length (joined (l ∷ ls)) = ap (λ n. end_of (ends_of (l ∷ ls)) (suc n)) (sym is) ∙ last_end (l ∷ ls) in
        (λ i. between (from i) (to i) (joined (l ∷ ls)))
        ∙ between_is (joined (l ∷ ls)) (length (joined ls)) (length (joined (l ∷ ls)))
        ∙ ap (drop (length (joined ls))) (take_all (length (joined (l ∷ ls))) (joined (l ∷ ls)) (omega arith))
        ∙ drop-append_seam (joined ls) l
    at false e rest =
        let lower : suc k ≤ length ls = kept_or_last (suc k) ls le false e refl in
        (λ i. between (end_kept l ls k (omega (arith, lower)) i) (end_kept l ls (suc k) lower i) (joined (l ∷ ls)))
        ∙ between_front (joined ls) l (end_of (ends_of ls) k) (end_of (ends_of ls) (suc k)) (end_within ls (suc k) lower)
        ∙ rest lower

-- there is none with the number 0
pub none_numbered : (ls : List (List ℕ)) → numbered 0 ls ≡ []
none_numbered [] = refl
none_numbered (l ∷ ls) =
    let other : (suc (length ls) == 0) ≡ false = false_from_ne_true (suc (length ls) == 0) (λ e. let is = eqb-true (suc (length ls)) 0 e in omega (arith, is)) in
    rw other (none_numbered ls)

-- the part between two ends, and its bounds
pub record IsPart (ls : List (List ℕ)) (number start end : ℕ) (ps : List ℕ) : Type 0 where
  pub rises : start ≤ end
  pub within : end ≤ length ps
  pub part : between start end ps ≡ numbered number ls

pub is_part : (ls : List (List ℕ)) (number start end : ℕ) (ps ends : List ℕ) → 1 ≤ number → number ≤ length ends → ends ≡ ends_of ls → ps ≡ joined ls → start ≡ end_of ends (number - 1) → end ≡ end_of ends number → IsPart ls number start end ps
is_part ls number start end ps ends low high are all from to =
    let k : ℕ = number - 1 in
    let is : number ≡ suc k = omega (arith, low) in
    let count : length ends ≡ length ls = ap length are ∙ ends_count ls in
    let some : suc k ≤ length ls = omega (arith, is, high, count) in
    let begins : start ≡ end_of (ends_of ls) k = from ∙ ap (λ es. end_of es k) are in
    let stops : end ≡ end_of (ends_of ls) (suc k) = to ∙ (λ i. end_of (are i) (is i)) in
    let up : end_of (ends_of ls) k ≤ end_of (ends_of ls) (suc k) = ends_rise ls k some in
    let in_all : end_of (ends_of ls) (suc k) ≤ length (joined ls) = end_within ls (suc k) some in
    let as_many : length ps ≡ length (joined ls) = ap length all in
    record {
      rises = omega (arith, begins, stops, up);
      within = omega (arith, stops, in_all, as_many);
      part = (λ i. between (begins i) (stops i) (all i)) ∙ between_ends ls k some ∙ ap (λ n. numbered n ls) (sym is);
    }
