-- A number of eight bytes and one of four tell twelve bytes.
use Rattle.std.proofs.Common.{◌≡◌, ℕ, List, ◌++◌, length, take, drop, refl, sym, ap, ◌∙◌, arith}
use Rattle.std.specs.Int.{w32, w64, from_le_bytes, to_le_bytes}
use Rattle.std.proofs.Math.Seq.{take-add}
use Rattle.std.proofs.lemmas.Bool.{eqb-true}
use Rattle.std.proofs.lemmas.List.{take_all, length-take-le, length-drop}
use Rattle.std.proofs.lemmas.Nat.{le_bytes_4, le_bytes_8}
use Rattle.cg_name.proofs.FewBytes.{AreBytes, bytes_behind, first_bytes}
use Rattle.cg_name.proofs.path_text.are_same.Goals as goal

-- eight bytes by their number
eight : (xs ys : List ℕ) → length xs ≡ 8 → length ys ≡ 8 → AreBytes xs → AreBytes ys → from_le_bytes w64 xs ≡ from_le_bytes w64 ys → xs ≡ ys
eight xs ys l m g h e = sym (le_bytes_8 xs (from_le_bytes w64 xs) l g refl) ∙ ap (to_le_bytes w64) e ∙ le_bytes_8 ys (from_le_bytes w64 ys) m h refl

-- and four
four : (xs ys : List ℕ) → length xs ≡ 4 → length ys ≡ 4 → AreBytes xs → AreBytes ys → from_le_bytes w32 xs ≡ from_le_bytes w32 ys → xs ≡ ys
four xs ys l m g h e = sym (le_bytes_4 xs (from_le_bytes w32 xs) l g refl) ∙ ap (to_le_bytes w32) e ∙ le_bytes_4 ys (from_le_bytes w32 ys) m h refl

parts : (xs : List ℕ) → length xs ≡ 12 → take 8 xs ++ take 4 (drop 8 xs) ≡ xs
parts xs l = sym (take-add 8 4 xs) ∙ take_all 12 xs (omega (arith, l))

same : (xs ys : List ℕ) → length xs ≡ 12 → length ys ≡ 12 → AreBytes xs → AreBytes ys → from_le_bytes w64 (take 8 xs) ≡ from_le_bytes w64 (take 8 ys)
    → from_le_bytes w32 (take 4 (drop 8 xs)) ≡ from_le_bytes w32 (take 4 (drop 8 ys)) → xs ≡ ys
same xs ys l m g h e f =
    let front = eight (take 8 xs) (take 8 ys) (length-take-le 8 xs (omega (arith, l))) (length-take-le 8 ys (omega (arith, m))) (first_bytes 8 xs g) (first_bytes 8 ys h) e in
    let k = length-drop 8 xs in
    let j = length-drop 8 ys in
    let back =
    four (take 4 (drop 8 xs)) (take 4 (drop 8 ys)) (length-take-le 4 (drop 8 xs) (omega (arith, l, k))) (length-take-le 4 (drop 8 ys) (omega (arith, m, j)))
    (first_bytes 4 (drop 8 xs) (bytes_behind 8 xs g)) (first_bytes 4 (drop 8 ys) (bytes_behind 8 ys h)) f in
    sym (parts xs l) ∙ ap (λ w. w ++ take 4 (drop 8 xs)) front ∙ ap (λ w. take 8 ys ++ w) back ∙ parts ys m

pub returns-then-first_eight : goal.returns-then-first_eight
returns-then-first_eight c =
    λ e.
    same c.args.bytes.now c.args.others.now c.told-bytes c.told-others c.fits-bytes c.fits-others
    (sym c.first_eight.ensures ∙ c.if-first_eight.true ∙ c.first_eight-2.ensures)
    (sym c.last_four.ensures ∙ eqb-true c.last_four.result c.last_four-then-first_eight.result e ∙ c.last_four-then-first_eight.ensures)
