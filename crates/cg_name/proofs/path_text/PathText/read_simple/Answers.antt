-- The array has the text, with zero bytes behind it.
use Rattle.std.proofs.Common.{◌≡◌, ℕ, ◌-◌, ◌<◌, false, true, List, ◌∷◌, ◌++◌, length, map, replicate, take, sym, ap, ◌∙◌, arith}
use Rattle.std.proofs.Math.Seq.{take-append_seam}
use Rattle.std.proofs.lemmas.Bool.{eqb-true}
use Rattle.std.proofs.lemmas.List.{length-map}
use Rattle.cg_name.specs.Packed.{names_in, IsPacked}
use Rattle.cg_name.specs.Path.{SpellsPath}
use Rattle.cg_name.specs.Pieces.{marked}
use Rattle.cg_name.specs.Simple.{simple_text}
use Rattle.cg_name.proofs.SimpleWords.{root_spelled, short_spelled}
use Rattle.cg_name.proofs.path_text.PathText.read_simple.Goals as goal

kept : (word rest bytes text : List ℕ) (n : ℕ) → word ≡ 47 ∷ rest → length rest < 12 → simple_text true rest ≡ true → bytes ≡ (0 ∷ map marked rest) ++ replicate n 0 → text ≡ take (length word) bytes → IsPacked text × SpellsPath word (names_in text)
kept word rest bytes text n ew few simple eb et =
    let long : length word ≡ length (0 ∷ map marked rest) = omega (arith, ap length ew, length-map rest marked) in
    short_spelled word rest text ew few simple (et ∙ (λ i. take (long i) (eb i)) ∙ take-append_seam (0 ∷ map marked rest) (replicate n 0))

pub returns-then-is_empty : goal.returns-then-is_empty
returns-then-is_empty c =
    let rest = c.in_ok-first.rest.now in
    let word : c.args.word.now ≡ 47 ∷ rest = c.in_ok-first.ensures.cases.0 ∙ ap (λ b. b ∷ rest) c.if-first-ne47.false in
    let none : length rest ≡ 0 = eqb-true (length rest) 0 (sym c.is_empty.ensures ∙ c.if-is_empty.true) in
    rw c.empty.ensures (root_spelled c.args.word.now rest word none)

pub returns-then-word-lt-FEWEST : goal.returns-then-word-lt-FEWEST
returns-then-word-lt-FEWEST c =
    let rest = c.in_ok-first.rest.now in
    let word : c.args.word.now ≡ 47 ∷ rest = c.in_ok-first.ensures.cases.0 ∙ ap (λ b. b ∷ rest) c.if-first-ne47.false in
    kept c.args.word.now rest c.in_ok-marked_few.field-0 c.short.result (15 - length rest) word c.if-rest-ge-SHORT.false c.in_ok-marked_few.ensures.0 c.in_ok-marked_few.ensures.1 c.short.ensures

pub returns : goal.returns
returns c =
    let rest = c.in_ok-first.rest.now in
    let word : c.args.word.now ≡ 47 ∷ rest = c.in_ok-first.ensures.cases.0 ∙ ap (λ b. b ∷ rest) c.if-first-ne47.false in
    let marks : map marked c.args.word.now ≡ 0 ∷ map marked rest = ap (map marked) word in
    kept c.args.word.now rest c.in_ok-marked_word.field-0 c.short-2.result (16 - length c.args.word.now) word c.if-rest-ge-SHORT.false
    (ap (simple_text false) (sym word) ∙ c.in_ok-marked_word.ensures.0)
    (c.in_ok-marked_word.ensures.1 ∙ ap (λ z. z ++ replicate (16 - length c.args.word.now) 0) marks)
    c.short-2.ensures
