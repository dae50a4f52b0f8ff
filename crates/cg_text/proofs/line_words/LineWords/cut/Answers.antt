use Rattle.std.proofs.Common.{◌≡◌, ◌+◌, ◌<◌, ℕ, Bor, List, [], ◌∷◌, ◌++◌, ◌≤◌, nat_le, if◌then◌else◌, map, take, set, length, ap, sym, subst, ◌∙◌, arith}
use Rattle.std.proofs.lemmas.Bool.{le-leb}
use Rattle.std.proofs.lemmas.List.{length-set, map-append, take_more_set}
use Rattle.cg_text.specs.Words.{Cuts}
use Rattle.cg_text.proofs.PlainWords.{ends_next, cut_more, cut_to_end}
use Rattle.cg_text.proofs.line_words.LineWords.cut.Goals as goal

pub slice_bounds-from_utf8_unchecked-count : goal.slice_bounds-from_utf8_unchecked-count
slice_bounds-from_utf8_unchecked-count c = (ends_next c.args.line.now c.loop-place.start c.loop-place.ends c.requires.short c.requires.usual c.loop-place.invariant.cut.place).from

pub slice_bounds-from_utf8_unchecked-end : goal.slice_bounds-from_utf8_unchecked-end
slice_bounds-from_utf8_unchecked-end c = (ends_next c.args.line.now c.loop-place.start c.loop-place.ends c.requires.short c.requires.usual c.loop-place.invariant.cut.place).within

pub slice_bounds-from_utf8_unchecked-start : goal.slice_bounds-from_utf8_unchecked-start
slice_bounds-from_utf8_unchecked-start c =
    let next = ends_next c.args.line.now c.loop-place.start c.loop-place.ends c.requires.short c.requires.usual c.loop-place.invariant.cut.place in
    omega (arith, next.from, next.within)

pub from_utf8_unchecked-requires : goal.from_utf8_unchecked-requires
from_utf8_unchecked-requires c = (ends_next c.args.line.now c.loop-place.start c.loop-place.ends c.requires.short c.requires.usual c.loop-place.invariant.cut.place).text

pub overflow_sub-ends : goal.overflow_sub-ends
overflow_sub-ends c = (ends_next c.args.line.now c.loop-place.start c.loop-place.ends c.requires.short c.requires.usual c.loop-place.invariant.cut.place).some

-- the words in a row, where one more is put
put_in_row : (few : List (Bor (List ℕ))) (n : ℕ) (word : Bor (List ℕ)) (text : List ℕ) → n < length few → word.now ≡ text → map (λ w. w.now) (take (n + 1) (set few n word)) ≡ map (λ w. w.now) (take n few) ++ text ∷ []
put_in_row few n word text room e =
    ap (map (λ w. w.now)) (take_more_set few n word room) ∙ map-append (λ w. w.now) (take n few) (word ∷ []) ∙ ap (λ t. map (λ w. w.now) (take n few) ++ t ∷ []) e

-- the view of few words
view_of_few : (n : ℕ) (few many : List (Bor (List ℕ))) → n ≤ 8 → map (λ w. w.now) (if nat_le n 8 then take n few else many) ≡ map (λ w. w.now) (take n few)
view_of_few n few many h = ap (λ b. map (λ w. w.now) (if b then take n few else many)) (le-leb n 8 h)

pub returns-then-ends-eq0 : goal.returns-then-ends-eq0
returns-then-ends-eq0 c = λ _.
    let here = c.loop-place in
    let line = c.args.line.now in
    let words = put_in_row here.self-inside.few here.place c.from_utf8_unchecked.result _ (omega (arith, here.invariant.room)) c.from_utf8_unchecked.ensures in
    let cut = cut_to_end line _ here.start here.ends c.requires.short c.requires.usual here.invariant.cut c.if-start-end.false c.if-ends-eq0.true in
    (cut.0, subst (Cuts line) (sym (view_of_few (here.place + 1) (set here.self-inside.few here.place c.from_utf8_unchecked.result) here.self-inside.many.items (omega arith) ∙ words)) cut.1)

pub loop-place-preserved : goal.loop-place-preserved
loop-place-preserved c =
    let here = c.loop-place in
    let line = c.args.line.now in
    let words = put_in_row here.self-inside.few here.place c.from_utf8_unchecked.result _ (omega (arith, here.invariant.room)) c.from_utf8_unchecked.ensures in
    record {
      room = length-set here.self-inside.few here.place c.from_utf8_unchecked.result ∙ here.invariant.room;
      kept = here.invariant.kept;
      cut = rw words (cut_more line _ here.start here.ends c.requires.short c.requires.usual here.invariant.cut c.if-start-end.false c.if-ends-eq0.false);
    }
