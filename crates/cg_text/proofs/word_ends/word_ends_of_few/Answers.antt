use Rattle.std.proofs.Common.{map, ap, ◌∙◌, arith}
use Rattle.std.specs.Simd.Lanes.{mask_l}
use Rattle.cg_name.specs.Word.{is_blank}
use Rattle.cg_text.specs.WordEnds.{is_unusual}
use Rattle.cg_text.proofs.Masks.{halves, usual_halves}
use Rattle.cg_text.proofs.word_ends.word_ends_of_few.Goals as goal

pub ends_of_both-requires-clause-blanks : goal.ends_of_both-requires-clause-blanks
ends_of_both-requires-clause-blanks c =
    c.blanks_in.ensures ∙ ap (λ bs. mask_l (map is_blank bs)) (halves c.args.line.now c.in-Some-Some.first.now c.in-Some-Some.last.now 8 c.in-Some-Some.ensures.cases c.in-Some-Some.ensures'.cases)

pub returns-in-Some-Some : goal.returns-in-Some-Some
returns-in-Some-Some c =
    let line = c.args.line.now in
    let same = halves line c.in-Some-Some.first.now c.in-Some-Some.last.now 8 c.in-Some-Some.ensures.cases c.in-Some-Some.ensures'.cases in
    (c.ends_of_both.ensures, usual_halves line 8 c.unusual_in.result c.in-Some-Some.ensures'.cases.0 (omega arith) (c.unusual_in.ensures ∙ ap (λ bs. mask_l (map is_unusual bs)) same) c.if-unusual_in-ne0.false)

pub ends_of_both-requires-2-clause-blanks : goal.ends_of_both-requires-2-clause-blanks
ends_of_both-requires-2-clause-blanks c =
    c.blanks_in-2.ensures ∙ ap (λ bs. mask_l (map is_blank bs)) (halves c.args.line.now c.in-Some-Some-2.first.now c.in-Some-Some-2.last.now 4 c.in-Some-Some-2.ensures.cases c.in-Some-Some-2.ensures'.cases)

pub returns : goal.returns
returns c =
    let line = c.args.line.now in
    let same = halves line c.in-Some-Some-2.first.now c.in-Some-Some-2.last.now 4 c.in-Some-Some-2.ensures.cases c.in-Some-Some-2.ensures'.cases in
    (c.ends_of_both-2.ensures, usual_halves line 4 c.unusual_in-2.result c.in-Some-Some-2.ensures'.cases.0 (grind arith) (c.unusual_in-2.ensures ∙ ap (λ bs. mask_l (map is_unusual bs)) same) c.if-unusual_in-ne0-2.false)
