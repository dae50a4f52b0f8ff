use Rattle.std.proofs.Common.{◌*◌, ◌%◌, ◌^◌, ◌<◌, bit_or, length, arith, ap, ◌∙◌}
use Rattle.cg_text.proofs.Masks.{split_parts, first_part, more_parts, all_parts, all_usual}
use Rattle.cg_text.proofs.word_ends.word_ends.Goals as goal

pub loop-front-init : goal.loop-front-init
loop-front-init c =
    let line = c.args.line.now in
    let both = c.in-Some-Some in
    let split = split_parts line both.front.now both.last.now both.ensures'.cases in
    record {
      first = both.ensures.cases.same;
      long = omega (arith, both.ensures'.cases.2);
      ends = first_part line both.front.now both.last.now both.first.now _ _ split.0 split.1 both.ensures.cases.same (ap (λ b. bit_or 65536 b) c.blanks_in.ensures) (λ i. bit_or (c.unusual_in.ensures i) (c.unusual_in-2.ensures i));
    }

pub loop-front-preserved : goal.loop-front-preserved
loop-front-preserved c =
    let line = c.args.line.now in
    let rest = c.loop-front.rest.now in
    let last = c.in-Some in
    let split = split_parts rest last.front.now last.last.now last.ensures.cases in
    record {
      first = c.loop-front.invariant.first;
      long = omega (arith, last.ensures.cases.2, c.loop-front.invariant.long);
      ends =
          more_parts line rest last.front.now last.last.now c.loop-front.ends c.loop-front.unusual _ _ c.loop-front.invariant.ends split.0 split.1 c.requires.short
          (ap (λ b. bit_or (c.loop-front.ends * 65536 % 18446744073709551616) b) c.blanks_in-in-Some.ensures) (ap (λ b. bit_or c.loop-front.unusual b) c.unusual_in-unusual.ensures);
    }

pub returns : goal.returns
returns c =
    let line = c.args.line.now in
    let rest = c.loop-front.rest.now in
    let behind = c.loop-front.invariant.ends in
    let few : length rest < 16 = c.in_default-split_last_chunk.ensures.cases in (
      ap (λ b. bit_or (c.loop-front.ends * 2 ^ length rest % 18446744073709551616) b) c.blanks_in-2.ensures
          ∙ all_parts line rest c.in-Some-Some.first.now c.loop-front.ends c.loop-front.unusual behind c.in-Some-Some.ensures.cases.same few c.in-Some-Some.ensures.cases.enough c.requires.short,
      all_usual line rest c.loop-front.ends c.loop-front.unusual behind few c.if-unusual-ne0.false,
    )
