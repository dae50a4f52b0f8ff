use Rattle.std.proofs.Common.{◌≡◌, ◌<◌, ◌≤◌, ◌==◌, true≢false, [], length, sym, ap, subst, ◌∙◌, arith}
use Rattle.std.proofs.lemmas.Bool.{eqb-true}
use Rattle.std.proofs.lemmas.List.{nil_from_length}
use Rattle.cg_name.specs.Word.{is_blank}
use Rattle.cg_text.specs.Cutting.{behind}
use Rattle.cg_text.proofs.Cuts.{IsCutTo, cut_from_start, cut_more, cut_to_end, cut_by_none}
use Rattle.cg_text.proofs.FirstWord.{rest_is_shorter}
use Rattle.cg_text.proofs.Lists.{behind_is_shorter}
use Rattle.cg_text.proofs.cutting.cut_words.Goals as goal

pub loop-rest-init : goal.loop-rest-init
loop-rest-init c = record {
  utf8 = c.behind_blanks-rest.utf8;
  cut =
      subst (IsCutTo c.args.line.now c.clear.new.self) (sym c.behind_blanks-rest.ensures)
      (subst (λ done. IsCutTo c.args.line.now done (behind is_blank c.args.line.now)) (sym c.clear.ensures) (cut_from_start c.args.line.now));
}

pub returns-in_default-clause-syntax : goal.returns-in_default-clause-syntax
returns-in_default-clause-syntax c = λ _ ws h.
    let line = c.args.line.now in
    let rest = c.loop-rest.rest.now in
    let some : rest ≡ [] → ⊥ = λ e. true≢false (sym (c.is_empty.ensures ∙ ap (λ r. length r == 0) e) ∙ c.loop-rest-test.true) in
    cut_by_none line _ rest c.loop-rest.invariant.cut some c.in_default.ensures ws h

pub loop-rest-preserved : goal.loop-rest-preserved
loop-rest-preserved c =
    let line = c.args.line.now in
    record {
      utf8 = c.behind_blanks-rest-in-loop-rest.utf8;
      cut =
          subst (IsCutTo line c.push.new.self) (sym c.behind_blanks-rest-in-loop-rest.ensures)
          (subst (λ done. IsCutTo line done (behind is_blank c.in-Some.others.now)) (sym c.in_ok-push.ensures.ok)
          (cut_more line c.loop-rest.words c.loop-rest.rest.now c.in-Some.word.now c.in-Some.others.now c.loop-rest.invariant.cut c.in-Some.ensures));
    }

pub loop-rest-smaller : goal.loop-rest-smaller
loop-rest-smaller c =
    let shorter : length c.in-Some.others.now < length c.loop-rest.rest.now = rest_is_shorter c.loop-rest.rest.now c.in-Some.word.now c.in-Some.others.now c.in-Some.ensures in
    let behind_it : length c.behind_blanks-rest-in-loop-rest.result.now ≤ length c.in-Some.others.now = subst (λ r. length r ≤ length c.in-Some.others.now) (sym c.behind_blanks-rest-in-loop-rest.ensures) (behind_is_shorter is_blank c.in-Some.others.now) in
    omega arith

pub returns-clause-value : goal.returns-clause-value
returns-clause-value c =
    let line = c.args.line.now in
    let empty : length c.loop-rest.rest.now ≡ 0 = eqb-true (length c.loop-rest.rest.now) 0 (sym c.is_empty.ensures ∙ c.loop-rest-test.false) in
    cut_to_end line c.loop-rest.words (subst (IsCutTo line c.loop-rest.words) (nil_from_length c.loop-rest.rest.now empty) c.loop-rest.invariant.cut)
