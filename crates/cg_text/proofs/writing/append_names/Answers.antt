use Rattle.std.proofs.Common.{◌≡◌, ◌++◌, true, false, refl, sym, ap, ◌∙◌}
use Rattle.cg_maps.specs.FiniteMap.{is_nonempty}
use Rattle.cg_name.specs.Controller.{controller_word}
use Rattle.cg_text.specs.Controllers.{has}
use Rattle.cg_text.proofs.Appending.{controller_at, joined, some_with, without_this, word_with}
use Rattle.cg_name.proofs.Growing.{begins_itself}
use Rattle.cg_text.proofs.writing.append_names.Goals as goal
use Rattle.cg_text.proofs.writing.append_names.Goals.{then-contains+in_ok-append_name, else-contains}

pub loop-controller-preserved : goal.loop-controller-preserved
loop-controller-preserved c =
    let s = c.args.set.now in
    let i = c.loop-controller.controller-index in
    let l = c.loop-controller-test.true in
    elim c.if-contains.branch [
      | then-contains+in_ok-append_name w ↦
          let holds : has s (controller_at i) ≡ true = sym c.contains.ensures ∙ w.if-contains.true in
          let text = ap (λ v. v.items) w.out-is ∙ word_with (has s) i l c.args.separator controller_word c.args.out.now.items c.loop-controller.out.items w.append_name.new.out.items c.loop-controller.behind holds c.loop-controller.invariant.text c.loop-controller.invariant.behind w.in_ok-append_name.ensures.ok in
          record { text = text; behind = w.behind-is ∙ some_with (has s) i l holds; kept = begins_itself _ _ _ text; all = refl }
      | else-contains w ↦
          let no : has s (controller_at i) ≡ false = sym c.contains.ensures ∙ w.if-contains.false in
          let same = ap (λ v. v.items) w.out-is in
          record {
            text = same ∙ c.loop-controller.invariant.text ∙ ap (λ cs. c.args.out.now.items ++ joined c.args.separator controller_word cs) (without_this (has s) i l no);
            behind = w.behind-is ∙ c.loop-controller.invariant.behind ∙ ap is_nonempty (without_this (has s) i l no);
            kept = begins_itself _ _ _ (same ∙ c.loop-controller.invariant.text);
            all = refl;
          }
    ]
