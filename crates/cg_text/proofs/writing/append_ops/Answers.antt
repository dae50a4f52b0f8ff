use Rattle.std.proofs.Common.{◌≡◌, ℕ, ◌∷◌, ◌++◌, ◌||◌, Bool, true, false, cond, List, refl, sym, ap, ◌∙◌}
use Rattle.cg_maps.specs.FiniteMap.{is_nonempty}
use Rattle.cg_name.specs.Controller.{controller_word}
use Rattle.cg_name.specs.declared.controller.Controller.{Controller}
use Rattle.cg_text.specs.Controllers.{has}
use Rattle.cg_text.specs.Reading.{sign_byte}
use Rattle.cg_cpus.specs.Separated.{separated}
use Rattle.cg_name.proofs.Growing.{begins_itself}
use Rattle.cg_text.proofs.Appending.{controller_at, joined, some_with, without_this, word_with}
use Rattle.cg_text.proofs.writing.append_ops.Goals as goal
use Rattle.cg_text.proofs.writing.append_ops.Goals.{then-enables+in_ok-append_op, then-enables-via-then-enables, then-enables-via-else-enables+then-contains, else-enables+else-contains}

first_or : (a b : Bool) → a ≡ true → (a || b) ≡ true
first_or a b e = ap (λ x. x || b) e

second_or : (a b : Bool) → b ≡ true → (a || b) ≡ true
second_or true b e = refl
second_or false b e = e

neither : (a b : Bool) → a ≡ false → b ≡ false → (a || b) ≡ false
neither a b e f = ap (λ x. x || b) e ∙ f

sign : (a b : Bool) → a ≡ b → sign_byte a ≡ cond b 43 45
sign true b e = ap (λ x. cond x 43 45) e
sign false b e = ap (λ x. cond x 43 45) e

pub loop-controller-preserved : goal.loop-controller-preserved
loop-controller-preserved c =
    let plus = c.args.ops.now.plus in
    let minus = c.args.ops.now.minus in
    let p : Controller → Bool = λ d. has plus d || has minus d in
    let f : Controller → List ℕ = λ d. cond (has plus d) 43 45 ∷ controller_word d in
    let i = c.loop-controller.controller-index in
    let l = c.loop-controller-test.true in
    elim c.if-enables.branch [
      | then-enables+in_ok-append_op w ↦
          let holds : p (controller_at i) ≡ true = elim w.then-enables.branch [
            | then-enables-via-then-enables v ↦ first_or (has plus (controller_at i)) (has minus (controller_at i)) (sym c.contains-enables.ensures ∙ v.if-enables.true)
            | then-enables-via-else-enables+then-contains v ↦ second_or (has plus (controller_at i)) (has minus (controller_at i)) (sym v.contains.ensures ∙ v.if-contains.true)
          ] in
          let word = w.in_ok-append_op.ensures.ok ∙ ap (λ b. c.loop-controller.out.items ++ separated 32 c.loop-controller.behind (b ∷ controller_word (controller_at i))) (sign _ (has plus (controller_at i)) c.contains-enables.ensures) in
          let text = ap (λ v. v.items) w.out-is ∙ word_with p i l 32 f c.args.out.now.items c.loop-controller.out.items w.append_op.new.out.items c.loop-controller.behind holds c.loop-controller.invariant.text c.loop-controller.invariant.behind word in
          record { text = text; behind = w.behind-is ∙ some_with p i l holds; kept = begins_itself _ _ _ text; all = refl }
      | else-enables+else-contains w ↦
          let no : p (controller_at i) ≡ false = neither (has plus (controller_at i)) (has minus (controller_at i)) (sym c.contains-enables.ensures ∙ w.if-enables.false) (sym w.contains.ensures ∙ w.if-contains.false) in
          let same = ap (λ v. v.items) w.out-is in
          record {
            text = same ∙ c.loop-controller.invariant.text ∙ ap (λ cs. c.args.out.now.items ++ joined 32 f cs) (without_this p i l no);
            behind = w.behind-is ∙ c.loop-controller.invariant.behind ∙ ap is_nonempty (without_this p i l no);
            kept = begins_itself _ _ _ (same ∙ c.loop-controller.invariant.text);
            all = refl;
          }
    ]
