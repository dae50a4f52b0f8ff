-- Where all was read, the tree is the one that the lines spell.
use Rattle.std.proofs.Common.{◌≡◌, subst, sym, ◌∙◌}
use Rattle.std.proofs.lemmas.Result.{err_from_is_err_and}
use Rattle.cg_model.specs.Sound.{Sound}
use Rattle.cg_world_text.specs.declared.stage.Stage.TheVariants.{Ended}
use Rattle.cg_world_text.specs.Reader.{HasTaken, SpellTree}
use Rattle.cg_world_text.proofs.Taken.{all_taken, taken_all, tree_taken}
use Rattle.cg_world_text.proofs.reader.WorldReader.finish.Goals as goal

pub returns-clause-syntax : goal.returns-clause-syntax
returns-clause-syntax c = λ e lines T h k _. let all = all_taken c.args.self lines T h k in c.in_default.not-Ended all.0 T (cc (all.1, c.self.view_is))

pub returns-in_err-check_sound-in-Ended-clause-syntax : goal.returns-in_err-check_sound-in-Ended-clause-syntax
returns-in_err-check_sound-in-Ended-clause-syntax c =
    let gone = err_from_is_err_and c.from_residual.result c.from_residual.ensures.1 in
    let at : c.args.self ≡ Ended c.in-Ended.field-0 c.in-Ended.tree = sym c.self.view_is ∙ c.in-Ended.is in
    λ e lines T h k sound.
    let same = tree_taken c.in-Ended.field-0 c.in-Ended.tree lines T (subst (λ st. HasTaken st lines) at h) k in
    c.in_err-check_sound-in-Ended.ensures.syntax (cc (gone.1, gone.2)) (subst Sound same sound)

pub returns-in-Ended-clause-value : goal.returns-in-Ended-clause-value
returns-in-Ended-clause-value c =
    let at : c.args.self ≡ Ended c.in-Ended.field-0 c.in-Ended.tree = sym c.self.view_is ∙ c.in-Ended.is in
    let same = c.from_tree.ensures in
    λ lines h. (
      subst (SpellTree lines) (sym same) (taken_all c.in-Ended.field-0 c.in-Ended.tree lines (subst (λ st. HasTaken st lines) at h)),
      subst Sound (sym c.from_tree.ensures) c.in_ok-check_sound-in-Ended.ensures.sound,
    )
