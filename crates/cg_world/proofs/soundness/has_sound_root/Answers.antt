use Rattle.std.proofs.Common.{option_copied, sym, ap, ◌∙◌}
use Rattle.cg_model.specs.Tree.{group}
use Rattle.cg_world.proofs.SoundTrees.{root_is}
use Rattle.cg_world.proofs.soundness.has_sound_root.Goals as goal

pub returns-in-Some : goal.returns-in-Some
returns-in-Some c = root_is c.args.tree.now _ _ (ap (group c.args.tree.now) (sym c.root.ensures) ∙ sym c.settings-2.ensures ∙ ap option_copied c.in-Some.is) c.may_be_root.ensures
