use Rattle.std.proofs.Common.{sym, ap, ◌∙◌}
use Rattle.std.specs.Option.{option_copied}
use Rattle.cg_world.specs.Soundness.{AreSoundPlaces}
use Rattle.cg_world.proofs.SoundTrees.{some_is, place_is}
use Rattle.cg_world.proofs.soundness.is_sound_place.Goals as goal

pub returns-in-Some : goal.returns-in-Some
returns-in-Some c =
    let here = some_is (λ paths. AreSoundPlaces c.args.tree.now paths.now.keys) _ _ c.in-Some.is c.requires c.args.path.now in
    (λ t. here.0 (sym c.contains.ensures ∙ t), λ sound. c.contains.ensures ∙ here.1 sound)

pub returns-in-Some-settings : goal.returns-in-Some-settings
returns-in-Some-settings c =
    place_is c.args.tree.now c.args.path.now _ _ (sym c.settings.ensures ∙ ap option_copied c.in-Some-settings.is) c.may_have_processes.ensures
