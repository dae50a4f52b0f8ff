use Rattle.std.proofs.Common.{subst}
use Rattle.cg_world.specs.Soundness.{HasSoundPlaces}
use Rattle.cg_world.proofs.plain.PlainTree.are_places_sound.Goals as goal

pub returns : goal.returns
returns c = λ t. subst HasSoundPlaces c.self.view_is (c.self.invariant.places t)
