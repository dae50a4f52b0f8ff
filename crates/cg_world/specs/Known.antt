-- What is known of a tree's processes beside the tree.
use Rattle.std.specs.Prelude.{Bool, IsTrue}
use Rattle.cg_model.specs.Tree.{Tree}
use Rattle.cg_world.specs.Representable.{IsRepresentable}
use Rattle.cg_world.specs.Soundness.{HasSoundPlaces}

-- code can hold the tree, and where the test says so, each process is in a group that may have it
pub record IsAsKnown (T : Tree) (are_places_sound : Bool) : Type 0 where
  pub representable : IsRepresentable T
  pub places : IsTrue are_places_sound → HasSoundPlaces T
