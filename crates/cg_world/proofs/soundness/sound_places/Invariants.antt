use Rattle.cg_world.proofs.SoundTrees.{Collects}
use Rattle.cg_world.proofs.soundness.sound_places.Given as goal

abbrev pub invariant-loop-path : goal.invariant-loop-path
invariant-loop-path l = Collects l.tree l.paths.keys l.path-iterator
