use Rattle.std.specs.List.{AllByRecursion}
use Rattle.cg_world.specs.Soundness.{HasSoundPlaces, IsSoundPlace}
use Rattle.cg_world.proofs.soundness.has_sound_places.Given as goal

-- what is left to look at decides the whole
abbrev pub invariant-loop-pid : goal.invariant-loop-pid
invariant-loop-pid l = AllByRecursion (λ e. IsSoundPlace l.tree e.1) l._pid-iterator → HasSoundPlaces l.tree
