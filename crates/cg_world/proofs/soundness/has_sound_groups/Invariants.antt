use Rattle.std.proofs.Common.{Contains}
use Rattle.std.specs.List.{AllByRecursion}
use Rattle.cg_world.specs.declared.soundness.Found.{Found}
use Rattle.cg_world.specs.Soundness.{HasGroup, HasSoundGroups, IsSoundGroup}
use Rattle.cg_world.proofs.soundness.has_sound_groups.Given as goal

-- what is left to look at decides the whole, and those that are kept are groups of the tree
abbrev pub invariant-loop-path : goal.invariant-loop-path
invariant-loop-path l = record {
  decides : AllByRecursion (λ e. IsSoundGroup l.tree e.0 e.1) l.path-iterator → HasSoundGroups l.tree;
  groups : (g : Found) → Contains l.above.items g → HasGroup l.tree g.path.now g.settings.now;
}
