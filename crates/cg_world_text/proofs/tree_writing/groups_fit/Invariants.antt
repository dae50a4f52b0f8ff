use Rattle.std.proofs.Common.{◌≡◌}
use Rattle.std.specs.List.{list_all}
use Rattle.cg_world_text.specs.World.{settings_fit_one}
use Rattle.cg_world_text.proofs.tree_writing.groups_fit.Given as goal

-- what is left to look at decides the whole
abbrev pub invariant-loop-path : goal.invariant-loop-path
invariant-loop-path l = list_all (λ e. settings_fit_one e.1) l._path-iterator ≡ list_all (λ e. settings_fit_one e.1) l.groups
