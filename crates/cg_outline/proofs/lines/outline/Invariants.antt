use Rattle.std.specs.Prelude.{◌≡◌, ◌++◌}
use Rattle.std.specs.List.{flat_map}
use Rattle.cg_outline.specs.Outline.{outline_text, shown_text}
use Rattle.cg_outline.proofs.lines.outline.Given as goal

-- the lines so far and those of the groups that are left are all of them
abbrev pub invariant-loop-path : goal.invariant-loop-path
invariant-loop-path l = l.out.items ++ flat_map (shown_text l.form l.depth l.tree.tree) l.path-iterator ≡ outline_text l.form l.depth l.tree.tree
