use Rattle.std.specs.Prelude.{◌≡◌, ◌++◌}
use Rattle.cg_model.specs.Derived.{children}
use Rattle.cg_explain.specs.Notes.{first_notes, is_wanted}
use Rattle.cg_explain.proofs.below.append_children.Given as goal

-- what is told so far, and what is told of the children that are left
abbrev pub invariant-loop-child : goal.invariant-loop-child
invariant-loop-child l =
    l.out.items ++ first_notes (is_wanted l.wanted) l.said.items l.left l.child-iterator ≡ l.fn.out.items ++ first_notes (is_wanted l.wanted) l.said.items 8 (children l.tree.tree l.path)
