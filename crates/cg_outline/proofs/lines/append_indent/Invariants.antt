use Rattle.std.specs.Prelude.{◌≡◌, ◌++◌, codes}
use Rattle.std.specs.List.{flat_map}
use Rattle.cg_outline.proofs.lines.append_indent.Given as goal

-- two spaces for each name that was passed
abbrev pub invariant-loop-name : goal.invariant-loop-name
invariant-loop-name l = l.out.items ≡ l.initial.out.items ++ flat_map (λ _. codes "  ") l.yielded
