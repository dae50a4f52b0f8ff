use Rattle.cg_world_text.specs.World.{world_text}
use Rattle.cg_world_text.proofs.ToCome.{all_taken, one_more_taken}
use Rattle.cg_world_text.proofs.tree_writing.append_tree.Goals as goal

pub lines-preserved : goal.lines-preserved
lines-preserved c =
    one_more_taken c.args.out.now.items (world_text c.args.tree.now.tree) c.lines.out.items c.lines.lines c.append_next.new.out.items c.append_next.new.self c.lines.invariant c.in_ok-append_next.ensures.line

pub returns-clause-ok : goal.returns-clause-ok
returns-clause-ok c =
    all_taken c.args.out.now.items (world_text c.args.tree.now.tree) c.lines.out.items c.lines.lines c.append_next.new.out.items c.append_next.new.self c.lines.invariant c.in_ok-append_next.ensures.line (c.in_ok-append_next.ensures.none c.if-branch.false)
