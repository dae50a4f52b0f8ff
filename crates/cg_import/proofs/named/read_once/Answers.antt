use Rattle.std.proofs.Common.{rules}
use Rattle.cg_import.proofs.named.read_once.Goals as goal

-- the world is that of the tree that was read
pub returns-clause-world : goal.returns-clause-world
returns-clause-world g c = (c.in_ok-tree.tree, c.in-Ok.ensures.sound, c.in_ok-tree.ensures.online, search rules, c.in_ok-tree.ensures.read, c.in_ok-tree.ensures.whole)
