use Rattle.cg_path_tree.specs.Linked.{entries_of}
use Rattle.cg_path_tree.proofs.Seen.{are_closed, have_one_path, both_there}
use Rattle.cg_path_tree.proofs.path_tree.PathTree.laws.Goals as goal

pub returns-clause-closed : goal.returns-clause-closed
returns-clause-closed g c = are_closed (entries_of c.self.inside.nodes c.self.inside.order.items) c.self.inside.nodes c.self.invariant.linked c.args.self.now c.self.view_is

pub returns-clause-one_path : goal.returns-clause-one_path
returns-clause-one_path g c = have_one_path (entries_of c.self.inside.nodes c.self.inside.order.items) c.self.inside.nodes c.self.invariant.linked c.args.self.now c.self.view_is

pub returns-clause-both : goal.returns-clause-both
returns-clause-both g c = both_there (entries_of c.self.inside.nodes c.self.inside.order.items) c.self.inside.nodes c.self.invariant.linked c.args.self.now c.self.view_is
