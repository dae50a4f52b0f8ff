-- The machine whose commits are published is the one that the lock holds.
use Rattle.cg_desk.proofs.desk.Desk.publish.Goals as goal

pub returns-clause-of_machine : goal.returns-clause-of_machine
returns-clause-of_machine g c = (
  c.deref.result.now.core,
  record {
    reached = c.laws.ensures.reached;
    all = c.publish.ensures.all;
    tree = c.publish.ensures.tree;
    disagree = c.publish.ensures.disagree;
    goes_on = c.publish.ensures.goes_on;
  },
)
