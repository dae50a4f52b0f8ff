use Rattle.cg_text.specs.Apart.{apart_moved, apart_turned}
use Rattle.cg_text.proofs.control_ops.ControlOps.add.Goals as goal

pub invariant_of-self : goal.invariant_of-self
invariant_of-self c = rw (c.insert.ensures, c.remove.ensures) (record { apart = apart_moved c.args.controller _ _ c.args.self.now.apart })

pub invariant_of-self-else-enables : goal.invariant_of-self-else-enables
invariant_of-self-else-enables c =
    rw (c.remove-else-enables.ensures, c.insert-else-enables.ensures)
    (record { apart = apart_turned _ _ (apart_moved c.args.controller _ _ (apart_turned _ _ c.args.self.now.apart)) })
