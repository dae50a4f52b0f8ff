use Rattle.std.proofs.Common.{◌∙◌, refl}
use Rattle.std.specs.VecDeque.{deque_len}
use Rattle.cg_txn.proofs.Taking.{last_tells}
use Rattle.cg_txn.proofs.items.ends_in_command.Goals as goal

pub returns-in-Some : goal.returns-in-Some
returns-in-Some c =
    c.is_command.ensures
    ∙ last_tells c.args.items.now.items (deque_len c.args.items.now) c.in-Some.item.now c.args.items.now.ok.0 (c.in-Some.ensures.variant.0 refl) c.in-Some.ensures.lookup
