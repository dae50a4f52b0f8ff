use Rattle.std.proofs.Common.{◌∙◌, ap, sym}
use Rattle.std.proofs.lemmas.Bool.{false≢true}
use Rattle.cg_txn.specs.Items.{names_of}
use Rattle.cg_txn.specs.declared.entry.Item.TheVariants as items
use Rattle.cg_txn.proofs.Changed.{put_on}
use Rattle.cg_txn.proofs.Names.{with_command}
use Rattle.cg_txn.proofs.txn.Txn.push_reserved.Goals as goal

pub invariant_of-self : goal.invariant_of-self
invariant_of-self c =
    (c.self.invariant.0 ∙ sym (ap names_of c.push_back_reserved.ensures.items ∙ with_command c.self.inside.items.items c.args.entry), λ e. absurd (false≢true e))

pub returns : goal.returns
returns c = put_on c.args.self.now c.self.inside.number.0 c.self.inside.items.items c.push_back_reserved.new.self.items (items.Command c.args.entry) c.self.inside.reserved c.self.view_is c.push_back_reserved.ensures.items
