use Rattle.std.proofs.Common.{◌∙◌, ap, length}
use Rattle.cg_txn.proofs.Taking.{same_length}
use Rattle.cg_txn.proofs.txn.Txn.len.Goals as goal

pub returns : goal.returns
returns c = c.len.ensures ∙ c.self.inside.items.ok.0 ∙ same_length c.self.inside.items.items ∙ ap (λ s. length s.items) c.self.view_is
