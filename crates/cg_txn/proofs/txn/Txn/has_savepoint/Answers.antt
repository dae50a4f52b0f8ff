use Rattle.std.proofs.Common.{nat_eq, ap, sym, ◌∙◌}
use Rattle.std.proofs.lemmas.List.{nil_from_length}
use Rattle.std.specs.Cmp.Lexicographic.{pointwise}
use Rattle.std.specs.List.{list_any}
use Rattle.cg_txn.proofs.Changed.{found}
use Rattle.cg_txn.proofs.txn.Txn.has_savepoint.Goals as goal

pub returns-then-is_empty : goal.returns-then-is_empty
returns-then-is_empty c =
    sym (ap (list_any (pointwise nat_eq c.args.name)) (nil_from_length c.self.inside.names.keys (c.is_empty.ensures.0 c.if-is_empty.true)))
    ∙ found c.args.name c.args.self.now c.self.inside.number.0 c.self.inside.items.items c.self.inside.names.keys c.self.inside.reserved c.self.view_is c.self.invariant.0

pub returns : goal.returns
returns c = c.contains.ensures ∙ found c.args.name c.args.self.now c.self.inside.number.0 c.self.inside.items.items c.self.inside.names.keys c.self.inside.reserved c.self.view_is c.self.invariant.0
