use Rattle.std.proofs.Common.{◌∙◌, ap, length, rules, sym}
use Rattle.std.proofs.lemmas.Fn.{filter_same}
use Rattle.cg_txn.specs.Items.{is_command, names_of, stack_of}
use Rattle.cg_txn.proofs.Taking.{commands_left, no_names_left, only_commands}
use Rattle.cg_txn.proofs.items.drop_savepoints.Goals as goal

pub returns-then-is_empty-clause-value : goal.returns-then-is_empty-clause-value
returns-then-is_empty-clause-value c = only_commands c.args.items.now.items (sym (ap length c.requires) ∙ c.is_empty.ensures.0 c.if-is_empty.true)

pub returns-clause-value : goal.returns-clause-value
returns-clause-value c =
    ap stack_of (filter_same _ is_command _ (λ x b f t. search rules) _ _ c.retain.ensures.filtered) ∙ commands_left c.args.items.now.items

pub returns-clause-none : goal.returns-clause-none
returns-clause-none c =
    ap names_of (filter_same _ is_command _ (λ x b f t. search rules) _ _ c.retain.ensures.filtered) ∙ no_names_left c.args.items.now.items
