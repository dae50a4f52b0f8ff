use Rattle.std.proofs.Common.{subst}
use Rattle.std.specs.Prelude.{codes}
use Rattle.std.proofs.lemmas.Result.{IfOk-weaker}
use Rattle.cg_world_text.specs.Statement.{SpellsStatement}
use Rattle.cg_world_text.proofs.Spelled.{keyed}
use Rattle.cg_world_text.proofs.statement.Statement.read.Goals as goal

pub returns-in-group-clause-value : goal.returns-in-group-clause-value
returns-in-group-clause-value c =
    IfOk-weaker c.read_group.result _ _ (λ s h. subst (λ ws. SpellsStatement c.args.version ws s) (keyed c.args.words.now (codes "group") c.in-len1-up.len_at_least c.in-group.is) h) c.read_group.ensures.value
