use Rattle.cg_text.proofs.Files.{one_file}
use Rattle.cg_text.proofs.Limits.{one_limit}
use Rattle.cg_text.proofs.Spelled.{one_ops}
use Rattle.cg_text.proofs.laws.a_text_spells_at_most_one_value.Goals as goal

pub returns-clause-limit : goal.returns-clause-limit
returns-clause-limit c = one_limit

pub returns-clause-operations : goal.returns-clause-operations
returns-clause-operations c = one_ops

pub returns-clause-file : goal.returns-clause-file
returns-clause-file c = one_file
