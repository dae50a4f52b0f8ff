use Rattle.cg_path_tree.proofs.Texts.{tells, packed}
use Rattle.cg_path_tree.proofs.path_text.text.Goals as goal

pub returns-clause-value : goal.returns-clause-value
returns-clause-value c = tells c.as_str.result.now c.args.path.now c.as_str.ensures.valid c.as_str.ensures.value

pub returns-clause-packed : goal.returns-clause-packed
returns-clause-packed c = packed c.as_str.result.now c.args.path.now c.as_str.ensures.valid c.as_str.ensures.value
