use Rattle.std.specs.Prelude.{codes}
use Rattle.cg_name.specs.Path.{path_word}
use Rattle.cg_text.specs.FileText.{op_words}
use Rattle.cg_command_text.proofs.Appending.{more_words}
use Rattle.cg_command_text.proofs.writing.append_subtree.Goals as goal

pub returns-clause-ok : goal.returns-clause-ok
returns-clause-ok c =
    more_words c.append_op_words.result c.args.out.now.items _ _ (codes "subtree") (path_word c.args.path.now) (op_words c.args.ops.now) c.in_ok-append_at.ensures.ok c.append_op_words.ensures.ok
