use Rattle.cg_command_text.proofs.Appending.{some_op_words, spaced_text}
use Rattle.cg_command_text.proofs.writing.append_op_words.Goals as goal

pub returns-clause-ok : goal.returns-clause-ok
returns-clause-ok c =
    spaced_text c.write_ops.result c.args.out.now.items c.push.new.self.items _ _ _ c.in_ok-push.ensures.items c.write_ops.ensures.ok
    (some_op_words c.args.ops.now c.union.result c.is_empty.result c.union.ensures c.is_empty.ensures c.if-is_empty.false)
