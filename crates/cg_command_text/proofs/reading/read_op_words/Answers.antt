-- The words are taken from the front.
use Rattle.std.proofs.Common.{arith}
use Rattle.cg_world_text.proofs.Adding.{next_word, at_err}
use Rattle.cg_command_text.proofs.OpWords.{no_round}
use Rattle.cg_command_text.proofs.reading.read_op_words.Goals as goal

pub returns-in_err-enables-clause-syntax : goal.returns-in_err-enables-clause-syntax
returns-in_err-enables-clause-syntax c =
    at_err c.from_residual.result (λ all. no_round _ c.loop-word.ops _ _ _ all (next_word c.args.words.now c.loop-word.word-index (omega arith)) c.in_err-enables.ensures.syntax (c.loop-word.invariant all))
