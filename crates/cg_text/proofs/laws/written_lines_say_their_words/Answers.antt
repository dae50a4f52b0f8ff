use Rattle.cg_text.proofs.WrittenLines.{say_lines}
use Rattle.cg_text.proofs.laws.written_lines_say_their_words.Goals as goal

pub returns : goal.returns
returns c = say_lines
