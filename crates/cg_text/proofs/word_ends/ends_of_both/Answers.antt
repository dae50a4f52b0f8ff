use Rattle.cg_text.proofs.Masks.{ends_of_halves}
use Rattle.cg_text.proofs.word_ends.ends_of_both.Goals as goal

pub returns : goal.returns
returns g c = ends_of_halves c.args.line.now g.row.N c.args.blanks c.requires.within c.requires.few c.requires.short c.requires.blanks
