use Rattle.std.proofs.Common.{Err, ap, sym, subst}
use Rattle.cg_name.specs.Path.{SpellsPath}
use Rattle.cg_watch.proofs.Words.{cut_file, cut_path, never_cut}
use Rattle.cg_watch.proofs.watch.read_word.Goals as goal

pub returns-in_default-clause-syntax : goal.returns-in_default-clause-syntax
returns-in_default-clause-syntax c = λ e p f named. never_cut c.args.word.now named.0 f c.in_default.ensures.cases named.1

pub returns-in_default-read-clause-syntax : goal.returns-in_default-read-clause-syntax
returns-in_default-read-clause-syntax c = λ e p f named.
    c.in_default-read.ensures.syntax (ap Err c.in_default-read.ensures.refusals) f
    (cut_file c.args.word.now c.in-Some.path.now c.in-Some.file.now named.0 f c.in-Some.ensures.cases named.1)

pub returns-in-Err-Syntax-clause-syntax : goal.returns-in-Err-Syntax-clause-syntax
returns-in-Err-Syntax-clause-syntax c = λ e p f named.
    let same = cut_path c.args.word.now c.in-Some.path.now c.in-Some.file.now named.0 f c.in-Some.ensures.cases named.1 in
    c.in-Err-Syntax.ensures.syntax (ap Err c.in-Err-Syntax.field-0-is) p (subst (λ text. SpellsPath text p) (sym same) named.2)
