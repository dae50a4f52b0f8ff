use Rattle.std.proofs.Common.{rules, map}
use Rattle.std.proofs.lemmas.Result.{err_from_is_err_and}
use Rattle.cg_script.proofs.OneLine.{says_of, call_of}
use Rattle.cg_script.proofs.request.read_line.Goals as goal

pub returns-in_err-read_words-clause-syntax : goal.returns-in_err-read_words-clause-syntax
returns-in_err-read_words-clause-syntax c =
    let gone = err_from_is_err_and c.from_residual.result c.from_residual.ensures.1 in
    λ e call h. let says = says_of c.args.line.now call h in c.read_words.ensures.syntax (cc (gone.1, gone.2, c.in_err-read_words.was)) says.0 says.1

pub returns-in_err-read_call-clause-syntax : goal.returns-in_err-read_call-clause-syntax
returns-in_err-read_call-clause-syntax c =
    let gone = err_from_is_err_and c.from_residual-in_err-read_call.result c.from_residual-in_err-read_call.ensures.1 in
    λ e call h.
    let k = call_of c.args.line.now (map (λ w. w.now) c.as_slice.result.now) call (search rules) h in
    c.read_call.ensures.syntax (cc (gone.1, gone.2, c.in_err-read_call.was)) k.0.0 k.0.1 (search (rules, k.2))
