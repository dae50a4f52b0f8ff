use Rattle.std.proofs.Common.{sym}
use Rattle.cg_text.proofs.PlainWords.{usual_is_text, says_something}
use Rattle.cg_text.proofs.cutting.cut_plain.Goals as goal

pub returns-in-Some : goal.returns-in-Some
returns-in-Some c = λ cut.
    let line = c.args.line.now in
    (usual_is_text line c.in-Some.ensures.1, says_something line (c.cut.ensures cut).0 (sym c.if-not-starts_sign.ensures), (c.cut.ensures cut).1)
