use Rattle.std.proofs.Common.{sym, subst}
use Rattle.std.specs.Fmt.{HasWritten}
use Rattle.cg_name.proofs.Characters.{as_it_is}
use Rattle.cg_name.proofs.shown.EscapedCharDisplay.fmt.Goals as goal

pub returns-clause-writes : goal.returns-clause-writes
returns-clause-writes g c = λ plain ok.
    let same = as_it_is c.args.self.now.0 c.if-character-eq10.false (sym c.if-is_special.ensures) in
    subst (λ text. HasWritten g.W.Write.write_str_gives c.args.f.now text c.write_char-2.new.self) (sym same) (c.write_char-2.ensures.writes plain ok)
