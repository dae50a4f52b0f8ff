-- A word that begins with neither sign is no operation.
use Rattle.std.proofs.Common.{◌≡◌, Bool, true, false, ◌∷◌, None}
use Rattle.std.specs.Char.{encode_utf8}
use Rattle.std.specs.Str.Pattern.{FindsCharPrefix}
use Rattle.cg_name.specs.Controller.{controller_word}
use Rattle.cg_name.specs.declared.controller.Controller.{Controller}
use Rattle.cg_text.specs.Reading.{sign_byte}
use Rattle.cg_text.specs.Words.{Word}
use Rattle.cg_command_text.proofs.reading.read_op.Goals as goal

no_sign : (w : Word) → FindsCharPrefix 43 w None → FindsCharPrefix 45 w None → (enables : Bool) (c : Controller) → w ≡ sign_byte enables ∷ controller_word c → ⊥
unfolding encode_utf8
no_sign w plus minus true c e = plus (controller_word c) e
no_sign w plus minus false c e = minus (controller_word c) e

pub returns-in-None-clause-syntax : goal.returns-in-None-clause-syntax
returns-in-None-clause-syntax c = no_sign c.args.word.now c.in_default.ensures.cases c.in-None.ensures.cases
