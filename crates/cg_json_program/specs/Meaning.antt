-- What the code's replies mean.
use Rattle.std.specs.Prelude.{ℕ, List, Option, option_map}
use Rattle.cg_history.specs.Meaning.{answer_of}
use Rattle.cg_json_program.specs.Report.{Said, Report}
use Rattle.cg_json_program.specs.declared.telling.Reply.{Reply}

abbrev pub said_of : Reply → Said
said_of r = record { session = r.session; transaction = option_map (λ t. t.0) r.txn; answer = answer_of r.answer }

abbrev pub told_of : Option ℕ → Option (List ℕ) → Reply → Report
told_of line request r = record { line = line; request = request; said = said_of r }
