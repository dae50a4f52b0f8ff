-- A teller is data: the code by which a proof tells two apart.
use Rattle.std.specs.Prelude.{ℕ, List, [], ◌∷◌, Option, refl}
use Rattle.std.specs.Coded.{Coded, code_by, coded×, coded_ℕ, coded_list, coded_option}
use Rattle.cg_history.specs.Code.{history_code}
use Rattle.cg_line_machine.specs.Teller.{Told}
use Rattle.cg_model.specs.Cgroups.{cgroups}
use Rattle.cg_model.specs.History.{Answer, Begin, History, Saved}
use Rattle.cg_replay.specs.Replay.{Replay}
use Rattle.cg_replay.specs.ReplayCode.{replay_code}

-- the answer of the newest record
abbrev newest_answer : History cgroups → Answer
newest_answer [] = Saved
newest_answer (r ∷ h) = r.answer

-- an answer has the code of a history whose one record has it
abbrev answer_code : Coded Answer
answer_code = code_by (History cgroups) history_code (λ a. record { session = 0; transaction = 0; request = Begin; answer = a } ∷ []) newest_answer (λ _. refl)

abbrev pub told_code : Coded Told
told_code =
    code_by (Replay × (Option Answer × List ℕ)) (coded× replay_code (coded× (coded_option answer_code) (coded_list coded_ℕ)))
    (λ t. (t.machine, (t.answer, t.text)))
    (λ p. record { machine = p.0; answer = p.1.0; text = p.1.1 })
    (λ _. refl)
