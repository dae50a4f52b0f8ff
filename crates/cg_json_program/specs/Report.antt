-- What is told of an answer.
use Rattle.std.specs.Prelude.{ℕ, List, [], ◌∷◌, ◌++◌, Option, Some, None, codes}
use Rattle.json.specs.Json.{Json}
use Rattle.cg_json.specs.Text.{json_line, null, number_or_null, object, string, string_or_null}
use Rattle.cg_json_world.specs.Values.{refusal_value}
use Rattle.cg_name.specs.declared.refusal.Refusal.TheVariants.{Busy}
use Rattle.cg_model.specs.History.{Answer, Begun, Refused}
use Rattle.cg_script.specs.Answer.{answer_text}
use Rattle.cg_script.specs.Request.{newline}

-- an answer, with the session and the transaction that it is of, where they are known
pub record Said : Type 0 where
  pub session : Option (List ℕ)
  pub transaction : Option ℕ
  pub answer : Answer

-- the same, with what it is to
pub record Report : Type 0 where
  -- the number of the line in the schedule, from 1 on; an abort at the end is to none
  pub line : Option ℕ
  -- the words of the request, where the line has one
  pub request : Option (List ℕ)
  pub said : Said

-- the transaction of an answer: the session's open one before, or the one that was begun
abbrev pub told_in : Option ℕ → Answer → Option ℕ
told_in (Some t) a = Some t
told_in None (Begun t) = Some t
told_in None _ = None

-- ---- as a value of JSON

abbrev pub refused_value : Answer → Json
refused_value (Refused r) = refusal_value r
refused_value _ = null

-- the transaction in the way, where the answer names one
abbrev pub holder : Answer → Option ℕ
holder (Refused (Busy t)) = Some t.0
holder _ = None

abbrev pub told_value : Report → Json
told_value t =
    object (
    (codes "line", number_or_null t.line)
    ∷ (codes "session", string_or_null t.said.session)
    ∷ (codes "transaction", number_or_null t.said.transaction)
    ∷ (codes "request", string_or_null t.request)
    ∷ (codes "answer", string (answer_text t.said.answer))
    ∷ (codes "refused", refused_value t.said.answer)
    ∷ (codes "holder", number_or_null (holder t.said.answer))
    ∷ []
    )

-- ---- as a line

unfoldable pub told_line : Report → List ℕ
told_line t = json_line (told_value t)

-- the plain line of an answer
abbrev pub said_line : Said → List ℕ
said_line s = answer_text s.answer ++ newline

abbrev pub plain_line : Report → List ℕ
plain_line t = said_line t.said

-- ---- the last fields, for private clauses

abbrev pub answer_fields : Answer → List (List ℕ × Json)
answer_fields a = (codes "answer", string (answer_text a)) ∷ (codes "refused", refused_value a) ∷ (codes "holder", number_or_null (holder a)) ∷ []

abbrev pub request_fields : Option (List ℕ) → Answer → List (List ℕ × Json)
request_fields request a = (codes "request", string_or_null request) ∷ answer_fields a

abbrev pub session_fields : Option (List ℕ) → Said → List (List ℕ × Json)
session_fields request s = (codes "session", string_or_null s.session) ∷ (codes "transaction", number_or_null s.transaction) ∷ request_fields request s.answer
