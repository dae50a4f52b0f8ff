-- What JSON tells of how a script ended.
use Rattle.std.specs.Prelude.{ℕ, List, [], ◌∷◌, Option, Some, None, codes}
use Rattle.json.specs.Json.{Json}
use Rattle.cg_json.specs.Text.{null, number, number_or_null, object, string}
use Rattle.cg_json_world.specs.Values.{refusal_value}
use Rattle.cg_runner.specs.End.{tries_of}
use Rattle.cg_runner.specs.declared.end.ScriptEnd.{ScriptEnd}
use Rattle.cg_runner.specs.declared.end.ScriptEnd.TheVariants.{Committed, Aborted, Failed, GaveUp}

-- the word for how a script ended
abbrev pub end_word : ScriptEnd → List ℕ
end_word (Committed number tries) = codes "committed"
end_word (Aborted tries) = codes "aborted"
end_word (Failed line refusal tries) = codes "failed"
end_word (GaveUp line holder tries) = codes "gaveup"

-- the number of its commit, where it was committed
abbrev pub commit_of : ScriptEnd → Option ℕ
commit_of (Committed number tries) = Some number
commit_of _ = None

-- the line at which it was refused, or was given up, where it was: 0 is its begin, then come its requests, and behind them what ends it
abbrev pub line_of : ScriptEnd → Option ℕ
line_of (Failed line refusal tries) = Some line
line_of (GaveUp line holder tries) = Some line
line_of _ = None

-- why it was refused, where it was
abbrev pub refused_value : ScriptEnd → Json
refused_value (Failed line refusal tries) = refusal_value refusal
refused_value _ = null

-- the transaction that was in the way of its last try, where it was given up
abbrev pub holder_of : ScriptEnd → Option ℕ
holder_of (GaveUp line holder tries) = Some holder.0
holder_of _ = None

-- what is told of script n, which ended so
abbrev pub end_value : ℕ → ScriptEnd → Json
end_value n end =
    object (
    (codes "script", number n)
    ∷ (codes "end", string (end_word end))
    ∷ (codes "commit", number_or_null (commit_of end))
    ∷ (codes "line", number_or_null (line_of end))
    ∷ (codes "refused", refused_value end)
    ∷ (codes "holder", number_or_null (holder_of end))
    ∷ (codes "tries", number (tries_of end))
    ∷ []
    )

-- ---- the last fields, for private clauses

abbrev pub holder_fields : ScriptEnd → List (List ℕ × Json)
holder_fields end = (codes "holder", number_or_null (holder_of end)) ∷ (codes "tries", number (tries_of end)) ∷ []

abbrev pub refused_fields : ScriptEnd → List (List ℕ × Json)
refused_fields end = (codes "refused", refused_value end) ∷ holder_fields end

abbrev pub commit_fields : ScriptEnd → List (List ℕ × Json)
commit_fields end = (codes "commit", number_or_null (commit_of end)) ∷ (codes "line", number_or_null (line_of end)) ∷ refused_fields end
