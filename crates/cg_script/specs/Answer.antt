-- The lines of answers.
use Rattle.std.specs.Prelude.{ℕ, List, ◌++◌, codes}
use Rattle.std.specs.Fmt.{decimal}
use Rattle.cg_name.specs.Refusal.{refusal_text}
use Rattle.cg_name.specs.Word.{quoted_text}
use Rattle.cg_model.specs.History.{Answer, Begun, Gave, Saved, WentBack, Committed, Aborted, Refused}
use Rattle.cg_model.specs.System.{Done, Text}

-- the line that answers a request, without its newline
abbrev pub answer_text : Answer → List ℕ
answer_text (Begun t) = codes "begun " ++ decimal t
answer_text (Gave Done) = codes "done"
answer_text (Gave (Text x)) = codes "text " ++ quoted_text x
answer_text Saved = codes "saved"
answer_text (WentBack n) = codes "back " ++ decimal n
answer_text (Committed k) = codes "committed " ++ decimal k
answer_text (Aborted t) = codes "aborted " ++ decimal t
answer_text (Refused r) = refusal_text r
