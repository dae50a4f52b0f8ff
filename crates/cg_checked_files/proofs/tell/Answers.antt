use Rattle.std.proofs.Common.{◌≡◌, ◌++◌, List, [], ℕ, ap, inr, subst, ◌∙◌}
use Rattle.cg_lines.specs.Device.{AppendsFront}
use Rattle.cg_checked_files.specs.Told.{told_lines, told_of}
use Rattle.cg_checked_files.proofs.Telling.{on_any_err}
use Rattle.cg_checked_files.proofs.tell.Goals as goal

-- what is written was appended to nothing
appended : (written text before lines : List ℕ) → written ≡ text → text ≡ before ++ lines → before ≡ [] → written ≡ lines
appended written text before lines is grown none = is ∙ grown ∙ ap (λ l. l ++ lines) none

pub returns-in_err-write_all-in-Json-clause-front : goal.returns-in_err-write_all-in-Json-clause-front
returns-in_err-write_all-in-Json-clause-front g c = λ json.
    on_any_err c.from_residual-in_err-write_all-in-Json.result
    (inr (subst (AppendsFront (g.O.Sink.taken c.args.out.now) (g.O.Sink.taken c.write_all-in-Json.new.sink))
    (appended c.as_slice.result.now c.append_told.new.out.items c.new-told.result.items (told_lines (told_of c.args.name.now c.args.kind c.args.found.now))
    c.as_slice.ensures.value c.in_ok-append_told-in-Json.ensures c.new-told.ensures.items)
    c.in_err-write_all-in-Json.ensures.bytes))
