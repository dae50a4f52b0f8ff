use Rattle.std.proofs.Common.{◌≡◌, ◌++◌, ◌∷◌, ap, sym, ◌∙◌}
use Rattle.std.proofs.lemmas.Result.{IfOk-weaker}
use Rattle.cg_history.specs.Meaning.{request_of}
use Rattle.cg_script.specs.Request.{request_line, request_text}
use Rattle.cg_json_program.proofs.Lines.{words_behind}
use Rattle.cg_json_program.proofs.reporter.request_words.Goals as goal

pub returns : goal.returns
returns c =
    let r = request_text (request_of c.args.request.now) in
    let line : c.as_slice.result.now ≡ c.args.name ++ 32 ∷ r = c.as_slice.ensures.value ∙ c.in_ok-write_line.ensures.ok ∙ ap (λ x. x ++ request_line c.args.name (request_of c.args.request.now)) c.new-line.ensures.items in
    let named : c.as_slice.result.now ≡ c.as_bytes.result.now ++ 32 ∷ r = line ∙ ap (λ n. n ++ 32 ∷ r) (sym c.as_bytes.ensures.value) in
    IfOk-weaker c.from_slice.result _ _ (λ words e. e ∙ words_behind c.as_slice.result.now c.as_bytes.result.now r named) c.from_slice.ensures.items
