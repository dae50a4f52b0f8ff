-- What a line says, or that it spoils the script.
use Rattle.std.proofs.Common.{◌∷◌, ◌++◌, [], List, Some, None, map, rules, sym, subst}
use Rattle.std.proofs.lemmas.Result.{err_from_is_err_and}
use Rattle.cg_history.specs.Meaning.{request_of}
use Rattle.cg_text.specs.Words.{Word, Says}
use Rattle.cg_script.specs.Request.{SpellsRequest}
use Rattle.cg_script.specs.Script.{SayRequests}
use Rattle.cg_script.specs.ScriptLines.{asked_by}
use Rattle.cg_script.proofs.Facts.{on_ok_map}
use Rattle.cg_script.proofs.Scripts.{no_words, no_request, no_script_there, said_more, silent_more}
use Rattle.cg_script.proofs.script.Script.take_line.Goals as goal

pub returns-in_err-read_words-clause-syntax : goal.returns-in_err-read_words-clause-syntax
returns-in_err-read_words-clause-syntax c =
    let gone = err_from_is_err_and c.from_residual.result c.from_residual.ensures.1 in
    λ e lines more say own b few all same. no_words c.args.line.now lines more (c.read_words.ensures.syntax (cc (gone.1, gone.2, c.in_err-read_words.was))) say

pub returns-in_err-request-clause-syntax : goal.returns-in_err-request-clause-syntax
returns-in_err-request-clause-syntax c =
    let gone = err_from_is_err_and c.from_residual-in_err-request.result c.from_residual-in_err-request.ensures.1 in
    let ws : List Word = map (λ w. w.now) c.as_slice.result.now in
    let says : Says c.args.line.now (Some ws) = search rules in
    λ e lines more say own b few all same.
    no_request c.args.line.now ws lines more says (λ r h. c.read_request.ensures.syntax (cc (gone.1, gone.2, c.in_err-request.was)) r (search (rules, h))) say

pub returns-clause-taken : goal.returns-clause-taken
returns-clause-taken c =
    let ws : List Word = map (λ w. w.now) c.as_slice.result.now in
    let r = request_of c.in_ok-request.request in
    let says : Says c.args.line.now (Some ws) = search rules in
    let spelled : SpellsRequest ws r = search (rules, c.in_ok-request.ensures.value) in
    on_ok_map c.take.result
    (λ e lines h. subst (SayRequests (lines ++ c.args.line.now ∷ [])) (sym e) (said_more lines c.args.line.now (asked_by c.args.self.now) r h (ws, says, spelled)))
    c.take.ensures.taken

pub returns-clause-syntax : goal.returns-clause-syntax
returns-clause-syntax c =
    let ws : List Word = map (λ w. w.now) c.as_slice.result.now in
    let r = request_of c.in_ok-request.request in
    let says : Says c.args.line.now (Some ws) = search rules in
    let spelled : SpellsRequest ws r = search (rules, c.in_ok-request.ensures.value) in
    λ e lines more say. no_script_there c.args.line.now r lines (asked_by c.args.self.now) more (ws, says, spelled) (c.take.ensures.syntax e) say

pub returns-then-not-branch-clause-taken : goal.returns-then-not-branch-clause-taken
returns-then-not-branch-clause-taken c =
    let none : Says c.args.line.now None = search rules in
    λ lines h. silent_more lines c.args.line.now (asked_by c.args.self.now) h none
