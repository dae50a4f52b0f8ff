-- The lines are taken from the front, and the script is the one that they spell.
use Rattle.std.proofs.Common.{◌≡◌, ℕ, ◌+◌, List, [], ◌∷◌, ◌++◌, length, take, drop, ap, subst, sym, ◌∙◌, length-append, append_assoc, arith, rules, tests}
use Rattle.std.specs.List.{slice_split}
use Rattle.std.proofs.Math.Seq.{take-length}
use Rattle.std.proofs.lemmas.List.{take-append-drop}
use Rattle.std.proofs.lemmas.Iterator.Splits.{YieldsList-from_slice_split}
use Rattle.std.proofs.lemmas.Iterator.Consumers.{YieldsList-at, YieldsList-turn, YieldsList-end}
use Rattle.std.proofs.lemmas.Result.{err_from_is_err_and}
use Rattle.cg_text.specs.Words.{is_newline}
use Rattle.cg_world_text.proofs.Adding.{next_taken}
use Rattle.cg_script.specs.Script.{SayRequests}
use Rattle.cg_script.specs.ScriptLines.{asked_by}
use Rattle.cg_script.proofs.Scripts.{spells, spoiled}
use Rattle.cg_script.proofs.script_reader.read_script.Goals as goal

pub loop-line-init : goal.loop-line-init
loop-line-init c = c.new-script.ensures

pub loop-line-preserved : goal.loop-line-preserved
loop-line-preserved c =
    let parts : List (List ℕ) = slice_split is_newline c.args.text.now in
    let t = YieldsList-turn (YieldsList-at c.into_iter-line-iterator.ensures.into_iter_gives (YieldsList-from_slice_split _ is_newline c.args.text.now c.split-line-items.ensures.rest c.split-line-items.ensures.done c.split-line-items.ensures.closure (λ x b q k. search (rules, tests)))) c.loop-line.yielded _ c.loop-line.yielded_by _ _ c.in-Some.line c.in-Some.is c.next.ensures.steps in
    let longer : length (c.loop-line.yielded ++ c.in-Some.line ∷ []) ≡ length c.loop-line.yielded + 1 = length-append c.loop-line.yielded (c.in-Some.line ∷ []) in
    let more = ap (λ n. take n parts) longer ∙ next_taken parts (length c.loop-line.yielded) c.in-Some.line.now t.0 t.1 in
    subst (λ ls. SayRequests ls (asked_by c.take_line.new.self)) (sym more) (c.in_ok-take_line.ensures.taken (take (length c.loop-line.yielded) parts) c.loop-line.invariant)

pub returns-in_err-take_line-clause-syntax : goal.returns-in_err-take_line-clause-syntax
returns-in_err-take_line-clause-syntax c =
    let parts : List (List ℕ) = slice_split is_newline c.args.text.now in
    let k : ℕ = length c.loop-line.yielded in
    let line : List ℕ = c.in-Some.line.now in
    let t = YieldsList-turn (YieldsList-at c.into_iter-line-iterator.ensures.into_iter_gives (YieldsList-from_slice_split _ is_newline c.args.text.now c.split-line-items.ensures.rest c.split-line-items.ensures.done c.split-line-items.ensures.closure (λ x b q k. search (rules, tests)))) c.loop-line.yielded _ c.loop-line.yielded_by _ _ c.in-Some.line c.in-Some.is c.next.ensures.steps in
    let whole = sym (take-append-drop (k + 1) parts) ∙ ap (λ ls. ls ++ drop (k + 1) parts) (next_taken parts k line t.0 t.1) ∙ append_assoc (take k parts) (line ∷ []) (drop (k + 1) parts) in
    let gone = err_from_is_err_and c.from_residual.result c.from_residual.ensures.1 in
    λ e. spoiled c.args.text.now (take k parts) (drop (k + 1) parts) line (asked_by c.loop-line.script) whole c.loop-line.invariant (c.in_err-take_line.ensures.syntax (cc (gone.1, gone.2)) (drop (k + 1) parts))

pub returns-clause-value : goal.returns-clause-value
returns-clause-value c =
    let parts : List (List ℕ) = slice_split is_newline c.args.text.now in
    let t = YieldsList-end (YieldsList-at c.into_iter-line-iterator.ensures.into_iter_gives (YieldsList-from_slice_split _ is_newline c.args.text.now c.split-line-items.ensures.rest c.split-line-items.ensures.done c.split-line-items.ensures.closure (λ x b q k. search (rules, tests)))) c.loop-line.yielded _ c.loop-line.yielded_by _ _ c.in-None.is c.next.ensures.steps in
    let all = ap (λ n. take n parts) t.1 ∙ take-length parts in
    let say = subst (λ ls. SayRequests ls (asked_by c.loop-line.script)) all c.loop-line.invariant in
    let few = c.loop-line.script.few in
    let counted = c.loop-line.script.requests.ok in
    spells c.args.text.now c.loop-line.script.requests.items c.loop-line.script.aborts (omega arith) (omega (arith, few, counted)) c.loop-line.script.own say
