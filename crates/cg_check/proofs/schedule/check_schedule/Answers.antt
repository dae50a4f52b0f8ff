-- The lines are taken from the front, and the faults are those of the lines so far.
use Rattle.std.proofs.Common.{◌≡◌, ℕ, ◌+◌, List, [], ◌∷◌, ◌++◌, length, take, ap, subst, sym, ◌∙◌, length-append, append-nil, rules, tests}
use Rattle.std.specs.List.{slice_split}
use Rattle.std.proofs.Math.Seq.{take-length}
use Rattle.std.proofs.lemmas.Iterator.Splits.{YieldsList-from_slice_split}
use Rattle.std.proofs.lemmas.Iterator.Consumers.{YieldsList-at, YieldsList-turn, YieldsList-end}
use Rattle.cg_text.specs.Words.{is_newline}
use Rattle.cg_world_text.proofs.Adding.{next_taken}
use Rattle.cg_check.proofs.Schedules.{HasFaults, PassAll, is_schedule, line_more, no_lines, parts_pass}
use Rattle.cg_check.proofs.schedule.check_schedule.Goals as goal

pub loop-line-init : goal.loop-line-init
loop-line-init c = no_lines _ _ c.none-faults.ensures (search rules)

pub loop-line-preserved : goal.loop-line-preserved
loop-line-preserved c =
    let parts : List (List ℕ) = slice_split is_newline c.args.text.now in
    let t = YieldsList-turn (YieldsList-at c.into_iter-line-iterator.ensures.into_iter_gives (YieldsList-from_slice_split _ is_newline c.args.text.now c.split-line-items.ensures.rest c.split-line-items.ensures.done c.split-line-items.ensures.closure (λ x b q k. search (rules, tests)))) c.loop-line.yielded _ c.loop-line.yielded_by _ _ c.in-Some.line c.in-Some.is c.next.ensures.steps in
    let longer : length (c.loop-line.yielded ++ c.in-Some.line ∷ []) ≡ length c.loop-line.yielded + 1 = length-append c.loop-line.yielded (c.in-Some.line ∷ []) in
    let more = ap (λ n. take n parts) longer ∙ next_taken parts (length c.loop-line.yielded) c.in-Some.line.now t.0 t.1 in
    subst (λ ls. HasFaults c.check_line.new.faults.count ls c.check_line.new.names.keys) (sym more)
    (line_more c.loop-line.faults.count c.check_line.new.faults.count (take (length c.loop-line.yielded) parts) c.in-Some.line.now c.loop-line.names.keys c.check_line.new.names.keys c.loop-line.invariant c.in_ok-check_line.ensures.passes c.in_ok-check_line.ensures.fails)

pub returns-clause-right : goal.returns-clause-right
returns-clause-right c =
    let parts : List (List ℕ) = slice_split is_newline c.args.text.now in
    let t = YieldsList-end (YieldsList-at c.into_iter-line-iterator.ensures.into_iter_gives (YieldsList-from_slice_split _ is_newline c.args.text.now c.split-line-items.ensures.rest c.split-line-items.ensures.done c.split-line-items.ensures.closure (λ x b q k. search (rules, tests)))) c.loop-line.yielded _ c.loop-line.yielded_by _ _ c.in-None.is c.next.ensures.steps in
    let all = ap (λ n. take n parts) t.1 ∙ take-length parts in
    let h = subst (λ ls. HasFaults c.loop-line.faults.count ls c.loop-line.names.keys) all c.loop-line.invariant in
    λ e. is_schedule c.args.text.now c.loop-line.names.keys (h.none e)

pub returns-clause-wrong : goal.returns-clause-wrong
returns-clause-wrong c =
    let parts : List (List ℕ) = slice_split is_newline c.args.text.now in
    let t = YieldsList-end (YieldsList-at c.into_iter-line-iterator.ensures.into_iter_gives (YieldsList-from_slice_split _ is_newline c.args.text.now c.split-line-items.ensures.rest c.split-line-items.ensures.done c.split-line-items.ensures.closure (λ x b q k. search (rules, tests)))) c.loop-line.yielded _ c.loop-line.yielded_by _ _ c.in-None.is c.next.ensures.steps in
    let all = ap (λ n. take n parts) t.1 ∙ take-length parts in
    let h = subst (λ ls. HasFaults c.loop-line.faults.count ls c.loop-line.names.keys) all c.loop-line.invariant in
    λ some right. let p = parts_pass c.args.text.now right in h.some some [] p.0 (subst (λ ls. PassAll [] ls p.0) (sym (append-nil parts)) p.1)
