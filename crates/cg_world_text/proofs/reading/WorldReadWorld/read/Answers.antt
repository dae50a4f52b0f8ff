-- The lines are taken from the front, and the reader's tree is the one that they spell.
use Rattle.std.proofs.Common.{◌≡◌, ℕ, ◌+◌, List, [], ◌∷◌, ◌++◌, length, take, drop, ap, subst, sym, ◌∙◌, length-append, arith, rules, tests}
use Rattle.std.specs.List.{slice_split}
use Rattle.std.proofs.Math.Seq.{take-length}
use Rattle.std.proofs.lemmas.List.{take-append-drop}
use Rattle.std.proofs.lemmas.Iterator.Splits.{YieldsList-from_slice_split}
use Rattle.std.proofs.lemmas.Iterator.Consumers.{YieldsList-at, YieldsList-turn, YieldsList-end}
use Rattle.std.proofs.lemmas.Result.{IfOk-weaker, err_from_is_err_and}
use Rattle.cg_text.specs.Words.{is_newline}
use Rattle.cg_world_text.specs.Reader.{HasTaken, SpellTree}
use Rattle.cg_world_text.proofs.Adding.{next_taken}
use Rattle.cg_world_text.proofs.Lines.{leads, spells}
use Rattle.cg_world_text.proofs.reading.WorldReadWorld.read.Goals as goal

pub loop-line-preserved : goal.loop-line-preserved
loop-line-preserved c =
    let parts : List (List ℕ) = slice_split is_newline c.args.text.now in
    let t = YieldsList-turn (YieldsList-at c.into_iter-line-iterator.ensures.into_iter_gives (YieldsList-from_slice_split _ is_newline c.args.text.now c.split-line-items.ensures.rest c.split-line-items.ensures.done c.split-line-items.ensures.closure (λ x b q k. search (rules, tests)))) c.loop-line.yielded _ c.loop-line.yielded_by _ _ c.in-Some.line c.in-Some.is c.next.ensures.steps in
    let longer : length (c.loop-line.yielded ++ c.in-Some.line ∷ []) ≡ length c.loop-line.yielded + 1 = length-append c.loop-line.yielded (c.in-Some.line ∷ []) in
    let more = ap (λ n. take n parts) longer ∙ next_taken parts (length c.loop-line.yielded) c.in-Some.line.now t.0 t.1 in
    subst (HasTaken c.take_line.new.self) (sym more) (c.in_ok-take_line.ensures.taken (take (length c.loop-line.yielded) parts) c.loop-line.invariant)

pub returns-in_err-take_line-clause-syntax : goal.returns-in_err-take_line-clause-syntax
returns-in_err-take_line-clause-syntax c =
    let parts : List (List ℕ) = slice_split is_newline c.args.text.now in
    let k : ℕ = length c.loop-line.yielded in
    let t = YieldsList-turn (YieldsList-at c.into_iter-line-iterator.ensures.into_iter_gives (YieldsList-from_slice_split _ is_newline c.args.text.now c.split-line-items.ensures.rest c.split-line-items.ensures.done c.split-line-items.ensures.closure (λ x b q k. search (rules, tests)))) c.loop-line.yielded _ c.loop-line.yielded_by _ _ c.in-Some.line c.in-Some.is c.next.ensures.steps in
    let whole = sym (take-append-drop (k + 1) parts) ∙ ap (λ ls. ls ++ drop (k + 1) parts) (next_taken parts k c.in-Some.line.now t.0 t.1) in
    let gone = err_from_is_err_and c.from_residual.result c.from_residual.ensures.1 in
    λ e T h. c.in_err-take_line.ensures.syntax (cc (gone.1, gone.2)) (take k parts) c.loop-line.invariant (drop (k + 1) parts, T, subst (λ ls. SpellTree ls T) whole (leads c.args.text.now T h))

pub returns-clause-value : goal.returns-clause-value
returns-clause-value c =
    let parts : List (List ℕ) = slice_split is_newline c.args.text.now in
    let t = YieldsList-end (YieldsList-at c.into_iter-line-iterator.ensures.into_iter_gives (YieldsList-from_slice_split _ is_newline c.args.text.now c.split-line-items.ensures.rest c.split-line-items.ensures.done c.split-line-items.ensures.closure (λ x b q k. search (rules, tests)))) c.loop-line.yielded _ c.loop-line.yielded_by _ _ c.in-None.is c.next.ensures.steps in
    let all = ap (λ n. take n parts) t.1 ∙ take-length parts in
    let taken = subst (HasTaken c.loop-line.reader) all c.loop-line.invariant in
    IfOk-weaker c.finish.result _ _ (λ w h. let k = h parts taken in spells c.args.text.now w (omega arith) k.0 k.1) c.finish.ensures.value

pub returns-clause-syntax : goal.returns-clause-syntax
returns-clause-syntax c =
    let parts : List (List ℕ) = slice_split is_newline c.args.text.now in
    let t = YieldsList-end (YieldsList-at c.into_iter-line-iterator.ensures.into_iter_gives (YieldsList-from_slice_split _ is_newline c.args.text.now c.split-line-items.ensures.rest c.split-line-items.ensures.done c.split-line-items.ensures.closure (λ x b q k. search (rules, tests)))) c.loop-line.yielded _ c.loop-line.yielded_by _ _ c.in-None.is c.next.ensures.steps in
    let all = ap (λ n. take n parts) t.1 ∙ take-length parts in
    let taken = subst (HasTaken c.loop-line.reader) all c.loop-line.invariant in
    λ e T h. c.finish.ensures.syntax e parts T taken (leads c.args.text.now T h) h.sound
