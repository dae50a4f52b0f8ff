-- The script lies between two ends.
use Rattle.std.proofs.Common.{◌≡◌, ◌-◌, ◌<◌, length, sym, ap, ◌∙◌, arith}
use Rattle.cg_core_laws.specs.CommittedCommands.{committed_places, script_places}
use Rattle.cg_core_laws.proofs.Interleaving.CommittedPlaces.{numbered_past}
use Rattle.cg_commits.specs.Layout.{end_of}
use Rattle.cg_commits.proofs.Ends.{ends_count, is_part, none_numbered, IsPart}
use Rattle.cg_commits.proofs.commit_history.CommitHistory.script.Goals as goal

pub returns-then-count-eq0 : goal.returns-then-count-eq0
returns-then-count-eq0 c = sym (ap (λ n. script_places n c.args.self.now.0) c.if-count-eq0.true ∙ none_numbered (committed_places c.args.self.now.0))

pub returns-then-len-count : goal.returns-then-len-count
returns-then-len-count c =
    let ends = c.self.inside.ends in
    let few : length (committed_places c.self.inside.history.0) < c.args.number =
    let all : length ends.items ≡ length (committed_places c.self.inside.history.0) = ap length c.self.invariant.ends ∙ ends_count (committed_places c.self.inside.history.0) in
    let items = ends.ok.0 in let len = c.len.ensures in let less = c.if-len-count.true in omega (arith, all, items, len, less)
    in
    sym (ap (λ v. script_places c.args.number v.0) (sym c.self.view_is) ∙ numbered_past c.args.number (committed_places c.self.inside.history.0) few)

pub offset_bounds-deref-start : goal.offset_bounds-deref-start
offset_bounds-deref-start c =
    let part : IsPart (committed_places c.self.inside.history.0) c.args.number c.end_after-start.result c.end_after-end.result c.deref-4.result.now =
    is_part (committed_places c.self.inside.history.0) c.args.number _ _ _ c.deref-3.result.now
    (let some = c.if-count-eq0.false in omega (arith, some)) (let high = c.if-len-count.false in let len = c.len.ensures in let is = c.deref-3.ensures.len in omega (arith, high, len, is))
    (c.deref-3.ensures.value ∙ c.self.invariant.ends) (c.deref-4.ensures.value ∙ c.self.invariant.places)
    (c.end_after-start.ensures ∙ ap (λ es. end_of es (c.args.number - 1)) (c.deref-2.ensures.value ∙ sym c.deref-3.ensures.value)) c.end_after-end.ensures
    in
    let rises = part.rises in let within = part.within in let fits = c.deref-4.type_inv in omega (arith, rises, within, fits)

pub slice_bounds-result-count-2 : goal.slice_bounds-result-count-2
slice_bounds-result-count-2 c =
    let part : IsPart (committed_places c.self.inside.history.0) c.args.number c.end_after-start.result c.end_after-end.result c.deref-4.result.now =
    is_part (committed_places c.self.inside.history.0) c.args.number _ _ _ c.deref-3.result.now
    (let some = c.if-count-eq0.false in omega (arith, some)) (let high = c.if-len-count.false in let len = c.len.ensures in let is = c.deref-3.ensures.len in omega (arith, high, len, is))
    (c.deref-3.ensures.value ∙ c.self.invariant.ends) (c.deref-4.ensures.value ∙ c.self.invariant.places)
    (c.end_after-start.ensures ∙ ap (λ es. end_of es (c.args.number - 1)) (c.deref-2.ensures.value ∙ sym c.deref-3.ensures.value)) c.end_after-end.ensures
    in
    part.rises

pub slice_bounds-result-start-2 : goal.slice_bounds-result-start-2
slice_bounds-result-start-2 c =
    let part : IsPart (committed_places c.self.inside.history.0) c.args.number c.end_after-start.result c.end_after-end.result c.deref-4.result.now =
    is_part (committed_places c.self.inside.history.0) c.args.number _ _ _ c.deref-3.result.now
    (let some = c.if-count-eq0.false in omega (arith, some)) (let high = c.if-len-count.false in let len = c.len.ensures in let is = c.deref-3.ensures.len in omega (arith, high, len, is))
    (c.deref-3.ensures.value ∙ c.self.invariant.ends) (c.deref-4.ensures.value ∙ c.self.invariant.places)
    (c.end_after-start.ensures ∙ ap (λ es. end_of es (c.args.number - 1)) (c.deref-2.ensures.value ∙ sym c.deref-3.ensures.value)) c.end_after-end.ensures
    in
    part.rises

pub slice_bounds-result-end-2 : goal.slice_bounds-result-end-2
slice_bounds-result-end-2 c =
    let part : IsPart (committed_places c.self.inside.history.0) c.args.number c.end_after-start.result c.end_after-end.result c.deref-4.result.now =
    is_part (committed_places c.self.inside.history.0) c.args.number _ _ _ c.deref-3.result.now
    (let some = c.if-count-eq0.false in omega (arith, some)) (let high = c.if-len-count.false in let len = c.len.ensures in let is = c.deref-3.ensures.len in omega (arith, high, len, is))
    (c.deref-3.ensures.value ∙ c.self.invariant.ends) (c.deref-4.ensures.value ∙ c.self.invariant.places)
    (c.end_after-start.ensures ∙ ap (λ es. end_of es (c.args.number - 1)) (c.deref-2.ensures.value ∙ sym c.deref-3.ensures.value)) c.end_after-end.ensures
    in
    part.within

pub returns : goal.returns
returns c =
    let part : IsPart (committed_places c.self.inside.history.0) c.args.number c.end_after-start.result c.end_after-end.result c.deref-4.result.now =
    is_part (committed_places c.self.inside.history.0) c.args.number _ _ _ c.deref-3.result.now
    (let some = c.if-count-eq0.false in omega (arith, some)) (let high = c.if-len-count.false in let len = c.len.ensures in let is = c.deref-3.ensures.len in omega (arith, high, len, is))
    (c.deref-3.ensures.value ∙ c.self.invariant.ends) (c.deref-4.ensures.value ∙ c.self.invariant.places)
    (c.end_after-start.ensures ∙ ap (λ es. end_of es (c.args.number - 1)) (c.deref-2.ensures.value ∙ sym c.deref-3.ensures.value)) c.end_after-end.ensures
    in
    part.part ∙ ap (λ v. script_places c.args.number v.0) c.self.view_is
