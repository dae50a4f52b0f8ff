-- The record at the command's index is told of.
use Rattle.std.proofs.Common.{◌++◌, ap, sym, ◌∙◌}
use Rattle.std.proofs.lemmas.List.{append-nil}
use Rattle.std.proofs.lemmas.Result.{on_ok_weaker}
use Rattle.cg_locks.specs.Clashing.{any_mark}
use Rattle.cg_explain.proofs.Told.{noted, nothing_noted}
use Rattle.cg_explain.proofs.in_the_way.append_clash.Goals as goal

pub returns-in-Some : goal.returns-in-Some
returns-in-Some c =
    let k = c.args.clash.now in
    on_ok_weaker c.append_request.result
    (λ e. e ∙ ap (λ x. c.args.out.now.items ++ x) (noted c.args.asked.now c.args.records.now k.place (any_mark k.mark) c.in-Some.record.now c.line.result c.line.ensures c.in-Some.ensures.lookup.0 c.in-Some.ensures.lookup.1))
    c.append_request.ensures

pub returns-in-None : goal.returns-in-None
returns-in-None c =
    let k = c.args.clash.now in
    sym (append-nil c.args.out.now.items) ∙ ap (λ x. c.args.out.now.items ++ x) (nothing_noted c.args.asked.now c.args.records.now k.place (any_mark k.mark) c.in-None.ensures.lookup.0)
