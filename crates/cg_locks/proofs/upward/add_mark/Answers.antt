-- One more at the path, and in the part below it and above.
use Rattle.std.proofs.Common.{◌<◌, sym, subst, ◌∙◌}
use Rattle.std.proofs.lemmas.Result.{on_ok_weaker, on_err_weaker}
use Rattle.cg_locks.specs.HeldByPath.{in_part, IsOneMoreIn}
use Rattle.cg_locks.specs.Holders.{held_at}
use Rattle.cg_locks.proofs.HeldMaps.{undone}
use Rattle.cg_locks.proofs.Keys.{same_key}
use Rattle.cg_locks.proofs.Parts.{aligned}
use Rattle.cg_locks.proofs.Results.{went_wrong}
use Rattle.cg_locks.proofs.Walks.{added_is_held, alone_more, at_then_up, mark_more}
use Rattle.cg_locks.proofs.upward.add_mark.Goals as goal

pub returns-in_default-clause-ok : goal.returns-in_default-clause-ok
returns-in_default-clause-ok c = λ p h.
    alone_more c.args.nodes.now.values c.add_at.new.nodes.values c.args.kind p c.args.transaction.0 (sym c.in_default.ensures)
    (subst (λ s. IsOneMoreIn c.args.nodes.now.values s p c.args.transaction.0 c.add_at.new.nodes.values) c.at_path.ensures (c.in_ok-add_at.ensures.ok p h))

pub remove_at-requires-clause-held : goal.remove_at-requires-clause-held
remove_at-requires-clause-held c = λ p h.
    let first = same_key c.add_up-added.new.nodes.keys c.args.nodes.now.keys p c.args.key (sym (c.add_up-added.ensures.keys ∙ c.in_ok-add_at.ensures.keys)) h in
    let same = went_wrong c.add_up-added.result (sym c.is_err.ensures.value ∙ c.if-is_err.true) c.add_up-added.ensures.err in
    subst (λ s. 0 < held_at (in_part s c.add_up-added.new.nodes.values) p c.args.transaction.0) (c.at_path.ensures ∙ sym c.at_path-then-is_err.ensures)
    (subst (λ n. 0 < n) (sym (same.at c.at_path.result p c.args.transaction.0)) (added_is_held c.args.nodes.now.values c.add_at.new.nodes.values c.at_path.result p c.args.transaction.0 (c.in_ok-add_at.ensures.ok p first)))

pub returns-then-is_err-clause-err : goal.returns-then-is_err-clause-err
returns-then-is_err-clause-err c =
    let p = c.requires.0 in
    let h = c.requires.1 in
    let last = same_key c.args.nodes.now.keys c.add_up-added.new.nodes.keys p c.args.key (c.add_up-added.ensures.keys ∙ c.in_ok-add_at.ensures.keys) h in
    on_err_weaker c.add_up-added.result (λ same. undone c.args.nodes.now.values c.add_at.new.nodes.values c.add_up-added.new.nodes.values c.remove_at.new.nodes.values c.at_path.result p c.args.transaction.0
    (c.in_ok-add_at.ensures.ok p h) same
    (subst (λ s. IsOneMoreIn c.remove_at.new.nodes.values s p c.args.transaction.0 c.add_up-added.new.nodes.values) (c.at_path-then-is_err.ensures ∙ sym c.at_path.ensures) (c.remove_at.ensures.less p last))) c.add_up-added.ensures.err

pub returns-else-is_err-clause-ok : goal.returns-else-is_err-clause-ok
returns-else-is_err-clause-ok c =
    let T = c.args.nodes.now.values in
    let M = c.add_at.new.nodes.values in
    on_ok_weaker c.add_up-added.result (λ up p h.
    let first = same_key c.args.nodes.now.keys c.add_at.new.nodes.keys p c.args.key c.in_ok-add_at.ensures.keys h in
    mark_more T c.add_up-added.new.nodes.values c.args.kind c.in-Some.below p c.args.transaction.0 (aligned c.args.kind c.in-Some.below (sym c.in-Some.ensures))
    (at_then_up T M c.add_up-added.new.nodes.values c.args.kind c.in-Some.below p c.args.transaction.0
    (subst (λ s. IsOneMoreIn T s p c.args.transaction.0 M) c.at_path.ensures (c.in_ok-add_at.ensures.ok p h)) (up p first))) c.add_up-added.ensures.ok
