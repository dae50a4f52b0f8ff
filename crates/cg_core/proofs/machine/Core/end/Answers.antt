-- An end: what it leaves is the core of the history with its record.
use Rattle.std.proofs.Common.{◌≡◌, ◌+◌, ◌-◌, ◌<◌, ◌≤◌, ℕ, length, refl, sym, ap, ◌∙◌, arith}
use Rattle.cg_model.specs.Cgroups.{cgroups}
use Rattle.cg_model.specs.History.{Commit, Committed, History}
use Rattle.cg_model.specs.Live.{live}
use Rattle.cg_model.specs.Opens.{commits}
use Rattle.cg_core_laws.specs.CommittedCommands.{places}
use Rattle.cg_txn.specs.Places.{places_on}
use Rattle.cg_core.specs.Ending.{asked_by}
use Rattle.cg_core.specs.State.{after, reply}
use Rattle.cg_core.proofs.CommitPlaces.{places_are}
use Rattle.cg_core.proofs.EndingBy.{may_abort, abort_ends, may_commit, few_commits, commit_ends}
use Rattle.cg_core.proofs.Endings.{answer_is, few_before, none_ends, parts_left, slots_for_items, state_left, stays_without, with_end}
use Rattle.cg_core.proofs.ReturningParts.{answer_told, few_records, items_are, slots_there, state_told}
use Rattle.cg_core.proofs.machine.Core.end.Goals as goal

pub invariant_of-self : goal.invariant_of-self
invariant_of-self c = stays_without c.self.invariant c.args.session.0 (sym c.in_default.ensures.value) c.remove.ensures.removed

pub returns-in_default-clause-answer : goal.returns-in_default-clause-answer
returns-in_default-clause-answer c = answer_told c.args.session.0 (asked_by c.args.ending) c.self.view_is (none_ends c.self.invariant c.args.session.0 (sym c.in_default.ensures.value) c.args.ending).0

pub returns-in_default-clause-state : goal.returns-in_default-clause-state
returns-in_default-clause-state c = state_told c.args.session.0 (asked_by c.args.ending) c.self.view_is (none_ends c.self.invariant c.args.session.0 (sym c.in_default.ensures.value) c.args.ending).1

-- ---- by an abort

pub abort-requires : goal.abort-requires
abort-requires c = may_abort c.self.invariant c.args.session.0 c.in-Some.txn (sym c.in-Some.ensures.value)

pub push-requires-clause-few : goal.push-requires-clause-few
push-requires-clause-few c =
    let end = abort_ends c.self.invariant c.args.session.0 c.in-Some.txn (sym c.in-Some.ensures.value) c.abort.result c.number-number.ensures c.abort.ensures c.remove.ensures.removed in
    few_before end

pub release-requires : goal.release-requires
release-requires c =
    let end = abort_ends c.self.invariant c.args.session.0 c.in-Some.txn (sym c.in-Some.ensures.value) c.abort.result c.number-number.ensures c.abort.ensures c.remove.ensures.removed in
    slots_for_items end c.len-items.ensures c.push.ensures

pub invariant_of-self-in-Abort : goal.invariant_of-self-in-Abort
invariant_of-self-in-Abort c =
    let end = abort_ends c.self.invariant c.args.session.0 c.in-Some.txn (sym c.in-Some.ensures.value) c.abort.result c.number-number.ensures c.abort.ensures c.remove.ensures.removed in
    parts_left end c.number-number.ensures c.len-items.ensures refl c.push.ensures c.release.ensures

pub returns-in-Abort-clause-answer : goal.returns-in-Abort-clause-answer
returns-in-Abort-clause-answer c =
    let end = abort_ends c.self.invariant c.args.session.0 c.in-Some.txn (sym c.in-Some.ensures.value) c.abort.result c.number-number.ensures c.abort.ensures c.remove.ensures.removed in
    answer_is end c.self.view_is ∙ ap (λ e. reply c.args.self.now c.args.session.0 (asked_by e)) (sym c.in-Abort.is)

pub returns-in-Abort-clause-state : goal.returns-in-Abort-clause-state
returns-in-Abort-clause-state c =
    let end = abort_ends c.self.invariant c.args.session.0 c.in-Some.txn (sym c.in-Some.ensures.value) c.abort.result c.number-number.ensures c.abort.ensures c.remove.ensures.removed in
    state_left end c.number-number.ensures c.len-items.ensures refl c.push.ensures c.release.ensures c.self.view_is
    ∙ ap (λ e. after c.args.self.now c.args.session.0 (asked_by e)) (sym c.in-Abort.is)

-- ---- by a commit

pub overflow_add-commit_number : goal.overflow_add-commit_number
overflow_add-commit_number c =
    let few : commits c.self.inside.history.0 < 4294967295 = few_commits c.self.invariant in
    let count : c.committed-commit_number.result ≡ commits c.self.inside.history.0 = c.committed-commit_number.ensures in
    omega (arith, few, count)

pub commit-requires-clause-reserved : goal.commit-requires-clause-reserved
commit-requires-clause-reserved c =
    let slots : length c.in-Some.txn.items + 1 ≤ c.self.inside.history.1 = slots_there c.self.invariant c.args.session.0 c.in-Some.txn (sym c.in-Some.ensures.value) in
    omega (arith, slots)

pub commit-requires-clause-few : goal.commit-requires-clause-few
commit-requires-clause-few c =
    few_records c.self.invariant

pub commit-requires-clause-script : goal.commit-requires-clause-script
commit-requires-clause-script c =
    let h : History cgroups = c.self.inside.history.0 in
    ap places_on (items_are c.self.invariant c.args.session.0 c.in-Some.txn (sym c.in-Some.ensures.value))
    ∙ places_are c.self.inside.opening (live c.in-Some.txn.number h)
    ∙ ap (λ t. places (live t h)) (sym c.number-number.ensures)

pub commit-requires-in-Commit : goal.commit-requires-in-Commit
commit-requires-in-Commit c =
    may_commit c.self.invariant c.args.session.0 c.in-Some.txn (sym c.in-Some.ensures.value)

pub invariant_of-self-in-Commit : goal.invariant_of-self-in-Commit
invariant_of-self-in-Commit c =
    let end = commit_ends c.self.invariant c.args.session.0 c.in-Some.txn (sym c.in-Some.ensures.value) c.commit-in-Commit.result c.committed-commit_number.ensures c.commit-in-Commit.ensures.let_go c.remove.ensures.removed in
    let pushed : History cgroups × ℕ = (with_end c.self.inside.history.0 c.args.session.0 c.number-number.result.0 Commit (Committed (c.committed-commit_number.result + 1)), c.self.inside.history.1 - 1) in
    parts_left end c.number-number.ensures refl refl {p = pushed} refl c.commit.ensures

pub returns-in-Commit-clause-answer : goal.returns-in-Commit-clause-answer
returns-in-Commit-clause-answer c =
    let end = commit_ends c.self.invariant c.args.session.0 c.in-Some.txn (sym c.in-Some.ensures.value) c.commit-in-Commit.result c.committed-commit_number.ensures c.commit-in-Commit.ensures.let_go c.remove.ensures.removed in
    answer_is end c.self.view_is ∙ ap (λ e. reply c.args.self.now c.args.session.0 (asked_by e)) (sym c.in-Commit.is)

pub returns-in-Commit-clause-state : goal.returns-in-Commit-clause-state
returns-in-Commit-clause-state c =
    let end = commit_ends c.self.invariant c.args.session.0 c.in-Some.txn (sym c.in-Some.ensures.value) c.commit-in-Commit.result c.committed-commit_number.ensures c.commit-in-Commit.ensures.let_go c.remove.ensures.removed in
    let pushed : History cgroups × ℕ = (with_end c.self.inside.history.0 c.args.session.0 c.number-number.result.0 Commit (Committed (c.committed-commit_number.result + 1)), c.self.inside.history.1 - 1) in
    state_left end c.number-number.ensures refl refl {p = pushed} refl c.commit.ensures c.self.view_is
    ∙ ap (λ e. after c.args.self.now c.args.session.0 (asked_by e)) (sym c.in-Commit.is)
