-- There are as many transactions begun, and as many committed, as there are records at most.
use Rattle.std.proofs.Common.{◌≡◌, ◌<◌, ◌-◌, ◌^◌, ◌≤◌, length, sym, subst, arith}
use Rattle.cg_model.specs.Opens.{begins, commits}
use Rattle.cg_history.specs.Meaning.{history_of}
use Rattle.cg_history.proofs.Records.{begins_within, commits_within}
use Rattle.cg_history.proofs.history.History.push.Goals as goal

pub overflow_add-self : goal.overflow_add-self
overflow_add-self c =
    let few : length (history_of c.self.inside.records.items) < 2 ^ 32 - 1 = subst (λ v. length v.0 < 2 ^ 32 - 1) (sym c.self.view_is) c.requires.few in
    let within : begins (history_of c.self.inside.records.items) ≤ length (history_of c.self.inside.records.items) = begins_within (history_of c.self.inside.records.items) in
    let is : c.self.inside.begun ≡ begins (history_of c.self.inside.records.items) = c.self.invariant.1 in
    omega (arith, few, within, is)

pub overflow_add-self-in-Committed : goal.overflow_add-self-in-Committed
overflow_add-self-in-Committed c =
    let few : length (history_of c.self.inside.records.items) < 2 ^ 32 - 1 = subst (λ v. length v.0 < 2 ^ 32 - 1) (sym c.self.view_is) c.requires.few in
    let within : commits (history_of c.self.inside.records.items) ≤ length (history_of c.self.inside.records.items) = commits_within (history_of c.self.inside.records.items) in
    let is : c.self.inside.committed ≡ commits (history_of c.self.inside.records.items) = c.self.invariant.2 in
    omega (arith, few, within, is)
