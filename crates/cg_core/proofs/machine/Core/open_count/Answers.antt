use Rattle.std.proofs.Common.{◌≡◌, ◌≤◌, length, ◌∙◌, arith}
use Rattle.cg_model.specs.Opens.{opens}
use Rattle.cg_model.specs.Reply.{slots}
use Rattle.cg_core.proofs.AtHistory.{within}
use Rattle.cg_core.proofs.Open.{as_many}
use Rattle.cg_core.proofs.TheLaws.{faithful_law}
use Rattle.cg_core.proofs.machine.Core.open_count.Goals as goal

pub overflow_cast-result : goal.overflow_cast-result
overflow_cast-result c =
    let used : slots c.self.inside.history.0 ≤ c.self.inside.limit = within _ _ _ c.self.invariant.sound c.self.invariant.reached faithful_law c.self.invariant.low in
    let few : c.self.inside.limit ≤ 1048576 = c.self.invariant.high in
    let many : c.len.result ≡ length (opens c.self.inside.history.0) = c.len.ensures ∙ as_many _ _ _ _ c.self.invariant.transactions in
    omega (arith, used, few, many)
