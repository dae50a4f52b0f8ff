use Rattle.std.proofs.Common.{ap, sym, ◌∙◌, subst, IsTrue, ℕ, ◌<◌, nat_lt, false, ◌≡◌, arith}
use Rattle.std.proofs.lemmas.Bool.Decides.{nat_tests}
use Rattle.cg_maps.specs.FiniteSet.{has}
use Rattle.cg_cpus.proofs.Bits.{below_limit, bit_test, not_below}
use Rattle.cg_cpus.proofs.cpu_set.CpuSet.contains.Goals as goal

pub returns-then-cpu-lt-LIMIT-clause-member : goal.returns-then-cpu-lt-LIMIT-clause-member
returns-then-cpu-lt-LIMIT-clause-member c = bit_test _ _ _ c.from.ensures c.if-cpu-lt-LIMIT.true ∙ ap (λ s. has s c.args.cpu) c.self.view_is

pub returns-then-cpu-lt-LIMIT-clause-below : goal.returns-then-cpu-lt-LIMIT-clause-below
returns-then-cpu-lt-LIMIT-clause-below c = subst (λ s. (n : ℕ) → IsTrue (has s n) → n < 1024) c.self.view_is (below_limit _)

pub returns-else-cpu-lt-LIMIT-clause-member : goal.returns-else-cpu-lt-LIMIT-clause-member
returns-else-cpu-lt-LIMIT-clause-member c =
    let past : nat_lt c.args.cpu 1024 ≡ false = grind (arith, nat_tests) in
    past ∙ sym (not_below c.self.inside.words c.args.cpu c.if-cpu-lt-LIMIT.false) ∙ ap (λ s. has s c.args.cpu) c.self.view_is

pub returns-else-cpu-lt-LIMIT-clause-below : goal.returns-else-cpu-lt-LIMIT-clause-below
returns-else-cpu-lt-LIMIT-clause-below c = subst (λ s. (n : ℕ) → IsTrue (has s n) → n < 1024) c.self.view_is (below_limit _)
