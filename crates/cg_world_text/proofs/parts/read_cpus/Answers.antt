-- A list spells the set that was read, and no other.
use Rattle.std.proofs.Common.{◌≤◌, ap, ◌∙◌, arith}
use Rattle.cg_maps.specs.FiniteSet.{FiniteSet, has}
use Rattle.cg_cpus.proofs.Grammar.{one_set}
use Rattle.cg_world_text.specs.Version.{last_cpu}
use Rattle.cg_world_text.specs.Statement.{SpellsSomeCpus}
use Rattle.cg_world_text.proofs.Adding.{at_err}
use Rattle.cg_world_text.proofs.Cpus.{some_cpus, spells_some}
use Rattle.cg_world_text.proofs.parts.read_cpus.Goals as goal

pub returns-in_err-cpus-clause-syntax : goal.returns-in_err-cpus-clause-syntax
returns-in_err-cpus-clause-syntax c =
    let refused : (s : FiniteSet) → SpellsSomeCpus (last_cpu c.args.version) c.args.word.now s → ⊥ = λ s h. c.in_err-cpus.ensures.syntax (cc c.in_err-cpus.ensures.refusals) s h.0 in
    at_err _ refused

pub returns-in_default-clause-syntax : goal.returns-in_default-clause-syntax
returns-in_default-clause-syntax c = λ s h. some_cpus (last_cpu c.args.version) c.args.word.now s h (one_set c.args.word.now s c.in_ok-cpus.cpus h.0 c.in_ok-cpus.ensures.value ∙ c.in_default.ensures.none)

pub returns-then-last-last_cpu-clause-syntax : goal.returns-then-last-last_cpu-clause-syntax
returns-then-last-last_cpu-clause-syntax c = λ s h.
    let same = one_set c.args.word.now s c.in_ok-cpus.cpus h.0 c.in_ok-cpus.ensures.value in
    let low : c.in-Some.last ≤ last_cpu c.args.version = h.2 c.in-Some.last (ap (λ t. has t c.in-Some.last) same ∙ c.in-Some.ensures.member) in
    omega (arith, low, c.last_cpu.ensures, c.if-last-last_cpu.true)

pub returns-clause-value : goal.returns-clause-value
returns-clause-value c =
    spells_some (last_cpu c.args.version) c.args.word.now c.in_ok-cpus.cpus c.in-Some.last c.in_ok-cpus.ensures.value c.in-Some.ensures.member c.in-Some.ensures.greatest
    (omega (arith, c.last_cpu.ensures, c.if-last-last_cpu.false))
