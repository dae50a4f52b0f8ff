use Rattle.std.proofs.Common.{◌≡◌, ◌+◌, ◌-◌, ◌*◌, ◌==◌, ◌<◌, false, true, refl, nat_lt, get_or, ap, sym, subst, ◌∙◌, arith}
use Rattle.std.specs.Int.{bit_at}
use Rattle.std.specs.Int.Count.{count_leading_zeros}
use Rattle.std.proofs.lemmas.Bool.Decides.{nat_tests}
use Rattle.std.proofs.lemmas.Nat.{leading_top}
use Rattle.std.proofs.lemmas.Nat.Bits.{bit_at-zero}
use Rattle.cg_maps.specs.FiniteSet.{has}
use Rattle.cg_maps.proofs.Sets.{same_set, has-no_members}
use Rattle.cg_cpus.proofs.Bits.{not_below}
use Rattle.cg_cpus.proofs.Words.{number_here, absent_here, highest_set, none_above, at_most}
use Rattle.cg_cpus.proofs.cpu_set.CpuSet.last.Goals as goal

pub loop-end-init : goal.loop-end-init
loop-end-init c = record { bound = omega arith; none = λ n l. subst (λ s. has s n ≡ false) c.self.view_is (not_below c.self.inside.words n (omega arith)) }

pub returns-then-word-ne0-clause-member : goal.returns-then-word-ne0-clause-member
returns-then-word-ne0-clause-member c =
    let words = c.self.inside.words in
    let i = c.loop-end.end - 1 in
    let within = c.loop-end.invariant.bound in
    let some = c.loop-end-test.true in
    let top = leading_top 64 (get_or words (c.loop-end.end - 1) 0) (omega (arith, c.if-word-ne0.true)) (c.self.invariant.width (c.loop-end.end - 1)) in
    let z = count_leading_zeros 64 (get_or words (c.loop-end.end - 1) 0) in
    ap (λ s. has s (i * 64 + (63 - z))) (sym c.self.view_is)
    ∙ number_here words i (63 - z) (omega arith) (omega arith)
    ∙ ap (λ b. b == 1) (highest_set (get_or words (c.loop-end.end - 1) 0) z top.0 top.1 top.2 top.3)

pub returns-then-word-ne0-clause-greatest : goal.returns-then-word-ne0-clause-greatest
returns-then-word-ne0-clause-greatest c = λ n member.
    let words = c.self.inside.words in
    let i = c.loop-end.end - 1 in
    let within = c.loop-end.invariant.bound in
    let some = c.loop-end-test.true in
    let top = leading_top 64 (get_or words (c.loop-end.end - 1) 0) (omega (arith, c.if-word-ne0.true)) (c.self.invariant.width (c.loop-end.end - 1)) in
    let z = count_leading_zeros 64 (get_or words (c.loop-end.end - 1) 0) in
    at_most c.args.self.now n (i * 64 + (63 - z)) member (λ above. elim (nat_lt n (c.loop-end.end * 64)) as (λ b. nat_lt n (c.loop-end.end * 64) ≡ b → has c.args.self.now n ≡ false) [
      | true ↦ λ e.
          let l : n < c.loop-end.end * 64 = grind (arith, nat_tests) in
          ap (λ s. has s n) (sym c.self.view_is)
          ∙ absent_here words i n (omega arith) (omega arith) (omega arith) (none_above (get_or words (c.loop-end.end - 1) 0) z top.0 top.1 top.2 top.3 (n - i * 64) (omega arith))
      | false ↦ λ e. c.loop-end.invariant.none n (grind (arith, nat_tests))
    ] refl)

pub loop-end-preserved : goal.loop-end-preserved
loop-end-preserved c = record {
  bound = omega (arith, c.loop-end.invariant.bound);
  none = λ n l. elim (nat_lt n (c.loop-end.end * 64)) as (λ b. nat_lt n (c.loop-end.end * 64) ≡ b → has c.args.self.now n ≡ false) [
    | true ↦ λ e.
        let within = c.loop-end.invariant.bound in
        let some = c.loop-end-test.true in
        let below : n < c.loop-end.end * 64 = grind (arith, nat_tests) in
        ap (λ s. has s n) (sym c.self.view_is)
        ∙ absent_here c.self.inside.words (c.loop-end.end - 1) n (omega arith) l (omega arith)
        (ap (λ w. bit_at w (n - (c.loop-end.end - 1) * 64)) c.if-word-ne0.false ∙ bit_at-zero (n - (c.loop-end.end - 1) * 64))
    | false ↦ λ e. c.loop-end.invariant.none n (grind (arith, nat_tests))
  ] refl;
}

pub returns-clause-none : goal.returns-clause-none
returns-clause-none c = same_set _ _ (λ n. c.loop-end.invariant.none n (let over = c.loop-end-test.false in omega arith) ∙ sym (has-no_members n))
