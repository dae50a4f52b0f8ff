-- Each turn shows one run more.
use Rattle.std.proofs.Common.{◌≡◌, ℕ, ◌+◌, true, [], ◌++◌, nat_lt, refl, sym, ap, ◌∙◌, append_assoc, arith}
use Rattle.std.proofs.lemmas.Bool.Decides.{nat_tests}
use Rattle.std.proofs.Output.{has_written_append}
use Rattle.cg_cpus.specs.Ascending.{runs_from, text_behind}
use Rattle.cg_cpus.specs.CpuList.{run_text}
use Rattle.cg_cpus.specs.Separated.{separated}
use Rattle.cg_cpus.proofs.Writing.{text_first, text_step}
use Rattle.cg_cpus.proofs.list.CpuSetDisplay.fmt.Goals as goal

some : (n : ℕ) → nat_lt 0 (n + 1) ≡ true
some n = grind (arith, nat_tests)

pub loop-first-init : goal.loop-first-init
loop-first-init g c = record {
  bound = omega arith;
  shown = λ plain. ([], record { wrote = record { parts = []; calls = refl; whole = refl }; plain = plain }, text_first c.args.self.now c.contains.ensures.below);
}

pub loop-first-preserved : goal.loop-first-preserved
loop-first-preserved g c =
    let s = c.args.self.now in
    let behind = nat_lt 0 c.loop-first.next in
    let next = c.in-Some.last + 1 in
    let part = separated 44 behind (run_text (c.in-Some.first, c.in-Some.last)) in
    record {
      bound = omega (arith, c.in-Some.ensures.bounds.2);
      shown = λ plain.
          let before = c.loop-first.invariant.shown plain in (
            before.0 ++ part,
            has_written_append _ _ before.0 _ part _ before.1 (c.in_ok-write.ensures.writes before.1.plain refl),
            ap (λ b. (before.0 ++ part) ++ text_behind b (runs_from s next)) (some c.in-Some.last)
                ∙ append_assoc before.0 part (text_behind true (runs_from s next))
                ∙ ap (λ t. before.0 ++ t) (sym (text_step behind (c.in-Some.first, c.in-Some.last) (runs_from s next)) ∙ ap (text_behind behind) (sym c.in-Some.ensures.run))
                ∙ before.2,
          );
    }
