use Rattle.std.proofs.Common.{◌≡◌, ℕ, ◌<◌, IsTrue, false, nat_lt, sym, ap, subst, ◌∙◌, arith}
use Rattle.std.proofs.lemmas.Bool.Decides.{nat_tests}
use Rattle.cg_maps.specs.FiniteSet.{FiniteSet, has}
use Rattle.cg_cpus.specs.Words.{low_set}
use Rattle.cg_cpus.proofs.Low.{low_test, not_low, low_below}
use Rattle.cg_boxed.specs.Kept.{set_kept}
use Rattle.cg_boxed.proofs.cpus.BoxedCpus.contains.Goals as goal

-- the numbers of a word are below 1,024
within : (w : ℕ) (s : FiniteSet) → low_set w ≡ s → (n : ℕ) → IsTrue (has s n) → n < 1024
within w s is n h = let below = low_below w n (subst (λ t. IsTrue (has t n)) (sym is) h) in omega (arith, below)

pub returns-then-cpu-lt64-clause-member : goal.returns-then-cpu-lt64-clause-member
returns-then-cpu-lt64-clause-member c =
    let is = sym (ap set_kept c.in-Low.is) ∙ c.self.view_is in
    low_test c.in-Low.word c.args.cpu c.if-cpu-lt64.true ∙ ap (λ s. has s c.args.cpu) is

pub returns-then-cpu-lt64-clause-below : goal.returns-then-cpu-lt64-clause-below
returns-then-cpu-lt64-clause-below c = within c.in-Low.word _ (sym (ap set_kept c.in-Low.is) ∙ c.self.view_is)

pub returns-else-cpu-lt64-clause-member : goal.returns-else-cpu-lt64-clause-member
returns-else-cpu-lt64-clause-member c =
    let is = sym (ap set_kept c.in-Low.is) ∙ c.self.view_is in
    let past : nat_lt c.args.cpu 64 ≡ false = grind (arith, nat_tests) in
    past ∙ sym (not_low c.in-Low.word c.args.cpu c.if-cpu-lt64.false) ∙ ap (λ s. has s c.args.cpu) is

pub returns-else-cpu-lt64-clause-below : goal.returns-else-cpu-lt64-clause-below
returns-else-cpu-lt64-clause-below c = within c.in-Low.word _ (sym (ap set_kept c.in-Low.is) ∙ c.self.view_is)
