use Rattle.std.proofs.Common.{◌≡◌, ℕ, ◌+◌, ◌-◌, ◌%◌, ◌/◌, ◌^◌, ◌<◌, ◌==◌, Bool, true, false, cond, zero, suc, not, refl, ap, sym, subst, ◌∙◌, arith}
use Rattle.std.specs.Int.{bit_at}
use Rattle.cg_maps.specs.FiniteSet.{has}
use Rattle.cg_cpus.proofs.Words.{there, not_there, nothing_behind}
use Rattle.cg_cpus.proofs.cpu_set.CpuSet.bits_from.Goals.{then-present, else-present}
use Rattle.cg_cpus.proofs.cpu_set.CpuSet.bits_from.Goals as goal

chosen : (b : ℕ) → b < 2 → (p : Bool) → p ≡ true → (b == 1) ≡ cond (b == 1) p (not p)
chosen b small p is = sym (ap (λ q. cond (b == 1) q (not q)) is ∙ whole (b == 1))
  where
    whole : (t : Bool) → cond t true (not true) ≡ t
    whole true = refl
    whole false = refl

turned : (b : ℕ) → b < 2 → (p : Bool) → p ≡ false → (b == 0) ≡ cond (b == 1) p (not p)
turned b small p is = one_of b small ∙ sym (ap (λ q. cond (b == 1) q (not q)) is)
  where
    one_of : (n : ℕ) → n < 2 → (n == 0) ≡ cond (n == 1) false (not false)
    one_of zero s = refl
    one_of (suc zero) s = refl
    one_of (suc (suc n)) s = absurd (omega arith)

-- a bit of the rest of the word, and the number that it stands for
told : (c : goal.After-row_known-1) → (k b : ℕ) → b < 2 → k < 64 - c.args.cpu % 64 → bit_at (c.if-present.result / 2 ^ (c.args.cpu % 64)) k ≡ b → has c.args.self.now (c.args.cpu + k) ≡ cond (b == 1) c.args.present (not c.args.present)
told c k b small l is = elim c.if-present.branch [
  | then-present w ↦
      ap (λ s. has s (c.args.cpu + k)) (sym c.self.view_is)
      ∙ there c.self.inside.words c.args.cpu c.from.result c.from.ensures c.requires k b l (ap (λ x. bit_at (x / 2 ^ (c.args.cpu % 64)) k) (sym w.result-is) ∙ is)
      ∙ chosen b small c.args.present w.if-present.true
  | else-present w ↦
      ap (λ s. has s (c.args.cpu + k)) (sym c.self.view_is)
      ∙ not_there c.self.inside.words c.args.cpu c.from.result c.from.ensures c.requires k b (c.self.invariant.width c.from.result) l (ap (λ x. bit_at (x / 2 ^ (c.args.cpu % 64)) k) (sym w.result-is) ∙ is) small
      ∙ turned b small c.args.present w.if-present.false
]

pub returns-clause-found : goal.returns-clause-found
returns-clause-found c = λ k l is. told c k 1 (omega arith) l is

pub returns-clause-passed : goal.returns-clause-passed
returns-clause-passed c = λ k l is. told c k 0 (omega arith) l is

pub returns-clause-rest : goal.returns-clause-rest
returns-clause-rest c = λ k l. nothing_behind c.if-present.result (c.args.cpu % 64) k (elim c.if-present.branch [
  | then-present w ↦ subst (λ x. x < 2 ^ 64) (sym w.result-is) (c.self.invariant.width c.from.result)
  | else-present w ↦ let is = w.result-is in omega arith
]) (omega arith) l
