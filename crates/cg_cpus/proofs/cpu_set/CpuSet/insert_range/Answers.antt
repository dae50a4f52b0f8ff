use Rattle.std.proofs.Common.{◌*◌, ◌/◌, ◌<◌, ◌≤◌, ◌↔◌, ◌⊎◌, ◌≡◌, ◌+◌, IsTrue, get_or, set, bit_or, refl, sym, subst, arith}
use Rattle.cg_maps.specs.FiniteSet.{has}
use Rattle.cg_cpus.specs.Words.{AreWords, set_in}
use Rattle.cg_cpus.proofs.Filling.{range_none, range_more, range_done, words_after}
use Rattle.cg_cpus.proofs.cpu_set.CpuSet.insert_range.Goals as goal

pub loop-index-init : goal.loop-index-init
loop-index-init c = record {
  words = c.self.invariant;
  done = λ n. subst (λ s. IsTrue (has (set_in c.self.inside.words) n) ↔ (IsTrue (has s n) ⊎ ((c.args.first ≤ n) × (n ≤ c.args.last) × (n < c.args.first / 64 * 64)))) c.self.view_is
      (range_none (IsTrue (has (set_in c.self.inside.words) n)) c.args.first c.args.last (c.args.first / 64) n refl);
}

pub invariant_of-self : goal.invariant_of-self
invariant_of-self c = c.loop-index.invariant.words

pub loop-index-preserved : goal.loop-index-preserved
loop-index-preserved c =
    let words = c.loop-index.self-inside.words in
    let bits = c.bits_of_range.result in
    let is : c.loop-index.index ≡ c.from.result = sym c.from.ensures in
    let within : c.loop-index.index < 16 = omega (arith, c.loop-index-test.true, c.requires.below) in
    record {
      words = subst (λ i. AreWords (set words i (bit_or (get_or words i 0) bits))) is (words_after words c.loop-index.index bits c.loop-index.invariant.words within c.bits_of_range.type_inv);
      done = λ n. subst (λ i. IsTrue (has (set_in (set words i (bit_or (get_or words i 0) bits))) n) ↔ (IsTrue (has c.args.self.now n) ⊎ ((c.args.first ≤ n) × (n ≤ c.args.last) × (n < (c.loop-index.index + 1) * 64)))) is
          (range_more words c.loop-index.index bits c.loop-index.invariant.words within (IsTrue (has c.args.self.now n)) c.args.first c.args.last n c.bits_of_range.ensures (c.loop-index.invariant.done n));
    }

pub returns : goal.returns
returns c = λ n. range_done (IsTrue (has (set_in c.loop-index.self-inside.words) n)) (IsTrue (has c.args.self.now n)) c.args.first c.args.last c.loop-index.index n (omega (arith, c.loop-index-test.false)) (c.loop-index.invariant.done n)
