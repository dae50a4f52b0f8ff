-- The names are as many as the zero bytes.
use Rattle.std.proofs.Common.{◌≡◌, ◌≤◌, cond, take, sym, ap, ◌∙◌, arith}
use Rattle.std.specs.List.{count_by}
use Rattle.std.proofs.lemmas.List.{take_all}
use Rattle.std.proofs.lemmas.List.Sums.{sum_by-take-le}
use Rattle.cg_name.proofs.Packing.{length-names_in, is_zero}
use Rattle.cg_name.proofs.packed.count_names.Goals as goal

pub overflow_add-count : goal.overflow_add-count
overflow_add-count c =
    let low : count_by is_zero (take c.loop-byte.byte-index c.args.bytes.now) ≤ count_by is_zero c.args.bytes.now = sum_by-take-le (λ b. cond (is_zero b) 1 0) c.args.bytes.now c.loop-byte.byte-index in
    let so_far : c.loop-byte.count ≡ count_by is_zero (take c.loop-byte.byte-index c.args.bytes.now) = c.loop-byte.invariant in
    omega (arith, length-names_in c.args.bytes.now, c.requires)

pub returns : goal.returns
returns c =
    let so_far : c.loop-byte.count ≡ count_by is_zero (take c.loop-byte.byte-index c.args.bytes.now) = c.loop-byte.invariant in
    so_far ∙ ap (count_by is_zero) (take_all c.loop-byte.byte-index c.args.bytes.now c.loop-byte-test.false) ∙ sym (length-names_in c.args.bytes.now)
