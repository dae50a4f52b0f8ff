-- As many names stand before a place as zero bytes.
use Rattle.std.proofs.Common.{rules, ◌≡◌, ◌<◌, ◌≤◌, length, take, get_or, arith, ap}
use Rattle.std.specs.List.{count_by}
use Rattle.std.proofs.Math.Seq.{take-length}
use Rattle.cg_name.proofs.Packing.{is_zero, names_before, all_names, start_at}
use Rattle.cg_name.proofs.packed.start_of.Goals as goal

pub returns-then-left-eq0-clause-names : goal.returns-then-left-eq0-clause-names
returns-then-left-eq0-clause-names c =
    let low : c.loop-i.i < length c.args.bytes.now = search rules in
    let zeroed : get_or c.args.bytes.now c.loop-i.i 0 ≡ 0 = search rules in
    names_before c.args.bytes.now c.loop-i.i c.args.index (start_at c.args.bytes.now c.loop-i.i low zeroed) (omega arith)

pub returns-clause-names : goal.returns-clause-names
returns-clause-names c =
    let last : c.loop-i.i ≡ length c.args.bytes.now = omega arith in
    let few : count_by is_zero c.args.bytes.now ≤ c.args.index = omega (arith, ap (λ j. count_by is_zero (take j c.args.bytes.now)) last, ap (count_by is_zero) (take-length c.args.bytes.now)) in
    rw take-length (all_names c.args.bytes.now c.args.index few)
