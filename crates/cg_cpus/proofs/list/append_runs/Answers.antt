use Rattle.std.proofs.Common.{◌++◌, ap, arith}
use Rattle.std.proofs.Math.Seq.{take-length}
use Rattle.cg_cpus.proofs.Writing.{text_first}
use Rattle.cg_cpus.proofs.list.append_runs.Goals as goal

pub loop-first-init : goal.loop-first-init
loop-first-init c = record {
  bound = omega arith;
  kept = take-length c.args.out.now.items;
  text = ap (λ t. c.args.out.now.items ++ t) (text_first c.args.set.now c.requires);
}
