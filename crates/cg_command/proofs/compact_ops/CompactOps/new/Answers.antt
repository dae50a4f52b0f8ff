-- What is to be done with each controller gives the operations back.
use Rattle.std.proofs.Common.{ap, ◌∙◌}
use Rattle.cg_command.specs.CompactFields.{ops_of}
use Rattle.cg_command.specs.declared.compact_ops.CompactOps.TheInside.{Inside}
use Rattle.cg_command.proofs.Compact.{ops_back}
use Rattle.cg_command.proofs.compact_ops.CompactOps.new.Goals as goal

pub returns : goal.returns
returns c =
    ap {A = Inside} ops_of (λ i. record {
      cpuset = c.of.ensures i;
      cpu = c.of-2.ensures i;
      io = c.of-3.ensures i;
      memory = c.of-4.ensures i;
      hugetlb = c.of-5.ensures i;
      pids = c.of-6.ensures i;
      rdma = c.of-7.ensures i;
      misc = c.of-8.ensures i;
    })
    ∙ ops_back c.args.ops
