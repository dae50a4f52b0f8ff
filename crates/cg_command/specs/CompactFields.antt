-- Operations, told for each controller by itself.
use Rattle.std.specs.Prelude.{◌≡◌, true, false}
use Rattle.std.proofs.Common.{refl}
use Rattle.cg_name.specs.declared.controller.Controller.TheVariants.{Cpuset, Cpu, Io, Memory, Hugetlb, Pids, Rdma, Misc}
use Rattle.cg_text.specs.Controllers.{AreApart}
use Rattle.cg_text.specs.declared.control_ops.ControlOps.{ControlOps}
use Rattle.cg_text.specs.declared.controllers.Controllers.{Controllers}
use Rattle.cg_command.specs.CompactOps.{disables, enables, op_by}
use Rattle.cg_command.specs.declared.compact_ops.Op.{Op}
use Rattle.cg_command.specs.declared.compact_ops.Op.TheVariants.{Keep, Enable, Disable}
use Rattle.cg_command.specs.declared.compact_ops.CompactOps.TheInside.{Inside}

abbrev pub enabled : Inside → Controllers
enabled k = record { cpuset = enables k.cpuset; cpu = enables k.cpu; io = enables k.io; memory = enables k.memory; hugetlb = enables k.hugetlb; pids = enables k.pids; rdma = enables k.rdma; misc = enables k.misc }

abbrev pub disabled : Inside → Controllers
disabled k = record { cpuset = disables k.cpuset; cpu = disables k.cpu; io = disables k.io; memory = disables k.memory; hugetlb = disables k.hugetlb; pids = disables k.pids; rdma = disables k.rdma; misc = disables k.misc }

one_apart : (o : Op) → enables o ≡ true → disables o ≡ false
one_apart Keep e = refl
one_apart Enable e = refl
one_apart Disable e = cc e

pub are_apart : (k : Inside) → AreApart (enabled k) (disabled k)
are_apart k Cpuset e = one_apart k.cpuset e
are_apart k Cpu e = one_apart k.cpu e
are_apart k Io e = one_apart k.io e
are_apart k Memory e = one_apart k.memory e
are_apart k Hugetlb e = one_apart k.hugetlb e
are_apart k Pids e = one_apart k.pids e
are_apart k Rdma e = one_apart k.rdma e
are_apart k Misc e = one_apart k.misc e

abbrev pub ops_of : Inside → ControlOps
ops_of k = record { plus = enabled k; minus = disabled k; apart = are_apart k }

abbrev pub fields_of : ControlOps → Inside
fields_of ops = record {
  cpuset = op_by ops.plus.cpuset ops.minus.cpuset;
  cpu = op_by ops.plus.cpu ops.minus.cpu;
  io = op_by ops.plus.io ops.minus.io;
  memory = op_by ops.plus.memory ops.minus.memory;
  hugetlb = op_by ops.plus.hugetlb ops.minus.hugetlb;
  pids = op_by ops.plus.pids ops.minus.pids;
  rdma = op_by ops.plus.rdma ops.minus.rdma;
  misc = op_by ops.plus.misc ops.minus.misc;
}

one_back : (o : Op) → op_by (enables o) (disables o) ≡ o
one_back Keep = refl
one_back Enable = refl
one_back Disable = refl

pub fields_back : (k : Inside) → fields_of (ops_of k) ≡ k
fields_back k = λ i. record {
  cpuset = one_back k.cpuset i;
  cpu = one_back k.cpu i;
  io = one_back k.io i;
  memory = one_back k.memory i;
  hugetlb = one_back k.hugetlb i;
  pids = one_back k.pids i;
  rdma = one_back k.rdma i;
  misc = one_back k.misc i;
}
