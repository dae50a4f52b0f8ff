-- Operations that are told for each controller by itself are the same ones.
use Rattle.std.proofs.Common.{◌≡◌, Bool, true, false, refl, sym}
use Rattle.cg_name.specs.declared.controller.Controller.TheVariants.{Cpuset, Cpu, Io, Memory, Hugetlb, Pids, Rdma, Misc}
use Rattle.cg_text.specs.declared.control_ops.ControlOps.{ControlOps}
use Rattle.cg_text.proofs.Operations.{same_ops}
use Rattle.cg_command.specs.CompactFields.{fields_of, ops_of}
use Rattle.cg_command.specs.CompactOps.{disables, enables, op_by}

one_enabled : (plus minus : Bool) → enables (op_by plus minus) ≡ plus
one_enabled true minus = refl
one_enabled false true = refl
one_enabled false false = refl

one_disabled : (plus minus : Bool) → (plus ≡ true → minus ≡ false) → disables (op_by plus minus) ≡ minus
one_disabled true minus h = sym (h refl)
one_disabled false true h = refl
one_disabled false false h = refl

pub ops_back : (ops : ControlOps) → ops_of (fields_of ops) ≡ ops
ops_back ops =
    let p = ops.plus in
    let m = ops.minus in
    same_ops _ ops
    (λ i. record {
      cpuset = one_enabled p.cpuset m.cpuset i;
      cpu = one_enabled p.cpu m.cpu i;
      io = one_enabled p.io m.io i;
      memory = one_enabled p.memory m.memory i;
      hugetlb = one_enabled p.hugetlb m.hugetlb i;
      pids = one_enabled p.pids m.pids i;
      rdma = one_enabled p.rdma m.rdma i;
      misc = one_enabled p.misc m.misc i;
    })
    (λ i. record {
      cpuset = one_disabled p.cpuset m.cpuset (ops.apart Cpuset) i;
      cpu = one_disabled p.cpu m.cpu (ops.apart Cpu) i;
      io = one_disabled p.io m.io (ops.apart Io) i;
      memory = one_disabled p.memory m.memory (ops.apart Memory) i;
      hugetlb = one_disabled p.hugetlb m.hugetlb (ops.apart Hugetlb) i;
      pids = one_disabled p.pids m.pids (ops.apart Pids) i;
      rdma = one_disabled p.rdma m.rdma (ops.apart Rdma) i;
      misc = one_disabled p.misc m.misc (ops.apart Misc) i;
    })
