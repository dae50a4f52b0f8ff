-- Each count has room.
use Rattle.cg_name.specs.declared.controller.Controller.TheVariants.{Cpuset, Cpu, Io, Memory, Hugetlb, Pids, Rdma, Misc}
use Rattle.cg_tree.proofs.passing.Passing.changed.Goals as goal

pub stepped-requires : goal.stepped-requires
stepped-requires c = c.requires Cpuset

pub stepped-requires-2 : goal.stepped-requires-2
stepped-requires-2 c = c.requires Cpu

pub stepped-requires-3 : goal.stepped-requires-3
stepped-requires-3 c = c.requires Io

pub stepped-requires-4 : goal.stepped-requires-4
stepped-requires-4 c = c.requires Memory

pub stepped-requires-5 : goal.stepped-requires-5
stepped-requires-5 c = c.requires Hugetlb

pub stepped-requires-6 : goal.stepped-requires-6
stepped-requires-6 c = c.requires Pids

pub stepped-requires-7 : goal.stepped-requires-7
stepped-requires-7 c = c.requires Rdma

pub stepped-requires-8 : goal.stepped-requires-8
stepped-requires-8 c = c.requires Misc
