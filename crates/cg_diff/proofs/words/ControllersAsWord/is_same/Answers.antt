use Rattle.std.proofs.Common.{◌≡◌, ◌&&◌, Bool, true, false, refl, ap, ◌∙◌}
use Rattle.std.specs.Bool.{beq}
use Rattle.cg_diff.proofs.words.ControllersAsWord.is_same.Goals as goal

and_true : (b : Bool) → b ≡ (b && true)
and_true true = refl
and_true false = refl

pub returns : goal.returns
returns c =
    let s = c.args.self.now in
    let t = c.args.other.now in
    c.eq.ensures
    ∙ ap (λ b. beq s.cpuset t.cpuset && (beq s.cpu t.cpu && (beq s.io t.io && (beq s.memory t.memory && (beq s.hugetlb t.hugetlb && (beq s.pids t.pids && (beq s.rdma t.rdma && b)))))))
    (and_true (beq s.misc t.misc))
