-- The first, and the others.
use Rattle.std.proofs.Common.{◌<◌, ◌≤◌, length, take, sym, subst, arith}
use Rattle.std.proofs.lemmas.Bool.Decides.{nat_tests}
use Rattle.cg_name.specs.Path.{Path}
use Rattle.cg_locks.specs.Counts.{prefixes, AreDescending}
use Rattle.cg_locks.specs.Holders.{held_at, times_on}
use Rattle.cg_locks.proofs.CountedNodes.{all_held, first_is_held, others_held}
use Rattle.cg_locks.proofs.Counting.{still_descending}
use Rattle.cg_locks.proofs.path_holders.PathHolders.+holds_counted.Goals as goal

pub holds_counted-requires : goal.holds_counted-requires
holds_counted-requires t c =
    let n = length c.args.path.now in
    let descending = subst (AreDescending n) c.in-Some.ensures.cases.0 c.requires in
    let first : c.in-Some.depth.now < n = descending.0 in
    (omega (arith, c.decreases, c.in-Some.ensures.cases.1), still_descending c.in-Some.depth.now n c.in-Some.shorter.now (omega (arith, first)) descending.1)

pub returns-then-count_counted-gt0 : goal.returns-then-count_counted-gt0
returns-then-count_counted-gt0 t c =
    let p = c.args.path.now in
    let C = c.args.self.now.descendants in
    let u = c.args.transaction.0 in
    let d = c.in-Some.depth.now in
    let shorter = c.in-Some.shorter.now in
    let descending = subst (AreDescending (length p)) c.in-Some.ensures.cases.0 c.requires in
    let here : 0 < held_at C (take d p) u = (let is = c.count_counted.ensures in omega (arith, is, c.if-count_counted-gt0.true)) in (
      λ yes. subst (λ ds. (q : Path) → times_on q (prefixes p ds) ≤ held_at C q u) (sym c.in-Some.ensures.cases.0) (all_held C u p d shorter descending.0 descending.1 here (c.holds_counted.ensures.0 yes)),
      λ all. c.holds_counted.ensures.1 (others_held C u p d shorter descending.0 descending.1 (subst (λ ds. (q : Path) → times_on q (prefixes p ds) ≤ held_at C q u) c.in-Some.ensures.cases.0 all)),
    )

pub returns-else-count_counted-gt0 : goal.returns-else-count_counted-gt0
returns-else-count_counted-gt0 t c =
    let p = c.args.path.now in
    let C = c.args.self.now.descendants in
    let u = c.args.transaction.0 in
    let d = c.in-Some.depth.now in (
      λ yes. let low : 0 < c.count_counted.result = grind (arith, nat_tests, yes) in absurd (omega (arith, low, c.if-count_counted-gt0.false)),
      λ all.
          let here : 0 < held_at C (take d p) u = first_is_held C u (take d p) (prefixes (take d p) c.in-Some.shorter.now) (subst (λ ds. (q : Path) → times_on q (prefixes p ds) ≤ held_at C q u) c.in-Some.ensures.cases.0 all) in
          let is = c.count_counted.ensures in
          absurd (omega (arith, is, here, c.if-count_counted-gt0.false)),
    )
