-- Where there is no node at a prefix, there is none at a longer one.
use Rattle.std.proofs.Common.{◌≡◌, ◌+◌, ◌-◌, ◌/◌, ℕ, take, None, sym, ◌∙◌, arith}
use Rattle.cg_maps.specs.FiniteMap.{get}
use Rattle.cg_path_tree.proofs.Prefixes.{none_below}
use Rattle.cg_path_tree.proofs.path_tree.PathTree.deepest_by_halving.Goals as goal

pub returns-in_err-found-clause-none : goal.returns-in_err-found-clause-none
returns-in_err-found-clause-none g c =
    rw c.from_residual.ensures (λ d. none_below c.args.self.now.keys c.args.path.now 0 d c.laws.ensures.closed (omega arith) (sym c.in_err-found.ensures))

pub loop-above-preserved : goal.loop-above-preserved
loop-above-preserved g c =
    let i = c.loop-above.invariant in
    let middle : ℕ = c.loop-above.depth + (c.loop-above.above - c.loop-above.depth) / 2 in
    let none : get c.args.self.now.keys (take middle c.args.path.now) ≡ None = sym c.find_prefix.ensures ∙ c.in-None.is in (
      omega arith,
      omega arith,
      i.2,
      i.3,
      (λ d low within. none_below c.args.self.now.keys c.args.path.now middle d i.5 low none),
      i.5,
    )
