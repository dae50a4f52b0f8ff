-- What is emptied is what asks for CPUs.
use Rattle.std.proofs.Common.{◌≡◌, ◌++◌, [], true, cond, ap, sym, subst, ◌∙◌, append-nil}
use Rattle.std.specs.Iterator.{YieldsFirstBy}
use Rattle.cg_model.specs.Control.{emptied}
use Rattle.cg_model.specs.Derived.{children}
use Rattle.cg_command.proofs.Emptying.{each_emptied, asking_emptied}
use Rattle.cg_command.proofs.subtree.add_emptied.Goals as goal

pub returns : goal.returns
returns c =
    let all = children c.args.tree.now.tree c.args.path.now in
    let none : c.loop-child.children ≡ [] = (subst (λ r. YieldsFirstBy (λ g. (g.0, g.1.now)) (λ gs. gs) c.loop-child.children r c.next.new.self) c.in_default.is c.next.ensures.steps).0 in
    sym (append-nil c.loop-child.inverse)
    ∙ ap (λ es. c.loop-child.inverse ++ each_emptied es) (sym none)
    ∙ c.loop-child.invariant
    ∙ ap (λ cs. c.args.inverse.now ++ cs) (asking_emptied all ∙ ap (λ b. emptied (cond b all []) []) {x = true} {y = c.args.goes} (sym c.if-not-goes.false))
