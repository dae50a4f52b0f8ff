-- What is written at the key's path is one less there.
use Rattle.std.proofs.Common.{◌<◌, Some, ap, sym, subst, ◌∙◌}
use Rattle.cg_maps.specs.FiniteMap.{set_at}
use Rattle.cg_path_tree.specs.Nodes.{path_of}
use Rattle.cg_locks.proofs.HeldMaps.{held_there, written_less}
use Rattle.cg_locks.proofs.upward.remove_at.Goals as goal

pub remove-requires : goal.remove-requires
remove-requires c =
    let p = c.requires.there.0 in
    let h = c.requires.there.1 in
    subst (λ n. 0 < n) (held_there c.args.part c.args.nodes.now.values p c.get_mut.result.now c.args.transaction.0 (c.get_mut.ensures.value p h)) (c.requires.held p h)

pub returns-clause-less : goal.returns-clause-less
returns-clause-less c = λ p h.
    let T = c.args.nodes.now.values in
    written_less T (set_at T (path_of c.args.nodes.now.keys c.args.key) (Some c.remove.new.self)) p c.get_mut.result.now c.remove.new.self (c.get_mut.ensures.value p h)
    (ap (λ q. set_at T q (Some c.remove.new.self)) (c.get_mut.ensures.path p h)) c.args.part c.args.transaction.0 c.remove.ensures.less

pub returns-clause-left : goal.returns-clause-left
returns-clause-left c = λ p h. c.remove.ensures.left ∙ sym (held_there c.args.part c.args.nodes.now.values p c.get_mut.result.now c.args.transaction.0 (c.get_mut.ensures.value p h))
