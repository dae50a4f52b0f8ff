-- What is written at the key's path is one more there.
use Rattle.std.proofs.Common.{◌≡◌, ◌+◌, Some, ap, sym, ◌∙◌}
use Rattle.std.proofs.lemmas.Result.{IfOk-weaker, on_ok_weaker, on_err_weaker}
use Rattle.cg_maps.specs.FiniteMap.{get, set_at}
use Rattle.cg_name.specs.Path.{Path}
use Rattle.cg_path_tree.specs.Nodes.{path_of}
use Rattle.cg_locks.specs.Held.{part_of}
use Rattle.cg_locks.specs.HeldByPath.{in_part}
use Rattle.cg_locks.specs.Holders.{held_at, held_by}
use Rattle.cg_locks.proofs.HeldMaps.{held_there, unwritten, written_more}
use Rattle.cg_locks.proofs.upward.add_at.Goals as goal

pub returns-clause-ok : goal.returns-clause-ok
returns-clause-ok c =
    let T = c.args.nodes.now.values in
    on_ok_weaker c.add.result (λ more p h. written_more T (set_at T (path_of c.args.nodes.now.keys c.args.key) (Some c.add.new.self)) p c.get_mut.result.now c.add.new.self (c.get_mut.ensures.value p h)
    (ap (λ q. set_at T q (Some c.add.new.self)) (c.get_mut.ensures.path p h)) c.args.part c.args.transaction.0 more) c.add.ensures.ok

pub returns-clause-count : goal.returns-clause-count
returns-clause-count c =
    let T = c.args.nodes.now.values in
    IfOk-weaker c.add.result (λ n. n ≡ held_by (part_of c.args.part c.get_mut.result.now) c.args.transaction.0 + 1)
    (λ n. (p : Path) → get c.args.nodes.now.keys p ≡ Some c.args.key → n ≡ held_at (in_part c.args.part T) p c.args.transaction.0 + 1)
    (λ n e p h. e ∙ ap (λ m. m + 1) (sym (held_there c.args.part T p c.get_mut.result.now c.args.transaction.0 (c.get_mut.ensures.value p h)))) c.add.ensures.count

pub returns-clause-err : goal.returns-clause-err
returns-clause-err c =
    let T = c.args.nodes.now.values in
    let p = c.requires.0 in
    let h = c.requires.1 in
    on_err_weaker c.add.result (λ same. λ i. record {
      values = unwritten T p (path_of c.args.nodes.now.keys c.args.key) c.get_mut.result.now c.add.new.self (c.get_mut.ensures.path p h) (c.get_mut.ensures.value p h) same i;
      keys = c.args.nodes.now.keys;
    }) c.add.ensures.err
