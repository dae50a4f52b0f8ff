-- The parts below have what they should, whether there was memory or not.
use Rattle.cg_locks.proofs.HeldMaps.{still_summed}
use Rattle.cg_locks.proofs.Results.{either_way}
use Rattle.cg_locks.proofs.path_holders.PathHolders.add_counted.Goals as goal

pub invariant_of-self-2 : goal.invariant_of-self-2
invariant_of-self-2 c =
    let M = c.reach.new.nodes.values in
    let summed = still_summed c.self.inside.nodes.values M c.in_ok-key.ensures.held c.self.invariant in
    either_way c.add.result c.add.ensures.ok c.add.ensures.err (λ more. (more c.args.path.now c.in_ok-key.ensures.key).summed summed) (λ same. still_summed M c.add.new.nodes.values same summed)
