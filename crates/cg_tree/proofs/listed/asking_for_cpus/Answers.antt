-- A node whose group asks for CPUs goes from what is left to what was found.
use Rattle.std.proofs.Common.{◌≡◌, ◌+◌, ◌++◌, ◌∷◌, [], cond, filter, drop, Some, slice_get, slice_index_or, append_assoc, ap, sym, ◌∙◌}
use Rattle.std.proofs.lemmas.Option.{slice_get-get_or}
use Rattle.cg_path_tree.specs.declared.node.NodeKey.{NodeKey}
use Rattle.cg_tree.specs.Entries.{path_at}
use Rattle.cg_tree.specs.Listing.{asks, asks_at}
use Rattle.cg_tree.proofs.Asking.{drop_at}
use Rattle.cg_tree.proofs.Climbing.{at_own_path}
use Rattle.cg_tree.proofs.NodeLists.{settings_there}
use Rattle.cg_tree.proofs.listed.asking_for_cpus.Goals as goal
use Rattle.cg_tree.proofs.listed.asking_for_cpus.Goals.{then-asks_for_cpus+in_ok-push, else-asks_for_cpus}

pub get-requires : goal.get-requires
get-requires c = c.requires c.loop-key.key-index _ (slice_get-get_or c.args.keys.now c.loop-key.key-index (record { 0 = 0 }) c.loop-key-test.true)

pub loop-key-preserved : goal.loop-key-preserved
loop-key-preserved c =
    let k : NodeKey = slice_index_or c.args.keys.now c.loop-key.key-index (record { 0 = 0 }) in
    let at : slice_get c.args.keys.now c.loop-key.key-index ≡ Some k = slice_get-get_or c.args.keys.now c.loop-key.key-index (record { 0 = 0 }) c.loop-key-test.true in
    let key = c.requires c.loop-key.key-index k at in
    let there = c.get.ensures (path_at c.args.nodes.now k) (at_own_path c.args.nodes.now k c.laws.ensures.one_path key) in
    let own : asks_at c.args.nodes.now k ≡ c.asks_for_cpus.result = ap asks (settings_there c.args.nodes.now k c.get.result.now there) ∙ sym c.asks_for_cpus.ensures in
    let rest = filter (asks_at c.args.nodes.now) (drop (c.loop-key.key-index + 1) c.args.keys.now) in
    let left = ap (filter (asks_at c.args.nodes.now)) (drop_at c.args.keys.now c.loop-key.key-index k at) in
    (elim c.if-asks_for_cpus.branch [
      | then-asks_for_cpus+in_ok-push w ↦
          ap (λ v. v.items ++ rest) w.found-is
          ∙ ap (λ xs. xs ++ rest) w.in_ok-push.ensures.items
          ∙ append_assoc c.loop-key.found.items (k ∷ []) rest
          ∙ ap (λ b. c.loop-key.found.items ++ cond b (k ∷ rest) rest) (sym (own ∙ w.if-asks_for_cpus.true))
      | else-asks_for_cpus w ↦
          ap (λ v. v.items ++ rest) w.found-is
          ∙ ap (λ b. c.loop-key.found.items ++ cond b (k ∷ rest) rest) (sym (own ∙ w.if-asks_for_cpus.false))
    ])
    ∙ ap (λ xs. c.loop-key.found.items ++ xs) (sym left)
    ∙ c.loop-key.invariant
