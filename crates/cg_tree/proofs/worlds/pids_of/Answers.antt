use Rattle.std.proofs.Common.{◌++◌, ◌∷◌, [], sym, ap, append_assoc, append-nil, ◌∙◌}
use Rattle.std.specs.Map.{keys_of}
use Rattle.std.specs.Map.Iter.{deref_pair}
use Rattle.std.proofs.lemmas.Map.Iter.{rest_more, rest_all}
use Rattle.cg_tree.proofs.Places.{keys_of_map}
use Rattle.cg_tree.proofs.worlds.pids_of.Goals as goal

pub loop-pid-init : goal.loop-pid-init
loop-pid-init c = (λ i. c.in_ok-pids.ensures.items i ++ keys_of (c.into_iter-pid-iterator.ensures.into_iter_gives.0 i))

pub loop-pid-preserved : goal.loop-pid-preserved
loop-pid-preserved c =
    ap (λ xs. xs ++ keys_of c.next.new.self) c.in_ok-push.ensures.items
    ∙ append_assoc c.loop-pid.pids.items (c.in-Some.pid.now ∷ []) (keys_of c.next.new.self)
    ∙ ap (λ es. c.loop-pid.pids.items ++ keys_of es) (sym (rest_more deref_pair _ _ _ _ c.in-Some.is c.next.ensures.steps))
    ∙ c.loop-pid.invariant

pub returns : goal.returns
returns c =
    sym (append-nil c.loop-pid.pids.items)
    ∙ ap (λ es. c.loop-pid.pids.items ++ keys_of es) (sym (rest_all deref_pair _ _ _ c.in-None.is c.next.ensures.steps))
    ∙ c.loop-pid.invariant
    ∙ keys_of_map c.args.places.now c.into_iter-pid-iterator.ensures.into_iter_gives.5
