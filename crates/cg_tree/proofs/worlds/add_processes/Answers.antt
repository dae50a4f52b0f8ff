use Rattle.std.proofs.Common.{◌≡◌, None, is_some, refl, sym, ap, subst, ◌∙◌}
use Rattle.std.specs.List.{AllByRecursion}
use Rattle.std.specs.Cmp.{nat_cmp_total}
use Rattle.std.specs.FinMap.{nat_cmp-IsAntisymmetric}
use Rattle.std.specs.Map.Iter.{deref_pair}
use Rattle.std.proofs.lemmas.Map.Iter.{rest_more, rest_all}
use Rattle.cg_maps.specs.FiniteMap.{empty, get}
use Rattle.cg_maps.specs.Laws.{EachKeyOnce}
use Rattle.cg_world.proofs.Puts.{puts, puts-view}
use Rattle.cg_tree.proofs.Listing.{AreIn, all_in, all_new, once_in, still_new}
use Rattle.cg_tree.proofs.worlds.add_processes.Goals as goal

pub loop-pid-init : goal.loop-pid-init
loop-pid-init c =
    let all = c.into_iter-pid-iterator.ensures.into_iter_gives.0 in
    let ordered = c.into_iter-pid-iterator.ensures.into_iter_gives.5 in
    record {
      groups = refl;
      places = ap (λ m. puts m c.into_iter-pid-iterator.result) c.requires.none ∙ ap (puts empty) all;
      there = subst (AreIn c.args.places.now) (sym all) (all_in c.args.places.now ordered);
      new = all_new c.args.groups.now.places c.requires.none c.into_iter-pid-iterator.result;
      once = subst EachKeyOnce (sym all) (once_in c.args.places.now ordered);
    }

pub add_process-requires-clause-absent : goal.add_process-requires-clause-absent
add_process-requires-clause-absent c =
    let m = c.loop-pid.groups.places in
    (subst (AllByRecursion (λ e. get m e.0 ≡ None)) (rest_more deref_pair _ _ _ _ c.in-Some.is c.next.ensures.steps) c.loop-pid.invariant.new).0

pub add_process-requires-clause-entry : goal.add_process-requires-clause-entry
add_process-requires-clause-entry c =
    let there = subst (AreIn c.args.places.now) (rest_more deref_pair _ _ _ _ c.in-Some.is c.next.ensures.steps) c.loop-pid.invariant.there in
    ap (λ m. is_some (get m c.in-Some.path.now)) c.loop-pid.invariant.groups ∙ c.requires.entries c.in-Some.pid.now c.in-Some.path.now there.0

pub loop-pid-preserved : goal.loop-pid-preserved
loop-pid-preserved c =
    let more = rest_more deref_pair _ _ _ _ c.in-Some.is c.next.ensures.steps in
    let once = subst EachKeyOnce more c.loop-pid.invariant.once in
    let new = subst (AllByRecursion (λ e. get c.loop-pid.groups.places e.0 ≡ None)) more c.loop-pid.invariant.new in
    record {
      groups = c.add_process.ensures.groups ∙ c.loop-pid.invariant.groups;
      places =
          ap (λ m. puts m c.next.new.self) c.in_ok-add_process.ensures.places
          ∙ ap (puts c.loop-pid.groups.places) (sym more)
          ∙ c.loop-pid.invariant.places;
      there = (subst (AreIn c.args.places.now) more c.loop-pid.invariant.there).1;
      new = still_new c.loop-pid.groups.places c.add_process.new.self.places c.in-Some.pid.now c.in-Some.path.now c.in_ok-add_process.ensures.places c.next.new.self once.0 new.1;
      once = once.1;
    }

pub returns-clause-places : goal.returns-clause-places
returns-clause-places c =
    ap (puts c.loop-pid.groups.places) (sym (rest_all deref_pair _ _ _ c.in-None.is c.next.ensures.steps))
    ∙ c.loop-pid.invariant.places
    ∙ puts-view nat_cmp_total nat_cmp-IsAntisymmetric c.args.places.now c.into_iter-pid-iterator.ensures.into_iter_gives.5
