use Rattle.std.proofs.Common.{◌≡◌, Some, ap, sym, subst, ◌∙◌}
use Rattle.std.specs.Option.{is_some}
use Rattle.std.specs.List.Sorted.{IsStrictlySortedBy}
use Rattle.std.specs.Map.{keys_of}
use Rattle.cg_maps.proofs.TreeMaps.{get-view, view-insert}
use Rattle.cg_maps.specs.FiniteMap.{from_entries, set_at, get}
use Rattle.cg_world.specs.Gathered.{entries_of}
use Rattle.cg_world.proofs.Runs.{AreBelow, none_below, sorted_none, sorted_push, view-push}
use Rattle.cg_world.proofs.gathered.Gathered.insert.Goals as goal
use Rattle.cg_world.proofs.gathered.Gathered.insert.Goals.{in-Run+else-is_behind, in_default}

pub invariant_of-self-then-is_behind : goal.invariant_of-self-then-is_behind
invariant_of-self-then-is_behind g c =
    let R = g.K.Ord.cmp in
    let es = c.in-Run.run'.items in
    let sorted = subst (λ k. IsStrictlySortedBy R (keys_of (entries_of k))) c.in-Run.is c.self.invariant in
    let below = subst (AreBelow R c.args.key) c.as_slice.ensures.value (c.is_behind.ensures c.if-is_behind.true) in
    subst (λ xs. IsStrictlySortedBy R (keys_of xs)) (sym c.in_ok-push.ensures.items) (sorted_push g.met.K.Ord.total c.args.key c.args.value es below sorted)

pub returns-then-is_behind-clause-ok : goal.returns-then-is_behind-clause-ok
returns-then-is_behind-clause-ok g c = λ same.
    let R = g.K.Ord.cmp in
    let es = c.in-Run.run'.items in
    let below = subst (AreBelow R c.args.key) c.as_slice.ensures.value (c.is_behind.ensures c.if-is_behind.true) in
    ap (from_entries R) c.in_ok-push.ensures.items
    ∙ view-push g.met.K.Ord.total same c.args.key c.args.value es below
    ∙ ap (λ xs. set_at (from_entries R xs) c.args.key (Some c.args.value)) (sym (ap entries_of c.in-Run.is) ∙ c.self.view_is)

pub returns-then-is_behind-clause-had : goal.returns-then-is_behind-clause-had
returns-then-is_behind-clause-had g c = λ same.
    let R = g.K.Ord.cmp in
    let es = c.in-Run.run'.items in
    let below = subst (AreBelow R c.args.key) c.as_slice.ensures.value (c.is_behind.ensures c.if-is_behind.true) in
    sym (ap is_some (none_below g.met.K.Ord.total same c.args.key es below))
    ∙ ap (λ xs. is_some (get (from_entries R xs) c.args.key)) (sym (ap entries_of c.in-Run.is) ∙ c.self.view_is)

pub invariant_of-self-in_err-map : goal.invariant_of-self-in_err-map
invariant_of-self-in_err-map g c = subst (λ k. IsStrictlySortedBy g.K.Ord.cmp (keys_of (entries_of k))) (sym c.replace.ensures.after) (sorted_none g.K.Ord.cmp _ c.new.ensures.items)

pub invariant_of-self-in_err-former : goal.invariant_of-self-in_err-former
invariant_of-self-in_err-former g c = subst (λ k. IsStrictlySortedBy g.K.Ord.cmp (keys_of (entries_of k))) (sym c.replace.ensures.after) (sorted_none g.K.Ord.cmp _ c.new.ensures.items)

pub returns-clause-ok : goal.returns-clause-ok
returns-clause-ok g c = λ same.
    let R = g.K.Ord.cmp in
    let kept : c.match-self.self-inside ≡ c.self.inside = elim c.match-self.branch [ in-Run+else-is_behind w ↦ w.self-inside-is ∙ (λ i. record { kept = sym w.in-Run.is i }) | in_default w ↦ w.self-inside-is ] in
    view-insert g.met.K.Ord.total same c.in_ok-map.map c.insert.new.self c.args.key c.args.value c.in_ok-former.ensures.updates
    ∙ ap (λ m. set_at m c.args.key (Some c.args.value)) (c.in_ok-map.ensures same ∙ ap (from_entries R) (ap entries_of (c.replace.ensures.value ∙ ap (λ g. g.kept) kept) ∙ c.self.view_is))

pub returns-clause-had : goal.returns-clause-had
returns-clause-had g c = λ same.
    let R = g.K.Ord.cmp in
    let kept : c.match-self.self-inside ≡ c.self.inside = elim c.match-self.branch [ in-Run+else-is_behind w ↦ w.self-inside-is ∙ (λ i. record { kept = sym w.in-Run.is i }) | in_default w ↦ w.self-inside-is ] in
    c.is_some.ensures
    ∙ ap is_some (c.in_ok-former.ensures.old ∙ sym (get-view g.met.K.Ord.total same c.in_ok-map.map c.args.key))
    ∙ ap (λ m. is_some (get m c.args.key)) (c.in_ok-map.ensures same ∙ ap (from_entries R) (ap entries_of (c.replace.ensures.value ∙ ap (λ g. g.kept) kept) ∙ c.self.view_is))
