-- One node after another upward, as long as a group turns.
use Rattle.std.proofs.Common.{◌≡◌, ◌&&◌, Bool, true, false, Some, refl, sym, ap, subst, ◌∙◌, true≢false}
use Rattle.std.proofs.lemmas.Option.{same_Some}
use Rattle.cg_maps.specs.FiniteMap.{get}
use Rattle.cg_name.specs.Path.{is_prefix, is_root}
use Rattle.cg_path_tree.specs.Nodes.{parent_path, path_of, with_value, HaveOnePath, IsKey}
use Rattle.cg_tree.specs.CountedUp.{IsCountedUp}
use Rattle.cg_tree.specs.declared.entry.Entry.{Entry}
use Rattle.cg_tree.specs.Entries.{counted, entry_at, groups_in, held_in, path_at, with_populated_by, AreCounted}
use Rattle.cg_tree.proofs.Carrying.{before, changed_there, come_up, counted_up, entry_there, has_parent, is_top, not_come, parent_is, room_there, same_groups, same_place, shorter_up, still_counted, turning, AreChanged, HasStopped}
use Rattle.cg_tree.proofs.counting.count_process.Goals as goal
use Rattle.cg_tree.proofs.counting.count_process.Goals.{After-count_populating, In-Some}
use mir.Val.{bool_byte}

by_turning : (b : Bool) → bool_byte b ≡ turning b
by_turning true = refl
by_turning false = refl

pub up-init : goal.up-init
up-init c = not_come c.args.comes c.args.nodes.now c.args.key c.requires.key

pub count_populating-requires-clause-room : goal.count_populating-requires-clause-room
count_populating-requires-clause-room c e there = room_there c.up.invariant e (ap (get c.up.nodes.values) (sym (same_place c.up.invariant)) ∙ there) c.requires.room

-- the entry that is changed
there : (c : After-count_populating) → (e : Entry) × (get c.up.nodes.values (path_at c.args.nodes.now c.up.at) ≡ Some e)
there c = entry_there c.up.invariant c.laws.ensures.one_path c.laws.ensures.both

own : (c : After-count_populating) → entry_at c.up.nodes c.up.at ≡ Some (there c).0
own c = ap (get c.up.nodes.values) (same_place c.up.invariant) ∙ (there c).1

made : (c : After-count_populating) → c.count_populating.new.nodes ≡ with_value c.up.nodes (path_at c.up.nodes c.up.at) (with_populated_by c.args.comes true (there c).0)
made c = c.count_populating.ensures.nodes (there c).0 (own c)

keys : (c : After-count_populating) → c.count_populating.new.nodes.keys ≡ c.args.nodes.now.keys
keys c = ap (λ n. n.keys) (made c) ∙ c.up.invariant.keys

one : (c : After-count_populating) → HaveOnePath c.count_populating.new.nodes.keys
one c = subst HaveOnePath (sym (keys c)) c.laws.ensures.one_path

key : (c : After-count_populating) → IsKey c.count_populating.new.nodes.keys c.up.at
key c = subst (λ ks. IsKey ks c.up.at) (sym (keys c)) c.up.invariant.key

changed : (c : After-count_populating) → AreChanged c.args.comes (λ q. is_prefix (path_at c.args.nodes.now c.up.at) q && is_prefix q (path_at c.args.nodes.now c.args.key)) c.args.nodes.now.values c.count_populating.new.nodes.values
changed c = changed_there c.up.invariant (there c).0 (there c).1 c.count_populating.new.nodes (made c)

groups : (c : After-count_populating) → groups_in c.count_populating.new.nodes.values ≡ groups_in c.args.nodes.now.values
groups c = same_groups (path_at c.args.nodes.now c.args.key) (path_at c.args.nodes.now c.up.at) c.up.invariant.begins c.args.nodes.now.values c.count_populating.new.nodes.values c.args.comes (changed c)

counts : (c : After-count_populating) → AreCounted c.count_populating.new.nodes.values
counts c = still_counted (path_at c.args.nodes.now c.args.key) (path_at c.args.nodes.now c.up.at) c.up.invariant.begins c.args.nodes.now.values c.count_populating.new.nodes.values c.args.comes (changed c) c.requires.counted

held : (c : After-count_populating) → HasStopped (path_at c.args.nodes.now c.args.key) (path_at c.args.nodes.now c.up.at) c.up.invariant.begins c.args.nodes.now.values c.count_populating.new.nodes.values c.args.comes
    → IsCountedUp c.args.comes (path_at c.args.nodes.now c.args.key) (held_in c.args.nodes.now.values) (held_in c.count_populating.new.nodes.values)
held c stopped =
    counted_up (path_at c.args.nodes.now c.args.key) (path_at c.args.nodes.now c.up.at) c.up.invariant.begins c.args.nodes.now.values c.count_populating.new.nodes.values c.args.comes c.requires.room (changed c) c.up.invariant.turned stopped

-- ---- it did not turn

pub returns-then-count_populating-turned-clause-keys : goal.returns-then-count_populating-turned-clause-keys
returns-then-count_populating-turned-clause-keys c = keys (goal.at.returns-then-count_populating-turned-clause-keys c).After-count_populating

pub returns-then-count_populating-turned-clause-groups : goal.returns-then-count_populating-turned-clause-groups
returns-then-count_populating-turned-clause-groups c = groups (goal.at.returns-then-count_populating-turned-clause-groups c).After-count_populating

pub returns-then-count_populating-turned-clause-counted : goal.returns-then-count_populating-turned-clause-counted
returns-then-count_populating-turned-clause-counted c = counts (goal.at.returns-then-count_populating-turned-clause-counted c).After-count_populating

pub returns-then-count_populating-turned-clause-held : goal.returns-then-count_populating-turned-clause-held
returns-then-count_populating-turned-clause-held c =
    let at = (goal.at.returns-then-count_populating-turned-clause-held c).After-count_populating in
    held at (λ deep e h is.
    let same : (there at).0 ≡ e = same_Some _ _ (sym (before c.up.invariant (there at).0 (there at).1) ∙ h) in
    c.if-count_populating-turned.true
    (c.count_populating.ensures.count (there at).0 (own at) ∙ ap (λ (x : Entry). counted c.args.comes x.populated_by) same ∙ is ∙ sym (by_turning c.args.comes) ∙ sym c.from-turned.ensures))

-- ---- it is the root's

pub parent-requires : goal.parent-requires
parent-requires c = key (goal.at.parent-requires c).After-count_populating

pub returns-in_default-clause-keys : goal.returns-in_default-clause-keys
returns-in_default-clause-keys c = keys (goal.at.returns-in_default-clause-keys c).After-count_populating

pub returns-in_default-clause-groups : goal.returns-in_default-clause-groups
returns-in_default-clause-groups c = groups (goal.at.returns-in_default-clause-groups c).After-count_populating

pub returns-in_default-clause-counted : goal.returns-in_default-clause-counted
returns-in_default-clause-counted c = counts (goal.at.returns-in_default-clause-counted c).After-count_populating

pub returns-in_default-clause-held : goal.returns-in_default-clause-held
returns-in_default-clause-held c =
    let at = (goal.at.returns-in_default-clause-held c).After-count_populating in
    let top = is_top c.count_populating.new.nodes c.up.at (one at) (key at) c.parent.result c.parent.ensures.root c.parent.ensures.value c.in_default.is in
    held at (λ deep. absurd (true≢false (sym top ∙ ap (λ ks. is_root (path_of ks c.up.at)) (keys at) ∙ deep)))

-- ---- the walk goes on

abbrev step : (c : In-Some) → After-count_populating
step c = (goal.at.up-preserved c).After-count_populating

turned : (c : In-Some) → counted c.args.comes (there (step c)).0.populated_by ≡ turning c.args.comes
turned c = sym (c.count_populating.ensures.count (there (step c)).0 (own (step c))) ∙ c.if-count_populating-turned.false ∙ c.from-turned.ensures ∙ by_turning c.args.comes

deep : (c : In-Some) → is_root (path_at c.args.nodes.now c.up.at) ≡ false
deep c =
    ap (λ ks. is_root (path_of ks c.up.at)) (sym (keys (step c)))
    ∙ has_parent c.count_populating.new.nodes c.up.at (one (step c)) (key (step c)) c.parent.result c.parent.ensures.root c.parent.ensures.value c.in-Some.above c.in-Some.is

up : (c : In-Some) → Some c.in-Some.above ≡ get c.args.nodes.now.keys (parent_path (path_at c.args.nodes.now c.up.at))
up c =
    parent_is c.count_populating.new.nodes c.up.at (one (step c)) (key (step c)) c.parent.result c.parent.ensures.root c.parent.ensures.value c.in-Some.above c.in-Some.is
    ∙ ap (λ ks. get ks (parent_path (path_of ks c.up.at))) (keys (step c))

pub up-preserved : goal.up-preserved
up-preserved c =
    come_up c.up.invariant (there (step c)).0 (there (step c)).1 c.count_populating.new.nodes (made (step c)) (turned c) c.laws.ensures.one_path c.in-Some.above (deep c) (up c)

pub up-smaller : goal.up-smaller
up-smaller c =
    shorter_up c.up.invariant (there (step c)).0 (there (step c)).1 c.count_populating.new.nodes (made (step c)) (turned c) c.laws.ensures.one_path c.in-Some.above (deep c) (up c)
