use Rattle.std.proofs.Common.{◌≡◌, Some, None, is_some, filter, ap, sym, subst, ◌∙◌}
use Rattle.cg_maps.specs.FiniteMap.{entries, get, retain}
use Rattle.cg_name.specs.Path.{is_parent}
use Rattle.cg_path_tree.specs.Nodes.{ArePassing}
use Rattle.cg_tree.specs.Contents.{Contents}
use Rattle.cg_tree.specs.Entries.{groups_in}
use Rattle.cg_tree.specs.Listing.{asks_for_cpus, asks_at, listed, AreKeys}
use Rattle.cg_tree.specs.Present.{present}
use Rattle.cg_tree.proofs.Asking.{passes, keys_asking, once_filtered, asking_pass, asking_entries, StandOnce}
use Rattle.cg_tree.proofs.NodeLists.{keys_where, listed_where, no_entries}
use Rattle.cg_tree.proofs.Putting.{none_counted_right_below}
use Rattle.cg_tree.proofs.Unordered.{are_where}
use Rattle.cg_tree.proofs.groups.Groups.children_with_cpus.Goals as goal

pub returns-in_default : goal.returns-in_default
returns-in_default c =
    let own : None ≡ get c.self.inside.nodes.keys c.args.path.now = c.in_default.ensures in
    c.new-in_default.ensures
    ∙ ap (listed c.self.inside.nodes) c.new.ensures.items
    ∙ ap (filter asks_for_cpus) (sym (no_entries (retain (present (groups_in c.self.inside.nodes.values)) (is_parent c.args.path.now))
    (none_counted_right_below c.self.inside.nodes c.laws.ensures.closed c.laws.ensures.both c.args.path.now (ap is_some (sym own)))))
    ∙ ap (λ g. filter asks_for_cpus (entries (retain (present g) (is_parent c.args.path.now)))) (ap (λ (v : Contents). v.groups) c.self.view_is)

pub asking_for_cpus-requires : goal.asking_for_cpus-requires
asking_for_cpus-requires c i k at =
    let own : Some c.in-Some.key ≡ get c.self.inside.nodes.keys c.args.path.now = c.in-Some.ensures in
    let found = (are_where c.self.inside.nodes (is_parent c.args.path.now) c.children.result.now c.laws.ensures.one_path c.laws.ensures.both (c.children.ensures.below c.args.path.now (sym own))).each i k at in
    (found.0, found.1)

pub sort-requires-clause-live : goal.sort-requires-clause-live
sort-requires-clause-live c =
    let own : Some c.in-Some.key ≡ get c.self.inside.nodes.keys c.args.path.now = c.in-Some.ensures in
    let w = are_where c.self.inside.nodes (is_parent c.args.path.now) c.children.result.now c.laws.ensures.one_path c.laws.ensures.both (c.children.ensures.below c.args.path.now (sym own)) in
    subst (AreKeys c.self.inside.nodes) (sym (c.deref.ensures.value ∙ c.in_ok-asking.ensures)) (keys_asking c.self.inside.nodes (is_parent c.args.path.now) c.children.result.now w)

pub sort-requires-clause-once : goal.sort-requires-clause-once
sort-requires-clause-once c =
    subst StandOnce (sym (c.deref.ensures.value ∙ c.in_ok-asking.ensures)) (once_filtered (asks_at c.self.inside.nodes) c.children.result.now c.children.ensures.once)

pub new-requires-2 : goal.new-requires-2
new-requires-2 c =
    let own : Some c.in-Some.key ≡ get c.self.inside.nodes.keys c.args.path.now = c.in-Some.ensures in
    let w = are_where c.self.inside.nodes (is_parent c.args.path.now) c.children.result.now c.laws.ensures.one_path c.laws.ensures.both (c.children.ensures.below c.args.path.now (sym own)) in
    let test = passes c.self.inside.nodes (is_parent c.args.path.now) c.children.result.now w in
    keys_where c.self.inside.nodes test c.in_ok-keys.keys.items
    (c.in_ok-keys.ensures test (subst (ArePassing c.self.inside.nodes.keys test) (sym (c.deref.ensures.value ∙ c.in_ok-asking.ensures)) (asking_pass c.self.inside.nodes (is_parent c.args.path.now) c.children.result.now w)))

pub returns : goal.returns
returns c =
    let own : Some c.in-Some.key ≡ get c.self.inside.nodes.keys c.args.path.now = c.in-Some.ensures in
    let w = are_where c.self.inside.nodes (is_parent c.args.path.now) c.children.result.now c.laws.ensures.one_path c.laws.ensures.both (c.children.ensures.below c.args.path.now (sym own)) in
    let test = passes c.self.inside.nodes (is_parent c.args.path.now) c.children.result.now w in
    c.new-2.ensures
    ∙ listed_where c.self.inside.nodes c.laws.ensures.both test c.in_ok-keys.keys.items
    (c.in_ok-keys.ensures test (subst (ArePassing c.self.inside.nodes.keys test) (sym (c.deref.ensures.value ∙ c.in_ok-asking.ensures)) (asking_pass c.self.inside.nodes (is_parent c.args.path.now) c.children.result.now w)))
    ∙ asking_entries c.self.inside.nodes (is_parent c.args.path.now) c.children.result.now w
    ∙ ap (λ g. filter asks_for_cpus (entries (retain (present g) (is_parent c.args.path.now)))) (ap (λ (v : Contents). v.groups) c.self.view_is)
