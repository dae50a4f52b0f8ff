use Rattle.std.proofs.Common.{◌≡◌, Some, None, is_some, ap, sym, ◌∙◌}
use Rattle.cg_maps.specs.FiniteMap.{entries, get, retain}
use Rattle.cg_name.specs.Path.{is_parent}
use Rattle.cg_tree.specs.Contents.{Contents}
use Rattle.cg_tree.specs.Entries.{groups_in}
use Rattle.cg_tree.specs.Listing.{listed}
use Rattle.cg_tree.specs.Present.{present}
use Rattle.cg_tree.proofs.NodeLists.{keys_where, listed_where, no_entries}
use Rattle.cg_tree.proofs.Putting.{none_counted_right_below}
use Rattle.cg_tree.proofs.Unordered.{are_where, where_keys, where_pass}
use Rattle.cg_tree.proofs.groups.Groups.children.Goals as goal

pub returns-in_default : goal.returns-in_default
returns-in_default c =
    let own : None ≡ get c.self.inside.nodes.keys c.args.path.now = c.in_default.ensures in
    c.new-in_default.ensures
    ∙ ap (listed c.self.inside.nodes) c.new.ensures.items
    ∙ sym (no_entries (retain (present (groups_in c.self.inside.nodes.values)) (is_parent c.args.path.now))
    (none_counted_right_below c.self.inside.nodes c.laws.ensures.closed c.laws.ensures.both c.args.path.now (ap is_some (sym own))))
    ∙ ap (λ g. entries (retain (present g) (is_parent c.args.path.now))) (ap (λ (v : Contents). v.groups) c.self.view_is)

pub sort-requires-clause-live : goal.sort-requires-clause-live
sort-requires-clause-live c =
    let own : Some c.in-Some.key ≡ get c.self.inside.nodes.keys c.args.path.now = c.in-Some.ensures in
    let w = are_where c.self.inside.nodes (is_parent c.args.path.now) c.children.result.now c.laws.ensures.one_path c.laws.ensures.both (c.children.ensures.below c.args.path.now (sym own)) in
    where_keys c.self.inside.nodes (is_parent c.args.path.now) c.children.result.now w

pub sort-requires-clause-once : goal.sort-requires-clause-once
sort-requires-clause-once c = c.children.ensures.once

pub new-requires-2 : goal.new-requires-2
new-requires-2 c =
    let own : Some c.in-Some.key ≡ get c.self.inside.nodes.keys c.args.path.now = c.in-Some.ensures in
    let w = are_where c.self.inside.nodes (is_parent c.args.path.now) c.children.result.now c.laws.ensures.one_path c.laws.ensures.both (c.children.ensures.below c.args.path.now (sym own)) in
    keys_where c.self.inside.nodes (is_parent c.args.path.now) c.in_ok-keys.keys.items
    (c.in_ok-keys.ensures (is_parent c.args.path.now) (where_pass c.self.inside.nodes (is_parent c.args.path.now) c.children.result.now w))

pub returns : goal.returns
returns c =
    let own : Some c.in-Some.key ≡ get c.self.inside.nodes.keys c.args.path.now = c.in-Some.ensures in
    let w = are_where c.self.inside.nodes (is_parent c.args.path.now) c.children.result.now c.laws.ensures.one_path c.laws.ensures.both (c.children.ensures.below c.args.path.now (sym own)) in
    c.new-2.ensures
    ∙ listed_where c.self.inside.nodes c.laws.ensures.both (is_parent c.args.path.now) c.in_ok-keys.keys.items
    (c.in_ok-keys.ensures (is_parent c.args.path.now) (where_pass c.self.inside.nodes (is_parent c.args.path.now) c.children.result.now w))
    ∙ ap (λ g. entries (retain (present g) (is_parent c.args.path.now))) (ap (λ (v : Contents). v.groups) c.self.view_is)
