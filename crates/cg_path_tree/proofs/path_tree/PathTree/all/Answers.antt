-- Each key has a node, and each value is that of one.
use Rattle.std.proofs.Common.{◌≡◌, inl, inr, true, get_or, length, refl, ap, sym, subst, ◌∙◌, arith}
use Rattle.std.proofs.lemmas.Option.{slice_get_within, slice_get-get_or}
use Rattle.std.proofs.lemmas.Bool.{cases_eq}
use Rattle.std.specs.Fn.{FnReturnsAt}
use Rattle.std.specs.List.{slice_get}
use Rattle.cg_path_tree.specs.Linked.{NodeView, entries_of, node_in, node_view}
use Rattle.cg_path_tree.proofs.Listing.{all_live}
use Rattle.cg_path_tree.proofs.ListChanges.{same_some}
use Rattle.cg_path_tree.proofs.Ordered.{keys-keyed, key_stands}
use Rattle.cg_path_tree.proofs.Seen.{entry_of_value, slot_there}
use Rattle.cg_path_tree.proofs.Views.{seen_at}
use Rattle.cg_path_tree.proofs.path_tree.PathTree.all.Goals as goal

pub index-requires : goal.index-requires
index-requires g c =
    let xs = c.deref-key-items.result.now in
    let i = c.loop-key.key-index in
    let k = get_or xs i (record { 0 = 0 }) in
    slot_there (entries_of c.self.inside.nodes c.self.inside.order.items) c.self.inside.nodes c.self.invariant.linked c.args.self.now c.self.view_is k c.number.result c.number.ensures
    (all_live (entries_of c.self.inside.nodes c.self.inside.order.items) c.self.inside.nodes c.self.invariant.linked c.args.self.now c.self.view_is xs (keys-keyed (node_in c.self.inside.nodes) c.self.inside.order.items ∙ sym c.deref-key-items.ensures.value) i k (slice_get-get_or xs i (record { 0 = 0 }) c.loop-key-test.true))

pub loop-key-preserved : goal.loop-key-preserved
loop-key-preserved g c = λ j k n low at node. elim (cases_eq j c.loop-key.key-index) [
  | inr before ↦ c.loop-key.invariant j k n (omega (arith, low, before)) at node
  | inl last ↦
      let nodes = c.self.inside.nodes in
      let xs = c.deref-key-items.result.now in
      let i = c.loop-key.key-index in
      let own = get_or xs i (record { 0 = 0 }) in
      let there = slice_get-get_or xs i (record { 0 = 0 }) c.loop-key-test.true in
      let key : k ≡ own = same_some k own (sym at ∙ ap (slice_get c.self.inside.order.items) last ∙ ap (λ ks. slice_get ks i) (sym c.deref-key-items.ensures.value) ∙ there) in
      let seen = seen_at nodes own c.number.result c.index.result.now c.number.ensures c.index.ensures in
      let same : node_view c.index.result.now ≡ n = same_some (node_view c.index.result.now) n (sym seen ∙ ap (node_in nodes) (sym key) ∙ node) in
      subst (λ (m : NodeView _). FnReturnsAt g.F.Fn c.args.test m.value true) same (record { shown = _; shows = refl; says = record { met = c.if-not-test.ensures } })
]

pub returns : goal.returns
returns g c = λ _ p v h.
    let x = entry_of_value (entries_of c.self.inside.nodes c.self.inside.order.items) c.self.inside.nodes c.self.invariant.linked c.args.self.now c.self.view_is p v h in
    let at = key_stands (entries_of c.self.inside.nodes c.self.inside.order.items) c.self.inside.order.items (keys-keyed (node_in c.self.inside.nodes) c.self.inside.order.items) x.0 (p, x.1) x.3 in
    let within = slice_get_within c.self.inside.order.items x.0 x.1 at in
    subst (λ w. FnReturnsAt g.F.Fn c.args.test w true) x.5 (c.loop-key.invariant x.0 x.1 x.2 (omega (arith, within, c.loop-key-test.false, ap length c.deref-key-items.ensures.value)) at x.4)
