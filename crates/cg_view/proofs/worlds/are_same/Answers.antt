-- All four parts are the same.
use Rattle.std.proofs.Common.{◌≡◌, sym, ap, ◌∙◌}
use Rattle.cg_view.proofs.Committed.{not_same}
use Rattle.cg_view.proofs.Same.{controllers, sets}
use Rattle.cg_view.proofs.worlds.are_same.Goals as goal

pub returns : goal.returns
returns c =
    let l = c.args.left.now in
    let r = c.args.right.now in
    let devices : l.controllers ≡ r.controllers = sym c.controllers.ensures ∙ not_same _ _ (controllers c.controllers.result c.controllers-2.result) c.ne.ensures c.if-ne.false ∙ c.controllers-2.ensures in
    let cpus : l.online ≡ r.online = sym c.online.ensures ∙ not_same _ _ (sets c.online.result c.online-2.result) c.ne-2.ensures c.if-ne-2.false ∙ c.online-2.ensures in
    let groups : l.groups ≡ r.groups = ap (λ t. t.groups) (sym c.tree.ensures.value) ∙ c.have_same_groups.ensures.0 c.if-not-have_same_groups.false ∙ ap (λ t. t.groups) c.tree-2.ensures.value in (
      (λ same i. record { controllers = devices i; online = cpus i; groups = groups i; places = (ap (λ t. t.places) (sym c.tree-3.ensures.value) ∙ c.have_same_places.ensures.0 same ∙ ap (λ t. t.places) c.tree-4.ensures.value) i }),
      (λ e. c.have_same_places.ensures.1 (ap (λ t. t.places) (c.tree-3.ensures.value ∙ e ∙ sym c.tree-4.ensures.value))),
    )
