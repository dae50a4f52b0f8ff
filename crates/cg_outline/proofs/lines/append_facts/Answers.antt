use Rattle.std.proofs.Common.{◌++◌, Result, Ok, Err, OnOk, ap, ◌∙◌, codes}
use Rattle.cg_name.proofs.Growing.{first, more}
use Rattle.cg_outline.specs.Outline.{asked_text, below_text, derived_text, names_fact, root_controllers}
use Rattle.cg_outline.proofs.lines.append_facts.Goals as goal

on_ok : {X E P Q : Type 0} (r : Result X E) → (P → Q) → OnOk r P → OnOk r Q
on_ok (Ok t) f p = f p
on_ok (Err e) f p = tt

pub returns : goal.returns
returns c =
    let T = c.args.tree.now.tree in
    let p = c.args.path.now in
    let x = c.args.out.now.items in
    let N = names_fact (codes "controllers") (root_controllers T p) in
    let A = asked_text T p c.args.settings.now in
    let D = derived_text T p in
    let B = below_text c.args.depth T p in
    let named = first x N (c.in_ok-append_names.ensures ∙ ap (λ s. x ++ names_fact (codes "controllers") s) c.controllers_at.ensures) in
    let so_far = more D (more A named c.in_ok-append_asked.ensures) c.in_ok-append_derived.ensures in
    on_ok c.append_below.result (λ e. (more B so_far e).is) c.append_below.ensures
