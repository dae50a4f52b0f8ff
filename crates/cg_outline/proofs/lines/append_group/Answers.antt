use Rattle.std.proofs.Common.{◌++◌, ◌∷◌, [], ap, ◌∙◌}
use Rattle.cg_name.proofs.Growing.{first, more}
use Rattle.cg_name.specs.Path.{path_word}
use Rattle.cg_outline.specs.Outline.{facts_text, indent}
use Rattle.cg_outline.proofs.lines.append_group.Goals as goal

pub returns : goal.returns
returns c =
    let T = c.args.tree.now.tree in
    let p = c.args.path.now in
    let x = c.args.out.now.items in
    let I = indent p in
    let W = path_word p in
    let F = facts_text c.args.depth T p c.args.settings.now in
    let told = c.in_ok-append_facts.ensures ∙ ap (λ q. c.write.new.out.items ++ facts_text c.args.depth T q c.args.settings.now) c.in_ok-path.ensures in
    let so_far = more F (more W (first x I c.in_ok-append_indent.ensures) c.in_ok-write.ensures.ok) told in
    (more (10 ∷ []) so_far c.in_ok-push.ensures.items).is
