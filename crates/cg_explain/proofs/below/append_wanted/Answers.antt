use Rattle.std.proofs.Common.{◌≡◌, ◌<◌, true, rules}
use Rattle.cg_explain.specs.Notes.{is_wanted}
use Rattle.cg_explain.proofs.Told.{told_next}
use Rattle.cg_explain.proofs.below.append_wanted.Goals as goal

pub returns : goal.returns
returns c =
    let some : 0 < c.args.left = search rules in
    let passes : is_wanted c.args.wanted (c.args.child.now, c.args.settings.now) ≡ true = search rules in
    λ others. told_next (is_wanted c.args.wanted) c.args.said.now c.args.out.now.items c.append_child.new.out.items c.args.left (c.args.child.now, c.args.settings.now) others some passes c.in_ok-append_child.ensures
