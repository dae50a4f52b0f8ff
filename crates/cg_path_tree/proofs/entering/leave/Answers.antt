-- The node of the key that moves is there.
use Rattle.std.proofs.Common.{get_or, slice_get, sym, ap, ◌∙◌}
use Rattle.std.proofs.lemmas.Option.{slice_get-get_or}
use Rattle.cg_path_tree.proofs.entering.leave.Goals as goal

pub set_entry-requires : goal.set_entry-requires
set_entry-requires g c =
    let order = c.args.order.now.items in
    let e = get_or order c.args.entry c.in-Some.moved in
    let at = slice_get-get_or order c.args.entry c.in-Some.moved c.requires.within in
    c.requires.moved e c.in-Some.moved at (ap (λ ks. slice_get ks c.args.entry) (sym (c.take_out.ensures.items e at)) ∙ sym c.take_out.ensures.moved ∙ c.in-Some.is)
