-- Each change is asked, up to one that can't go back.
use Rattle.std.proofs.Common.{rules, subst}
use Rattle.std.proofs.lemmas.Iterator.{YieldsList-from_slice, cases_from_all}
use Rattle.std.specs.Bool.{Decides}
use Rattle.cg_model.specs.Change.{Fits}
use Rattle.cg_model.specs.Room.{RoomFor}
use Rattle.cg_tree.specs.Room.{has_entry}
use Rattle.cg_inverse.proofs.Going.{May, all_decided}
use Rattle.cg_inverse.proofs.inverse.Inverse.fits.Goals as goal

pub returns : goal.returns
returns c =
    let asked = cases_from_all _ _ c.all.result (May c.args.tree.now) (λ x. ¬ May c.args.tree.now x) c.all.ensures.ran (YieldsList-from_slice c.changes.result.now cc) (λ x q k. search rules) (λ x q k. search rules) in
    subst (λ i. Decides c.all.result (Fits i c.args.tree.now.tree × RoomFor (has_entry c.args.tree.now) i)) c.changes.ensures (all_decided c.args.tree.now c.changes.result.now c.all.result asked)
