use Rattle.std.specs.Fmt.{decimal}
use Rattle.std.specs.Prelude.{codes}
use Rattle.cg_batch.proofs.BatchLemmas.{five_appended}
use Rattle.cg_batch.proofs.ends.append_way.Goals as goal

pub returns : goal.returns
returns c =
    five_appended c.args.text.now.items _ _ _ _ _ (codes "# transaction ") (decimal c.args.holder) (codes " was in the way of request ") (decimal c.args.line)
    (codes ", and ") c.in_ok-extend_from_slice.ensures.items c.in_ok-append_number.ensures c.in_ok-extend_from_slice-2.ensures.items
    c.in_ok-append_number-2.ensures c.in_ok-extend_from_slice-3.ensures.items
