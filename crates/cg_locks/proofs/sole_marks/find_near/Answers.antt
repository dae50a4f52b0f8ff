use Rattle.std.proofs.Common.{◌<◌, length, refl, sym, ◌∙◌, arith}
use Rattle.std.proofs.lemmas.Bool.Decides.{nat_tests}
use Rattle.std.proofs.lemmas.Option.{slice_get_read}
use Rattle.cg_locks.specs.Meaning.{mark_of}
use Rattle.cg_locks.proofs.Soles.{stands}
use Rattle.cg_locks.proofs.sole_marks.find_near.Goals as goal

pub returns-then-is_same-clause-there : goal.returns-then-is_same-clause-there
returns-then-is_same-clause-there c =
    let marks = c.args.marks.now in
    let low : c.args.near < length marks = grind (arith, nat_tests, c.in-Some.ensures.lookup.0) in
    stands marks c.args.slots.now c.requires (mark_of c.args.mark.now) c.args.near c.in-Some.there.now
    (slice_get_read marks (length marks) c.args.near c.in-Some.there.now refl low c.in-Some.ensures.lookup.1) (sym c.is_same.ensures ∙ c.if-is_same.true)
