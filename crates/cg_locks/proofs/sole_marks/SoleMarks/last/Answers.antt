-- The last is held by the holder.
use Rattle.std.proofs.Common.{◌<◌, length, refl, sym, subst, ◌∙◌, arith}
use Rattle.std.proofs.lemmas.Bool.Decides.{nat_tests}
use Rattle.cg_locks.specs.Meaning.{mark_of}
use Rattle.cg_locks.specs.Sole.{sole_times}
use Rattle.cg_locks.proofs.Soles.{held_there, last_there, own_count, told_sole}
use Rattle.cg_locks.proofs.sole_marks.SoleMarks.last.Goals as goal

pub returns-in_ok-copy-in-Some : goal.returns-in_ok-copy-in-Some
returns-in_ok-copy-in-Some c =
    let h = c.self.inside.holder in
    let es = c.self.inside.marks.items in
    let some : 0 < length c.deref.result.now = grind (arith, nat_tests, c.in-Some.ensures.item.0) in
    let at = last_there c.deref.result.now c.in-Some.last.now some c.in-Some.ensures.item.1 in
    let low = held_there c.deref.result.now at.0 c.in-Some.last.now at.1 c.if-last-gt0.true in
    subst (λ m. 0 < m) (sym (told_sole h es c.args.self.now c.self.view_is h (mark_of c.in_ok-copy-in-Some.field-0) ∙ own_count h h es (mark_of c.in_ok-copy-in-Some.field-0) refl))
    (subst (λ m. 0 < sole_times m es) (sym c.in_ok-copy-in-Some.ensures) (subst (λ l. 0 < sole_times (mark_of c.in-Some.last.now.mark) l) c.deref.ensures.value low))
