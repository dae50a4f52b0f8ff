-- The first of the marks that aren't on numbers of descendants, or else the first of those.
use Rattle.std.proofs.Common.{Some, None, option_map, refl}
use Rattle.cg_locks.specs.Clashing.{any_mark}
use Rattle.cg_locks.specs.Meaning.{mark_of}
use Rattle.cg_locks.proofs.FirstClash.{first_is, some_clashes}
use Rattle.cg_locks.proofs.footprint.Footprint.clashing.Goals as goal

pub returns-in-Some-clause-first : goal.returns-in-Some-clause-first
returns-in-Some-clause-first c =
    first_is c.parts.result.0.now c.parts-2.result.0.now c.parts.result.1 c.parts-2.result.1 _ _ c.parts.ensures.marks c.parts-2.ensures.marks (Some c.in-Some.mark.now) _ c.in-Some.ensures refl

pub returns-in-Some-clause-some : goal.returns-in-Some-clause-some
returns-in-Some-clause-some c =
    some_clashes mark_of (Some c.in-Some.mark.now) c.args.self.now c.args.other.now
    (first_is c.parts.result.0.now c.parts-2.result.0.now c.parts.result.1 c.parts-2.result.1 _ _ c.parts.ensures.marks c.parts-2.ensures.marks (Some c.in-Some.mark.now) _ c.in-Some.ensures refl)

pub returns-in-None-clause-first : goal.returns-in-None-clause-first
returns-in-None-clause-first c =
    first_is c.parts.result.0.now c.parts-2.result.0.now c.parts.result.1 c.parts-2.result.1 _ _ c.parts.ensures.marks c.parts-2.ensures.marks None (option_map any_mark c.first_counted.result) c.in-None.ensures c.first_counted.ensures

pub returns-in-None-clause-some : goal.returns-in-None-clause-some
returns-in-None-clause-some c =
    some_clashes any_mark c.first_counted.result c.args.self.now c.args.other.now
    (first_is c.parts.result.0.now c.parts-2.result.0.now c.parts.result.1 c.parts-2.result.1 _ _ c.parts.ensures.marks c.parts-2.ensures.marks None (option_map any_mark c.first_counted.result) c.in-None.ensures c.first_counted.ensures)
