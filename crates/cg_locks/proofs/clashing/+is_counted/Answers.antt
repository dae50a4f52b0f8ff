use Rattle.std.proofs.Common.{◌≡◌, ◌||◌, ◌+◌, length, take, sym, ap, ◌∙◌, arith}
use Rattle.cg_name.specs.Path.{same_path}
use Rattle.cg_locks.proofs.FirstClash.{counted_step, descending_on}
use Rattle.cg_locks.proofs.clashing.+is_counted.Goals as goal

pub is_counted-requires : goal.is_counted-requires
is_counted-requires t c =
    let longer : length c.args.depths.now ≡ length c.in-Some.shorter.now + 1 = sym c.in-Some.ensures.cases.1 in
    (omega (arith, longer), (descending_on (length c.args.other.now) c.in-Some.first.now c.in-Some.shorter.now c.args.depths.now c.in-Some.ensures.cases.0 c.requires).1)

pub returns-then-is_counted : goal.returns-then-is_counted
returns-then-is_counted t c =
    let x = take c.args.depth c.args.path.now in
    let e = c.in-Some.first.now in
    let es = c.in-Some.shorter.now in
    let here = descending_on (length c.args.other.now) e es c.args.depths.now c.in-Some.ensures.cases.0 c.requires in
    let found = sym c.is_counted.ensures ∙ c.if-is_counted.true in
    c.if-is_counted.true ∙ sym (counted_step c.args.other.now x e es c.args.depths.now c.in-Some.ensures.cases.0 here.0 ∙ ap (λ b. b || same_path x (take e c.args.other.now)) found)

pub returns-else-is_counted : goal.returns-else-is_counted
returns-else-is_counted t c =
    let x = take c.args.depth c.args.path.now in
    let e = c.in-Some.first.now in
    let es = c.in-Some.shorter.now in
    let here = descending_on (length c.args.other.now) e es c.args.depths.now c.in-Some.ensures.cases.0 c.requires in
    let none = sym c.is_counted.ensures ∙ c.if-is_counted.false in
    c.is_same_group.ensures ∙ sym (counted_step c.args.other.now x e es c.args.depths.now c.in-Some.ensures.cases.0 here.0 ∙ ap (λ b. b || same_path x (take e c.args.other.now)) none)
