-- The lines are taken up to the first that ends a world.
use Rattle.std.proofs.Common.{◌∷◌, ◌++◌, [], sym, ◌∙◌, true≢false}
use Rattle.std.proofs.lemmas.Result.{IfOk-weaker}
use Rattle.cg_lines.specs.Lines.{pending}
use Rattle.cg_script.proofs.WorldLemmas.{part_goes_on, part_reads, part_refutes}
use Rattle.cg_script.proofs.world_reader.read_world.Goals as goal

pub lines-preserved : goal.lines-preserved
lines-preserved g c =
    let start = pending c.args.reader.now in
    let now = pending c.take_line.new.reader in
    let part = c.take_line.new.part in
    let p = c.in_ok-take_line.ensures.taken start c.lines.invariant in
    part_goes_on start now part.world part.bytes p (λ some. true≢false (sym ((c.has_ended.ensures (p.lines ++ p.last ∷ []) p.taken).1 some) ∙ c.if-has_ended.false))

pub returns-then-has_ended-clause-value : goal.returns-then-has_ended-clause-value
returns-then-has_ended-clause-value g c =
    let start = pending c.args.reader.now in
    let now = pending c.take_line.new.reader in
    let part = c.take_line.new.part in
    let p = c.in_ok-take_line.ensures.taken start c.lines.invariant in
    let some = (c.has_ended.ensures (p.lines ++ p.last ∷ []) p.taken).0 c.if-has_ended.true in
    IfOk-weaker c.finish.result _ _ (λ w h. let k = h (p.lines ++ p.last ∷ []) p.taken in part_reads start now part.world part.bytes w p part.short some k.0 k.1) c.finish.ensures.value

pub returns-then-has_ended-clause-syntax : goal.returns-then-has_ended-clause-syntax
returns-then-has_ended-clause-syntax g c = λ refused.
    let start = pending c.args.reader.now in
    let now = pending c.take_line.new.reader in
    let part = c.take_line.new.part in
    let p = c.in_ok-take_line.ensures.taken start c.lines.invariant in
    let some = (c.has_ended.ensures (p.lines ++ p.last ∷ []) p.taken).0 c.if-has_ended.true in
    part_refutes start now part.world part.bytes p some (λ T tree sound. c.finish.ensures.syntax refused (p.lines ++ p.last ∷ []) T p.taken tree sound)
