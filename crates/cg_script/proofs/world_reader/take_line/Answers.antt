-- A line that is taken stands behind those before it, and one that isn't stops the world.
use Rattle.std.proofs.Common.{◌+◌, ◌∷◌, ◌++◌, [], List, ℕ, length, subst, sym}
use Rattle.cg_lines.specs.Lines.{HasNoNewline, pending, TakesKnownLine}
use Rattle.cg_script.specs.WorldLines.{SpoilEnd, SpoilWorld}
use Rattle.cg_lines.specs.declared.lines.LineKind.TheVariants.{Text, Last}
use Rattle.cg_script.proofs.WorldLemmas.{both_ok, part_last, part_line, part_stops, stops_at_end, stops_at_last, stops_at_long, stops_at_text, three_ok}
use Rattle.cg_script.proofs.world_reader.take_line.Goals as goal

pub returns-in-Text-clause-taken : goal.returns-in-Text-clause-taken
returns-in-Text-clause-taken g c =
    let old = pending c.args.reader.now in
    let r = c.next_line.new.self in
    let takes = subst (λ kind. TakesKnownLine old kind r.line (pending r)) c.in-Text.is c.in_ok-next_line.ensures.takes in
    let takes_line = subst (λ line. TakesKnownLine old Text line (pending r)) (sym c.line-line.ensures) takes in
    let plain = subst HasNoNewline (sym c.line-line.ensures) c.in_ok-next_line.ensures.plain.0 in
    let next = c.take.new.self in
    both_ok c.take.result
    (λ taken counted start. part_line start old (pending r) c.args.part.now.world next.world c.args.part.now.bytes next.bytes c.line-line.result.now plain takes_line counted taken) c.take.ensures.taken c.take.ensures.counted

pub returns-in-Text-clause-syntax : goal.returns-in-Text-clause-syntax
returns-in-Text-clause-syntax g c = λ refused start p.
    let old = pending c.args.reader.now in
    let r = c.next_line.new.self in
    let line : List ℕ = c.line-line.result.now in
    let takes = subst (λ kind. TakesKnownLine old kind r.line (pending r)) c.in-Text.is c.in_ok-next_line.ensures.takes in
    let takes_line = subst (λ l. TakesKnownLine old Text l (pending r)) (sym c.line-line.ensures) takes in
    let spoils = subst (λ n. SpoilWorld (p.lines ++ line ∷ []) (n + (length line + 1))) p.counted (c.take.ensures.syntax refused p.lines p.taken) in
    part_stops start old c.args.part.now.world c.args.part.now.bytes p (stops_at_text old (pending r) p.lines line takes_line spoils)

pub returns-in-Last-clause-taken : goal.returns-in-Last-clause-taken
returns-in-Last-clause-taken g c =
    let old = pending c.args.reader.now in
    let r = c.next_line.new.self in
    let takes = subst (λ kind. TakesKnownLine old kind r.line (pending r)) c.in-Last.is c.in_ok-next_line.ensures.takes in
    let takes_line = subst (λ line. TakesKnownLine old Last line (pending r)) (sym c.line.ensures) takes in
    let plain = subst HasNoNewline (sym c.line.ensures) c.in_ok-next_line.ensures.plain.0 in
    let next = c.take_last.new.self in
    three_ok c.take_last.result
    (λ taken counted ended start. part_last start old (pending r) c.args.part.now.world next.world c.args.part.now.bytes next.bytes c.line.result.now plain takes_line counted taken ended)
    c.take_last.ensures.taken c.take_last.ensures.counted c.take_last.ensures.ended

pub returns-in-Last-clause-syntax : goal.returns-in-Last-clause-syntax
returns-in-Last-clause-syntax g c = λ refused start p.
    let old = pending c.args.reader.now in
    let r = c.next_line.new.self in
    let line : List ℕ = c.line.result.now in
    let takes = subst (λ kind. TakesKnownLine old kind r.line (pending r)) c.in-Last.is c.in_ok-next_line.ensures.takes in
    let takes_line = subst (λ l. TakesKnownLine old Last l (pending r)) (sym c.line.ensures) takes in
    let spoils = subst (λ n. SpoilEnd p.lines line (n + length line)) p.counted (c.take_last.ensures.syntax refused p.lines p.taken) in
    part_stops start old c.args.part.now.world c.args.part.now.bytes p (stops_at_last old (pending r) p.lines line takes_line spoils)

pub returns-in-TooLong-clause-syntax : goal.returns-in-TooLong-clause-syntax
returns-in-TooLong-clause-syntax g c = λ _ start p.
    let old = pending c.args.reader.now in
    let r = c.next_line.new.self in
    let takes = subst (λ kind. TakesKnownLine old kind r.line (pending r)) c.in-TooLong.is c.in_ok-next_line.ensures.takes in
    part_stops start old c.args.part.now.world c.args.part.now.bytes p (stops_at_long old (pending r) p.lines r.line takes)

pub returns-in-End-clause-syntax : goal.returns-in-End-clause-syntax
returns-in-End-clause-syntax g c = λ _ start p.
    let old = pending c.args.reader.now in
    let r = c.next_line.new.self in
    let takes = subst (λ kind. TakesKnownLine old kind r.line (pending r)) c.in-End.is c.in_ok-next_line.ensures.takes in
    part_stops start old c.args.part.now.world c.args.part.now.bytes p (stops_at_end old (pending r) p.lines r.line takes)
