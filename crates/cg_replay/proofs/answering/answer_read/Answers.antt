use Rattle.std.proofs.Common.{subst}
use Rattle.cg_lines.specs.Lines.{pending, TakesKnownLine}
use Rattle.cg_replay.proofs.Answered.{answered_too_long, answered_line, first_text, first_last}
use Rattle.cg_replay.proofs.answering.answer_read.Goals as goal

pub returns-in_ok-answer_long_line-in-TooLong-clause-answered : goal.returns-in_ok-answer_long_line-in-TooLong-clause-answered
returns-in_ok-answer_long_line-in-TooLong-clause-answered g c =
    let old = c.args.reader.now in
    let new = c.next_line.new.self in
    let takes = subst (λ kind. TakesKnownLine (pending old) kind new.line (pending new)) c.in-TooLong.is c.in_ok-next_line.ensures.takes in
    λ e. answered_too_long g.A.Answerer.answers (pending old) (pending new) new.line c.args.out.now.items c.answer_long_line.new.out.items c.args.answerer.now c.answer_long_line.new.self takes c.in_ok-answer_long_line-in-TooLong.ensures.ok

pub returns-in_ok-answer_line-in-Text-clause-answered : goal.returns-in_ok-answer_line-in-Text-clause-answered
returns-in_ok-answer_line-in-Text-clause-answered g c =
    let old = pending c.args.reader.now in
    let new = pending c.next_line.new.self in
    let line = c.next_line.new.self.line in
    let takes = subst (λ kind. TakesKnownLine old kind line new) c.in-Text.is c.in_ok-next_line.ensures.takes in
    λ e. answered_line g.A.Answerer.answers old new line c.line.result.now c.args.out.now.items c.answer_line.new.out.items c.args.answerer.now c.answer_line.new.self (first_text old new line takes) c.line.ensures c.in_ok-answer_line-in-Text.ensures.ok

pub returns-in_ok-answer_line-in-Last-clause-answered : goal.returns-in_ok-answer_line-in-Last-clause-answered
returns-in_ok-answer_line-in-Last-clause-answered g c =
    let old = pending c.args.reader.now in
    let new = pending c.next_line.new.self in
    let line = c.next_line.new.self.line in
    let takes = subst (λ kind. TakesKnownLine old kind line new) c.in-Last.is c.in_ok-next_line.ensures.takes in
    λ e. answered_line g.A.Answerer.answers old new line c.line-in-Last.result.now c.args.out.now.items c.answer_line-in-Last.new.out.items c.args.answerer.now c.answer_line-in-Last.new.self (first_last old new line takes) c.line-in-Last.ensures c.in_ok-answer_line-in-Last.ensures.ok
