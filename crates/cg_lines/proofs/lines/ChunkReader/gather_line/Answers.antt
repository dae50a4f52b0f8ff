use Rattle.std.proofs.Common.{◌∙◌, [], refl, arith}
use Rattle.std.proofs.lemmas.Result.{err_from_is_err_and}
use Rattle.cg_lines.specs.Lines.{reading_of}
use Rattle.cg_lines.proofs.LinesLemmas.{KeepsSource-step, KeepsCounts-fill, takes_gathered, Gathered-more, Gathered-filled, LosesOfLine-gathered, takes_final}
use Rattle.cg_lines.proofs.lines.ChunkReader.gather_line.Goals as goal

pub returns-then-gather-clause-takes : goal.returns-then-gather-clause-takes
returns-then-gather-clause-takes g c =
    let rest = KeepsSource-step c.pieces.self c.gather.new.self c.gather.ensures.rest in
    rw c.kind_of.ensures
    (takes_gathered (reading_of c.args.self.now []) (reading_of c.pieces.self c.pieces.line.items) (reading_of c.gather.new.self c.gather.new.line.items) c.pieces.fits c.gather.new.fits c.pieces.invariant.gathered c.if-gather.ensures.taken rest.left)

pub returns-in_err-fill-clause-loses : goal.returns-in_err-fill-clause-loses
returns-in_err-fill-clause-loses g c =
    let rest = KeepsSource-step c.pieces.self c.gather.new.self c.gather.ensures.rest in
    let line = c.gather.new.line.items in
    let more = Gathered-more (reading_of c.args.self.now []) (reading_of c.pieces.self c.pieces.line.items) (reading_of c.gather.new.self line) c.pieces.fits c.gather.new.fits c.pieces.invariant.gathered c.if-gather.ensures.taken rest.left in
    let p = err_from_is_err_and c.from_residual.result c.from_residual.ensures.1 in
    rw p.1 (LosesOfLine-gathered (reading_of c.args.self.now []) (reading_of c.gather.new.self line) (reading_of c.fill.new.self line) c.gather.new.fits more.0 more.1 c.in_err-fill.ensures.loses.0 c.in_err-fill.ensures.loses.1)

pub returns-then-not-branch-clause-takes : goal.returns-then-not-branch-clause-takes
returns-then-not-branch-clause-takes g c =
    let rest = KeepsSource-step c.pieces.self c.gather.new.self c.gather.ensures.rest in
    let line = c.gather.new.line.items in
    let more = Gathered-more (reading_of c.args.self.now []) (reading_of c.pieces.self c.pieces.line.items) (reading_of c.gather.new.self line) c.pieces.fits c.gather.new.fits c.pieces.invariant.gathered c.if-gather.ensures.taken rest.left in
    let all = Gathered-filled (reading_of c.args.self.now []) (reading_of c.gather.new.self line) (reading_of c.fill.new.self line) c.gather.new.fits more.0 more.1 c.in_ok-fill.ensures.bytes refl in
    let end = c.in_ok-fill.ensures.end c.if-not-branch.true in
    rw c.last_kind.ensures
    (takes_final (reading_of c.args.self.now []) (reading_of c.fill.new.self line) c.gather.new.fits c.deref.result.now c.deref.ensures.value all end.0 end.1)

pub pieces-preserved : goal.pieces-preserved
pieces-preserved g c =
    let rest = KeepsSource-step c.pieces.self c.gather.new.self c.gather.ensures.rest in
    let filled = KeepsCounts-fill c.gather.new.self c.fill.new.self c.in_ok-fill.ensures.ok in
    let line = c.gather.new.line.items in
    let more = Gathered-more (reading_of c.args.self.now []) (reading_of c.pieces.self c.pieces.line.items) (reading_of c.gather.new.self line) c.pieces.fits c.gather.new.fits c.pieces.invariant.gathered c.if-gather.ensures.taken rest.left in
    let before = c.pieces.invariant in
    record {
      gathered = Gathered-filled (reading_of c.args.self.now []) (reading_of c.gather.new.self line) (reading_of c.fill.new.self line) c.gather.new.fits more.0 more.1 c.in_ok-fill.ensures.bytes refl;
      failed_before = filled.failed_before ∙ rest.failed_before ∙ before.failed_before;
      failures = filled.failures ∙ rest.failures ∙ before.failures;
      reads = let same = rest.reads in let next = filled.reads in let low = before.reads in omega arith;
      room = c.if-gather.ensures.room;
      to_come = let same = rest.reads in let next = filled.reads in let low = before.to_come in let turn = c.in_ok-fill.ensures.turns in let small = c.in_ok-fill.ensures.bound in omega arith;
      unbroken = filled.is_broken ∙ rest.is_broken ∙ before.unbroken;
    }
