use Rattle.std.proofs.Common.{◌+◌, ◌++◌, take, ap, subst, true}
use Rattle.std.specs.List.{slice_range}
use Rattle.cg_lines.specs.Lines.{IsFirstNewline, IsGathered, TakesPiece, ChunkReading}
use Rattle.cg_lines.proofs.LinesLemmas.{TakesPiece-found}
use Rattle.cg_lines.proofs.lines.ChunkReader.gather.Goals as goal

pub returns-in-Some-clause-taken : goal.returns-in-Some-clause-taken
returns-in-Some-clause-taken g c = λ front kept.
    let a = c.self.inside in
    let here : IsFirstNewline (slice_range a.chunk.items a.start a.end) c.in-Some.n =
    subst (λ l. IsFirstNewline (slice_range l a.start a.end) c.in-Some.n) c.deref.ensures.value c.in-Some.ensures in (
      take c.in-Some.n (slice_range a.chunk.items a.start a.end),
      here.1,
      subst (λ l. TakesPiece l (take c.in-Some.n (slice_range a.chunk.items a.start a.end)) true (slice_range a.chunk.items (a.start + (c.in-Some.n + 1)) a.end)) (ap (λ (r : ChunkReading). r.buffered) c.self.view_is) (TakesPiece-found a.chunk.items a.start a.end c.in-Some.n here),
      subst (λ l. IsGathered (front ++ take c.in-Some.n (slice_range l a.start a.end)) c.append_fitting.result c.append_fitting.new.line.items) c.deref.ensures.value (c.append_fitting.ensures.gathered front kept),
    )
