use Rattle.std.proofs.Common.{ℕ, ap, subst}
use Rattle.std.proofs.lemmas.Bool.{ltb-true, ltb-false}
use Rattle.cg_lines.specs.Lines.{HasNoNewline, IsFirstNewline, ChunkReading}
use Rattle.cg_lines.proofs.NewlineLemmas.{line_in_range, no_line_in_range}
use Rattle.cg_lines.proofs.lines.ChunkReader.has_line.Goals as goal

pub returns-clause-line : goal.returns-clause-line
returns-clause-line g c = λ e.
    let r = c.self.inside in
    subst (λ l. (n : ℕ) × IsFirstNewline l n) (ap (λ (s : ChunkReading). s.buffered) c.self.view_is) (line_in_range r.chunk.items r.whole r.start r.end c.self.invariant.3 c.self.invariant.1 (ltb-true r.start r.whole e))

pub returns-clause-none : goal.returns-clause-none
returns-clause-none g c = λ e.
    let r = c.self.inside in
    subst HasNoNewline (ap (λ (s : ChunkReading). s.buffered) c.self.view_is) (no_line_in_range r.chunk.items r.whole r.start r.end c.self.invariant.3 c.self.invariant.1 (ltb-false r.start r.whole e))
