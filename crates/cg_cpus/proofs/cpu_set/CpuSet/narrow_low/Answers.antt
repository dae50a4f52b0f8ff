use Rattle.std.proofs.Common.{bit_and, get_or, ◌∙◌, ap}
use Rattle.std.specs.Int.Bits.{and_lt}
use Rattle.cg_maps.specs.FiniteSet.{in_common, is_empty_set}
use Rattle.cg_cpus.specs.Words.{low_set}
use Rattle.cg_cpus.proofs.Intersection.{some_left, none_left}
use Rattle.cg_cpus.proofs.Low.{low_common, low_empty}
use Rattle.cg_cpus.proofs.cpu_set.CpuSet.narrow_low.Goals as goal

pub returns-then-common-ne0 : goal.returns-then-common-ne0
returns-then-common-ne0 c =
    let common = bit_and c.args.word (get_or c.self.inside.words 0 0) in
    let is = low_common c.args.word c.self.inside.words ∙ ap (in_common (low_set c.args.word)) c.self.view_is in
    let test = low_empty common (and_lt 64 c.args.word (get_or c.self.inside.words 0 0) c.ranges.word.fits (c.self.invariant.width 0)) ∙ ap is_empty_set is in
    c.self-then-common-ne0.view_is ∙ c.from_low.ensures ∙ is ∙ some_left c.args.self.now _ common test c.if-common-ne0.true

pub returns-else-common-ne0 : goal.returns-else-common-ne0
returns-else-common-ne0 c =
    let common = bit_and c.args.word (get_or c.self.inside.words 0 0) in
    let is = low_common c.args.word c.self.inside.words ∙ ap (in_common (low_set c.args.word)) c.self.view_is in
    let test = low_empty common (and_lt 64 c.args.word (get_or c.self.inside.words 0 0) c.ranges.word.fits (c.self.invariant.width 0)) ∙ ap is_empty_set is in
    none_left c.args.self.now _ common test c.if-common-ne0.false
