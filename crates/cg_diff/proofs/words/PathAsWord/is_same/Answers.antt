use Rattle.std.proofs.Common.{◌∙◌}
use Rattle.std.specs.Ordering.{nat_cmp}
use Rattle.std.specs.Cmp.Lexicographic.{slice_cmp, lists_ties, texts_ties}
use Rattle.cg_name.specs.Path.{same_path}
use Rattle.cg_diff.proofs.words.PathAsWord.is_same.Goals as goal

pub returns : goal.returns
unfolding same_path
returns c = c.eq.ensures ∙ lists_ties (slice_cmp nat_cmp) texts_ties c.args.self.now c.args.other.now
