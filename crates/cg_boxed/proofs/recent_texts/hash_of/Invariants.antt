-- Eight bytes fewer are left each time.
use Rattle.std.proofs.Common.{length}
use Rattle.cg_boxed.proofs.recent_texts.hash_of.Given as goal

abbrev pub decreases-words : goal.decreases-words
decreases-words l = length l.rest
