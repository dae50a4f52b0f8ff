use Rattle.std.proofs.Common.{arith}
use Rattle.cg_name.proofs.SimpleWords.{few_in_short}
use Rattle.cg_name.proofs.simple.has_few_slashes.Goals as goal

pub returns-then-text : goal.returns-then-text
returns-then-text c = λ _ simple. few_in_short c.args.text.now (let low = c.if-text.true in omega (arith, low)) simple
