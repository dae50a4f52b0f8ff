use Rattle.std.proofs.Common.{sym, ◌∙◌}
use Rattle.std.proofs.lemmas.Bool.{eqb-true}
use Rattle.cg_name.proofs.SimpleLanes.{front_follows}
use Rattle.cg_name.proofs.simple.front_goes_on.Goals as goal

pub returns : goal.returns
returns c = λ none. front_follows c.args.front.now c.requires.whole (sym c.misplaced_in.ensures ∙ eqb-true c.misplaced_in.result 0 none)
