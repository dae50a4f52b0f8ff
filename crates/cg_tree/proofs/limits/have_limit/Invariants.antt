use Rattle.cg_tree.proofs.Unlimited.{AllUnlimited}
use Rattle.cg_tree.proofs.limits.have_limit.Given as goal

-- no group so far has a limit: where none of the rest has, none has
abbrev pub invariant-loop-settings : goal.invariant-loop-settings
invariant-loop-settings l = AllUnlimited l.settings-iterator → AllUnlimited l.listed.entries
