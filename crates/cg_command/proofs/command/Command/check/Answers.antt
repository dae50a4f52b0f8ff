-- What is asked of a command doesn't hang on the value that it writes.
use Rattle.std.proofs.Common.{◌≡◌, IfErr, sym, subst}
use Rattle.cg_command.specs.Meaning.{command_of}
use Rattle.cg_model.specs.Command.{IsAccepted}
use Rattle.cg_model.specs.Effect.{effect}
use Rattle.cg_model.specs.System.{Refuse}
use Rattle.cg_command.proofs.command.Command.check.Goals as goal

pub returns-in-Freeze-clause-refused : goal.returns-in-Freeze-clause-refused
returns-in-Freeze-clause-refused c = subst (λ m. IfErr c.check_freeze.result (λ e. effect (command_of m) c.args.tree.now.tree ≡ Refuse e)) (sym c.in-Freeze.is) (c.check_freeze.ensures.refused c.in-Freeze.value)

pub returns-in-LowCpus-clause-refused : goal.returns-in-LowCpus-clause-refused
returns-in-LowCpus-clause-refused c = subst (λ m. IfErr c.check_cpus.result (λ e. effect (command_of m) c.args.tree.now.tree ≡ Refuse e)) (sym c.in-LowCpus.is) (c.check_cpus.ensures.refused c.in-LowCpus.cpus)

pub returns-in-WideCpus-clause-refused : goal.returns-in-WideCpus-clause-refused
returns-in-WideCpus-clause-refused c = subst (λ m. IfErr c.check_cpus-in-WideCpus.result (λ e. effect (command_of m) c.args.tree.now.tree ≡ Refuse e)) (sym c.in-WideCpus.is) (c.check_cpus-in-WideCpus.ensures.refused c.in-WideCpus.cpus)

pub returns-in-MaxDescendants-clause-refused : goal.returns-in-MaxDescendants-clause-refused
returns-in-MaxDescendants-clause-refused c = subst (λ m. IfErr c.check_limit.result (λ e. effect (command_of m) c.args.tree.now.tree ≡ Refuse e)) (sym c.in-MaxDescendants.is) (c.check_limit.ensures.descendants_refused c.in-MaxDescendants.limit)

pub returns-in-MaxDepth-clause-refused : goal.returns-in-MaxDepth-clause-refused
returns-in-MaxDepth-clause-refused c = subst (λ m. IfErr c.check_limit-in-MaxDepth.result (λ e. effect (command_of m) c.args.tree.now.tree ≡ Refuse e)) (sym c.in-MaxDepth.is) (c.check_limit-in-MaxDepth.ensures.depth_refused c.in-MaxDepth.limit)

pub returns-in-Online-clause-accepted : goal.returns-in-Online-clause-accepted
unfolding effect
returns-in-Online-clause-accepted c = subst (λ m. IsAccepted (effect (command_of m) c.args.tree.now.tree)) (sym c.in-Online.is) tt
