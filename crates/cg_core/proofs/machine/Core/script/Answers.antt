-- The places of a script are those of its commands, in their order.
use Rattle.std.proofs.Common.{map, sym, ap, subst, ◌∙◌}
use Rattle.cg_model.specs.Cgroups.{cgroups}
use Rattle.cg_core_laws.specs.CommittedCommands.{command_at, script_places, GoUp}
use Rattle.cg_core_laws.proofs.Interleaving.CommittedPlaces.{are_places}
use Rattle.cg_core.specs.State.{CoreState}
use Rattle.cg_core.proofs.machine.Core.script.Goals as goal

pub returns-clause-places : goal.returns-clause-places
returns-clause-places c = c.script.ensures ∙ ap (λ (v : CoreState). script_places c.args.number v.history) c.self.view_is

pub returns-clause-commands : goal.returns-clause-commands
returns-clause-commands c =
    ap (map (command_at c.args.self.now.history)) (c.script.ensures ∙ ap (λ (v : CoreState). script_places c.args.number v.history) c.self.view_is)
    ∙ (are_places cgroups c.args.self.now.history).commands c.args.number

pub returns-clause-ascending : goal.returns-clause-ascending
returns-clause-ascending c =
    subst GoUp (sym (c.script.ensures ∙ ap (λ (v : CoreState). script_places c.args.number v.history) c.self.view_is))
    ((are_places cgroups c.args.self.now.history).ascending c.args.number)
