-- What is left begins with the next command, or with the end of the script.
use Rattle.std.proofs.Common.{◌≡◌, ◌∷◌, ◌<◌, ◌+◌, ◌-◌, Some, length, drop, get_or, sym, ap, ◌∙◌, arith}
use Rattle.std.specs.Option.{option_map}
use Rattle.cg_command.specs.Meaning.{command_of}
use Rattle.cg_core_laws.specs.CommittedCommands.{command_at, script_commands}
use Rattle.cg_model.specs.Opens.{commits}
use Rattle.cg_view.specs.Committed.{scripts_behind}
use Rattle.cg_view.proofs.Committed.{left_command, left_end, some_command, none_some}
use Rattle.cg_view.proofs.walk.Walk.next.Goals as goal

pub returns-then-self-places-clause-some : goal.returns-then-self-places-clause-some
returns-then-self-places-clause-some c =
    let w = c.args.self.now in
    left_end w.commands w.scripts w.core.now.history c.script-places.result.now (omega (arith, c.if-self-commit_count.false, c.commit_count.ensures)) c.script-places.ensures.commands c.if-self-places.true

pub returns-in_err-command-clause-none : goal.returns-in_err-command-clause-none
returns-in_err-command-clause-none c =
    let w = c.args.self.now in
    let lt : w.commands < length c.script-places.result.now = omega (arith, w.within, ap length c.script-places.ensures.places, c.if-self-places.false) in
    let there = some_command w.core.now.history c.script-places.result.now (script_commands (w.scripts + 1) w.core.now.history) w.commands 0 c.script-places.ensures.commands lt in
    absurd (none_some _ (sym (ap (option_map (λ x. command_of x.now)) c.in_err-command.was) ∙ c.command_at.ensures there.0 (ap (λ h. command_at h (get_or c.script-places.result.now w.commands 0)) c.history.ensures ∙ there.1)))

pub returns-clause-some : goal.returns-clause-some
returns-clause-some c =
    let w = c.args.self.now in
    let lt : w.commands < length c.script-places.result.now = omega (arith, w.within, ap length c.script-places.ensures.places, c.if-self-places.false) in
    let there = some_command w.core.now.history c.script-places.result.now (script_commands (w.scripts + 1) w.core.now.history) w.commands 0 c.script-places.ensures.commands lt in
    let is : Some (command_of c.in_ok-command.command.now) ≡ Some there.0 = sym (ap (option_map (λ x. command_of x.now)) c.in_ok-command.was) ∙ c.command_at.ensures there.0 (ap (λ h. command_at h (get_or c.script-places.result.now w.commands 0)) c.history.ensures ∙ there.1) in
    left_command w.commands w.scripts w.core.now.history c.script-places.result.now 0 (omega (arith, c.if-self-commit_count.false, c.commit_count.ensures)) c.script-places.ensures.commands lt
    ∙ ap (λ o. o ∷ drop (w.commands + 1) (scripts_behind w.scripts (commits w.core.now.history - w.scripts) w.core.now.history)) (there.1 ∙ sym is)
