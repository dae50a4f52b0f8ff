use Rattle.std.proofs.Common.{sym, subst, inl}
use Rattle.std.specs.Option.{option_map}
use Rattle.cg_history.specs.Meaning.{answer_of}
use Rattle.cg_replay.specs.Replay.{Replay}
use Rattle.cg_line_machine.specs.Steps.{Steps}
use Rattle.cg_line_machine.specs.Teller.{Told}
use Rattle.cg_line_machine.proofs.teller.Teller.step.Goals as goal

pub returns-in-Ok : goal.returns-in-Ok
returns-in-Ok c =
    let given = option_map answer_of c.in-Ok.answer in
    let stepped = subst (λ (s : Told). Steps s.machine c.args.line.now given c.step_line.new.self) c.self.view_is c.in-Ok.ensures.steps in
    inl (given, subst (λ (m : Replay). Steps c.args.self.now.machine c.args.line.now given m) (sym c.tell_as.ensures.machine) stepped, c.tell_as.ensures.told)
