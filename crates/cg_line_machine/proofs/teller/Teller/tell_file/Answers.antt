use Rattle.std.proofs.Common.{Err, refl, ap, subst, inr}
use Rattle.cg_name.specs.declared.refusal.Refusal.{Refusal}
use Rattle.cg_line_machine.specs.Teller.{Told, WhyNoFile}
use Rattle.cg_line_machine.proofs.NoFile.{why_no_file}
use Rattle.cg_line_machine.proofs.teller.Teller.tell_file.Goals as goal

pub returns-in-Err : goal.returns-in-Err
returns-in-Err c =
    let e = c.in-Err.refusal in
    let why = why_no_file c.self.inside.machine c.args.path.now c.args.name.now e (λ is. c.in-Err.ensures.syntax (ap (λ (x : Refusal). Err x) is)) c.in-Err.ensures.refused in
    inr (
      e,
      subst (λ (s : Told). WhyNoFile s.machine c.args.path.now c.args.name.now e) c.self.view_is why,
      refl,
      λ i. record { machine = (c.self.view_is i).machine; answer = (c.self.view_is i).answer; text = c.clear.ensures.items i },
    )
