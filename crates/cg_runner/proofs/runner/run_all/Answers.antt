use Rattle.std.proofs.Common.{◌≡◌, None, length, map}
use Rattle.std.specs.List.{AllByRecursion, AllZip}
use Rattle.cg_runner.specs.End.{CanEnd}
use Rattle.cg_runner.specs.Runs.{AreRun}
use Rattle.cg_runner.specs.Workers.{told_by, AreEnds}
use Rattle.cg_runner.proofs.Each.{both_if_ok}
use Rattle.cg_runner.proofs.Telling.{all_can_end, are_run}
use Rattle.cg_runner.proofs.runner.run_all.Goals as goal

-- each worker tells what was done on its session, and each script is told once
pub returns-clause-run : goal.returns-clause-run
returns-clause-run g c =
    let scripts = c.args.scripts.now in
    let workers = c.work_all.new.workers in
    both_if_ok (AllByRecursion (λ w. w.fault ≡ None) workers) (λ ends. AreEnds (length scripts) (told_by workers) ends.items)
    (λ ends. AreRun c.args.tries scripts ends.items (map (λ w. w.session) workers)) c.gather.result
    (λ well ends are. are_run c.args.tries scripts ends.items c.args.workers.now workers c.requires.new c.in_ok-work_all.ensures well are)
    c.gather.ensures.faultless c.gather.ensures.ends

pub returns-clause-ends : goal.returns-clause-ends
returns-clause-ends g c =
    let scripts = c.args.scripts.now in
    let workers = c.work_all.new.workers in
    both_if_ok (AllByRecursion (λ w. w.fault ≡ None) workers) (λ ends. AreEnds (length scripts) (told_by workers) ends.items)
    (λ ends. AllZip (CanEnd c.args.tries) scripts ends.items) c.gather.result
    (λ well ends are. all_can_end c.args.tries scripts ends.items (map (λ w. w.session) workers)
    (are_run c.args.tries scripts ends.items c.args.workers.now workers c.requires.new c.in_ok-work_all.ensures well are))
    c.gather.ensures.faultless c.gather.ensures.ends
