use Rattle.std.proofs.Common.{◌≡◌, List, length, map, sym, subst, ap, ◌∙◌}
use Rattle.std.proofs.lemmas.List.{length-map}
use Rattle.cg_runner.specs.Runs.{AreRun}
use Rattle.cg_runner.specs.declared.worker.Worker.{Worker}
use Rattle.cg_runner.proofs.Each.{all_left}
use Rattle.cg_runner.proofs.runner.run_at.Goals as goal

-- the sessions that were closed are those of the workers
pub returns-clause-happened : goal.returns-clause-happened
returns-clause-happened g c =
    let workers : List Worker = c.run_all.new.workers in
    let hired = c.in_ok-hired.hired in
    let count : length workers ≡ length hired.items = c.run_all.ensures.count ∙ c.as_mut_slice.ensures.len ∙ hired.ok.0 in
    let session = λ (w : Worker). w.session in
    let same : c.in_ok-sessions.sessions.items ≡ map session workers =
    c.in_ok-sessions.ensures ∙ ap (map session) (all_left hired.items workers hired.len count hired.ok.0) in (
      c.in_ok-sessions.sessions.items,
      ap length same ∙ length-map workers session ∙ count ∙ sym hired.ok.0 ∙ c.in_ok-hired.ensures.count,
      c.in_ok-core.ensures.0,
      c.in_ok-core.ensures.1,
      subst (AreRun c.args.tries c.args.scripts.now c.in_ok-ends.ends.items) (sym same) c.in_ok-ends.ensures.run,
    )
