use Rattle.std.proofs.Common.{◌++◌, [], ◌∷◌, length, ap, refl, sym, subst, ◌∙◌}
use Rattle.std.proofs.lemmas.Option.{slice_get_read}
use Rattle.cg_runner.specs.Workers.{IsLogOf}
use Rattle.cg_runner.proofs.Telling.{told_more}
use Rattle.cg_runner.proofs.workers.run_next.Goals as goal

-- one run more is told
pub returns : goal.returns
returns g c tell well =
    let scripts = c.args.scripts.now in
    let place = c.args.place in
    let there = slice_get_read scripts (length scripts) place c.in-Some.script.now refl c.in-Some.ensures.lookup.3.0 c.in-Some.ensures.lookup.1 in
    subst
    (λ finished. IsLogOf c.args.tries scripts finished c.run_script.new.session.log)
    (sym (c.push_reserved.ensures.items ∙ ap (λ l. l ++ record { place = place; end = c.in_ok-end.end } ∷ []) c.reserve.ensures.items))
    (told_more c.args.tries scripts c.args.worker.now.finished.items (record { place = place; end = c.in_ok-end.end }) c.args.worker.now.session
    c.run_script.new.session c.in-Some.script.now (tell well) there c.in_ok-end.ensures.can c.in_ok-end.ensures.ran)
