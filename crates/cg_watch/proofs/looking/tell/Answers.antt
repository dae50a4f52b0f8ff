use Rattle.std.proofs.Common.{refl, ap, ◌∙◌}
use Rattle.cg_history.specs.Meaning.{answer_of}
use Rattle.cg_view.specs.Operations.{commits_in}
use Rattle.cg_view.specs.Viewers.{seen_by}
use Rattle.cg_watch.specs.Watches.{watch_line}
use Rattle.cg_watch.proofs.Telling.{told_line_front, told_line_whole}
use Rattle.cg_watch.proofs.looking.tell.Goals as goal

pub returns-clause-whole : goal.returns-clause-whole
returns-clause-whole g c =
    let watch = c.args.watch.now in
    let line = c.as_slice-2.ensures.value ∙ c.in-Ok-line_of.ensures
    ∙ ap (λ n. watch_line watch.path watch.file n c.as_slice.result.now) c.commits-commits.ensures
    ∙ ap (λ text. watch_line watch.path watch.file (commits_in (seen_by c.args.viewer.now).seen) text) (c.as_slice.ensures.value ∙ c.in-Ok.ensures) in
    rw c.is_ok.ensures.value
    (told_line_whole g.S.Sink.taken (seen_by c.args.viewer.now) watch _ (answer_of c.args.answer.now) c.as_slice-2.result.now c.write_all.result c.requires refl refl line
    c.write_all.ensures.bytes)

pub returns-clause-front : goal.returns-clause-front
returns-clause-front g c =
    let watch = c.args.watch.now in
    let line = c.as_slice-2.ensures.value ∙ c.in-Ok-line_of.ensures
    ∙ ap (λ n. watch_line watch.path watch.file n c.as_slice.result.now) c.commits-commits.ensures
    ∙ ap (λ text. watch_line watch.path watch.file (commits_in (seen_by c.args.viewer.now).seen) text) (c.as_slice.ensures.value ∙ c.in-Ok.ensures) in
    rw c.is_ok.ensures.value
    (told_line_front g.S.Sink.taken (seen_by c.args.viewer.now) watch _ (answer_of c.args.answer.now) c.as_slice-2.result.now c.write_all.result c.requires refl refl line
    c.write_all.ensures.bytes)
