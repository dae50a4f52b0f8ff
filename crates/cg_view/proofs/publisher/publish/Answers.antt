use Rattle.std.proofs.Common.{◌∙◌, ap, drop}
use Rattle.cg_view.proofs.Grows.{grows}
use Rattle.cg_view.proofs.Operations.{fold_absorbed}
use Rattle.cg_view.proofs.Seen.{are_published}
use Rattle.cg_view.proofs.publisher.publish.Goals as goal

pub publish_as-requires : goal.publish_as-requires
publish_as-requires g c next is =
    let x = c.args.writer.desk.shown.value in
    let ops = drop c.args.writer.behind c.args.writer.log.items in
    let both = is ∙ fold_absorbed x.opening x.operations.items ops in
    grows _ _ x next ops (ap (λ p. p.0) both) (ap (λ p. p.1) both)

pub returns : goal.returns
returns g c =
    are_published c.publish_as.result.1 c.args.writer.desk.shown.value c.publish_as.result.0.desk.shown.value (drop c.args.writer.behind c.args.writer.log.items) (drop c.publish_as.result.0.behind c.publish_as.result.0.log.items) c.publish_as.ensures.values
