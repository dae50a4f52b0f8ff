-- All that the machine committed is published, or a front of it stays appended.
use Rattle.std.proofs.Common.{[], ◌++◌, sym, ap, append-nil, ◌∙◌}
use Rattle.cg_view.specs.Committed.{operations_of}
use Rattle.cg_view.specs.Operations.{tree_after}
use Rattle.cg_view.specs.Publishers.{published, appended}
use Rattle.cg_view.specs.Walks.{left}
use Rattle.cg_view.proofs.Committed.{all_counted, all_published, shown_tree, still_appended}
use Rattle.cg_view.proofs.publisher.Publisher.publish.Goals as goal

pub returns-in_err-append_rest-clause-later : goal.returns-in_err-append_rest-clause-later
returns-in_err-append_rest-clause-later g c = ([], c.append_rest.ensures.published ∙ sym (append-nil (published c.args.self.now)))

pub returns-in_err-publish_appended-clause-later : goal.returns-in_err-publish_appended-clause-later
returns-in_err-publish_appended-clause-later g c = ([], c.in_err-publish_appended.ensures.err ∙ c.append_rest.ensures.published ∙ sym (append-nil (published c.args.self.now)))

pub returns-in_err-publish_appended-clause-goes_on : goal.returns-in_err-publish_appended-clause-goes_on
returns-in_err-publish_appended-clause-goes_on g c = λ _. record {
  opened = c.publish_appended.ensures.opening ∙ c.append_rest.ensures.opening ∙ c.if-not-agrees.ensures.yes.0;
  front =
      still_appended (operations_of c.args.core.now.history) (left c.agrees.new.walk) (published c.args.self.now) (appended c.args.self.now) (appended c.append_rest.new.self) _ _
      (sym c.of-walk.ensures ∙ c.if-not-agrees.ensures.yes.1) c.in_ok-append_rest.ensures.ok
      (c.in_err-publish_appended.ensures.err ∙ c.append_rest.ensures.published) c.in_err-publish_appended.ensures.kept;
}

pub returns-clause-all : goal.returns-clause-all
returns-clause-all g c =
    all_published (operations_of c.args.core.now.history) (left c.agrees.new.walk) (published c.args.self.now) (appended c.args.self.now) (appended c.append_rest.new.self) (published c.publish_appended.new.self)
    (sym c.of-walk.ensures ∙ c.if-not-agrees.ensures.yes.1) c.in_ok-append_rest.ensures.ok
    (c.in_ok-publish_appended.ensures.published ∙ ap (λ l. l ++ appended c.append_rest.new.self) c.append_rest.ensures.published)

pub returns-clause-tree : goal.returns-clause-tree
returns-clause-tree g c =
    let shown = published c.publish_appended.new.self in
    ap (λ o. tree_after o shown) (c.publish_appended.ensures.opening ∙ c.append_rest.ensures.opening ∙ c.if-not-agrees.ensures.yes.0)
    ∙ shown_tree c.args.core.now.opening c.args.core.now.history c.laws.ensures.commits shown (returns-clause-all g c)

pub returns-clause-commits : goal.returns-clause-commits
returns-clause-commits g c = all_counted c.args.core.now.history (published c.publish_appended.new.self) (returns-clause-all g c)
