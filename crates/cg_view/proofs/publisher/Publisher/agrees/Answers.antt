-- What is published and appended is no front, where what is appended isn't one of what is left behind what is published.
use Rattle.std.proofs.Common.{◌≡◌, ◌++◌, map, sym, ap, ◌∙◌}
use Rattle.cg_view.specs.Committed.{meant}
use Rattle.cg_view.specs.Publishers.{published, appended}
use Rattle.cg_view.specs.Walks.{left}
use Rattle.cg_view.proofs.Committed.{front_left, on_false_map}
use Rattle.cg_view.proofs.publisher.Publisher.agrees.Goals as goal

pub returns-clause-no : goal.returns-clause-no
returns-clause-no c =
    let p = c.args.self.now in
    let shown : c.as_slice.result.now ≡ published p = c.as_slice.ensures.value ∙ ap (λ s. s.operations.items) c.published-shown.ensures in
    let next : c.as_slice-2.result.now ≡ appended p = c.as_slice-2.ensures.value ∙ p.kept in
    on_false_map c.goes_by-2.result c.goes_by-2.ensures.no
    (λ n f. n (front_left _ (left c.goes_by.new.self) (published p) (appended p) c.as_slice-2.result.now (sym c.requires ∙ c.if-not-goes_by.ensures.yes ∙ ap (λ l. map meant l ++ left c.goes_by.new.self) shown) next f.front))
