use Rattle.std.proofs.Common.{◌≡◌, ℕ, List, ◌++◌, true, ap, sym, ◌∙◌, rules}
use Rattle.std.proofs.lemmas.Result.{on_ok_weaker}
use Rattle.cg_core.specs.State.{CoreState}
use Rattle.cg_history.specs.Meaning.{answer_of, request_of}
use Rattle.cg_explain.specs.Explained.{notes_text, record_notes}
use Rattle.cg_explain.proofs.Told.{notes_are}
use Rattle.cg_explain.proofs.explainer.Explainer.append_notes.Goals as goal

pub returns : goal.returns
returns c =
    let wanted : c.args.self.now.comments.explain ≡ true = search rules in
    let rs = c.history-records.result.now in
    let begun : List (List ℕ) = c.args.self.now.begun in
    let asked : List ℕ = c.args.self.now.asked in
    let core : CoreState = c.core-core.result.now in
    let same : core ≡ c.args.self.now.player.core = c.core-core.ensures in
    let first : record_notes begun asked core (request_of c.index-records-records.result.request) (answer_of c.index-records-records.result.answer) ≡ notes_text c.args.self.now.comments.explain c.args.before begun asked core =
    ap (λ r. record_notes begun asked core (request_of r.request) (answer_of r.answer)) c.index-records-records.is
    ∙ sym (notes_are c.args.self.now.comments.explain c.args.before begun asked core rs _ wanted c.history-records.ensures c.if-records-before.false) in
    let told : record_notes begun asked core (request_of c.index-records-records.result.request) (answer_of c.index-records-records.result.answer) ≡ notes_text c.args.self.now.comments.explain c.args.before begun asked c.args.self.now.player.core =
    first ∙ ap (λ (k : CoreState). notes_text c.args.self.now.comments.explain c.args.before begun asked k) same in
    on_ok_weaker c.append_record_notes.result (λ (e : c.append_record_notes.new.out.items ≡ c.args.out.now.items ++ record_notes begun asked core (request_of c.index-records-records.result.request) (answer_of c.index-records-records.result.answer)). e ∙ ap (λ (x : List ℕ). c.args.out.now.items ++ x) told)
    c.append_record_notes.ensures
