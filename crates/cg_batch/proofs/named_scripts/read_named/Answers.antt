use Rattle.std.proofs.Common.{◌≡◌, ◌+◌, ◌∙◌, [], ap, arith, take, subst, sym}
use Rattle.std.proofs.lemmas.List.{take_all}
use Rattle.std.proofs.lemmas.Result.{IfErr-at_err}
use Rattle.std.specs.Prelude.{IfSome}
use Rattle.std.specs.List.{AllZip, list_any}
use Rattle.cg_batch.proofs.BatchLemmas.{zip_maps, zip_next}
use Rattle.cg_batch.proofs.HistoryFile.{any_made, none_more}
use Rattle.cg_batch.proofs.named_scripts.read_named.Goals as goal

pub loop-name-preserved : goal.loop-name-preserved
loop-name-preserved g c =
    let file = g.P.Inputs.file c.args.files.now in
    let is_missing = g.P.Inputs.is_missing c.args.files.now in (
      subst
          (λ texts. AllZip (λ name text. IfSome (file name.now) (λ known. text.items ≡ known)) (take (c.loop-name.name-index + 1) c.args.names.now) texts)
          (sym c.in_ok-push.ensures.items)
          (zip_next (λ name text. IfSome (file name.now) (λ known. text.items ≡ known)) c.args.names.now c.loop-name.texts.items c.loop-name.name-index record { ref_ptr = (0, 0); now = [] }
          c.in_ok-text.text (omega arith) c.loop-name.invariant.0
          (subst (λ left. IfSome left (λ known. c.in_ok-text.text.items ≡ known)) c.in_ok-source.ensures.bytes c.in_ok-text.ensures.value)),
      none_more (λ name. is_missing name.now) c.args.names.now c.loop-name.name-index record { ref_ptr = (0, 0); now = [] } (omega arith) c.loop-name.invariant.1
          (λ known. IfErr-at_err (λ _. ⊥) (c.in_ok-source.ensures.missing known) tt),
    )

pub returns-clause-texts : goal.returns-clause-texts
returns-clause-texts g c =
    let file = g.P.Inputs.file c.args.files.now in
    zip_maps (λ name text. IfSome (file name) (λ known. text ≡ known)) (λ w. w.now) (λ t. t.items) c.args.names.now c.loop-name.texts.items
    (subst
    (λ names. AllZip (λ name text. IfSome (file name.now) (λ known. text.items ≡ known)) names c.loop-name.texts.items)
    (take_all c.loop-name.name-index c.args.names.now c.loop-name-test.false) c.loop-name.invariant.0)

pub returns-clause-missing : goal.returns-clause-missing
returns-clause-missing g c = λ some.
    let is_missing = g.P.Inputs.is_missing c.args.files.now in
    absurd (c.loop-name.invariant.1
    (ap (list_any (λ name. is_missing name.now)) (take_all c.loop-name.name-index c.args.names.now c.loop-name-test.false)
    ∙ sym (any_made is_missing (λ name. name.now) c.args.names.now) ∙ some))
