use Rattle.std.proofs.Common.{[], refl, sym, append-nil}
use Rattle.cg_view.proofs.Grows.{grows}
use Rattle.cg_view.proofs.Seen.{if_ok, if_err, seen_file}
use Rattle.cg_view.proofs.viewer.look.Goals as goal

pub enter_as-requires : goal.enter_as-requires
enter_as-requires c x = grows _ _ x x [] refl (sym (append-nil x.operations.items))

pub returns-in-Ok-clause-value : goal.returns-in-Ok-clause-value
returns-in-Ok-clause-value c =
    if_ok c.text_of-text.result _ _ (λ text e. seen_file _ _ _ _ _ _ _ _ c.in-Ok.ensures.1 c.get-shown.ensures c.leave-reader.ensures.1 e) c.text_of-text.ensures.value

pub returns-in-Ok-clause-refused : goal.returns-in-Ok-clause-refused
returns-in-Ok-clause-refused c =
    if_err c.text_of-text.result _ _ (λ r h. record { why = λ m n. seen_file _ _ _ _ _ _ _ _ c.in-Ok.ensures.1 c.get-shown.ensures c.leave-reader.ensures.1 (h m n) }) c.text_of-text.ensures.refused
