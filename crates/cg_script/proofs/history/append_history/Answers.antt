-- Record by record, the oldest first.
use Rattle.std.proofs.Common.{◌≡◌, ℕ, ◌+◌, ◌<◌, List, [], ◌∷◌, ◌++◌, length, map, reverse, take, get_or, sym, ap, subst, ◌∙◌, append_assoc, append-nil}
use Rattle.std.specs.List.{AllByRecursion, flat_map}
use Rattle.std.proofs.lemmas.List.{reverse-append, reverse-reverse, take_all}
use Rattle.std.proofs.lemmas.Grind.{flat_map-append}
use Rattle.cg_history.specs.Meaning.{record_of}
use Rattle.cg_history.specs.declared.record.Record as code
use Rattle.cg_name.proofs.Growing.{first, refused}
use Rattle.cg_world_text.proofs.Adding.{next_taken}
use Rattle.cg_script.specs.HistoryText.{IsAsked, record_text}
use Rattle.cg_script.proofs.HistoryTurns.{map_next}
use Rattle.cg_script.proofs.history.append_history.Goals as goal

-- the text of some records, and that of one more
abbrev text_of : List code.Record → List ℕ
text_of rs = flat_map record_text (map record_of rs)

text_next : (rs : List code.Record) (i : ℕ) (r : code.Record) → i < length rs → r ≡ get_or rs i r → text_of (take (i + 1) rs) ≡ text_of (take i rs) ++ record_text (record_of r)
text_next rs i r within is =
    ap text_of (next_taken rs i r within is)
    ∙ ap (flat_map record_text) (map_next record_of (take i rs) r)
    ∙ flat_map-append record_text (map record_of (take i rs)) (record_of r ∷ [])
    ∙ ap (λ t. text_of (take i rs) ++ t) (append-nil (record_text (record_of r)))

-- all these records can ask so, and so can one more
asked_next : (rs : List code.Record) (i : ℕ) (r : code.Record) → i < length rs → r ≡ get_or rs i r → IsAsked (record_of r) → AllByRecursion IsAsked (reverse (map record_of (take i rs))) → AllByRecursion IsAsked (reverse (map record_of (take (i + 1) rs)))
asked_next rs i r within is one all =
    subst (AllByRecursion IsAsked)
    (sym (ap (λ l. reverse (map record_of l)) (next_taken rs i r within is) ∙ ap reverse (map_next record_of (take i rs) r) ∙ reverse-append (map record_of (take i rs)) (record_of r ∷ [])))
    (one, all)

pub loop-entry-init : goal.loop-entry-init
loop-entry-init c = (sym (append-nil c.args.out.now.items), tt)

pub loop-entry-preserved : goal.loop-entry-preserved
loop-entry-preserved c =
    let rs : List code.Record = c.args.records.now in
    let i : ℕ = c.loop-entry.entry-index in
    let r : code.Record = c.entry-item.result in (
      c.in_ok-append_record.ensures.ok
          ∙ ap (λ t. t ++ record_text (record_of r)) c.loop-entry.invariant.0
          ∙ append_assoc c.args.out.now.items (text_of (take i rs)) (record_text (record_of r))
          ∙ ap (λ t. c.args.out.now.items ++ t) (sym (text_next rs i r c.loop-entry-test.true c.entry-item.is)),
      asked_next rs i r c.loop-entry-test.true c.entry-item.is c.in_ok-append_record.ensures.asked c.loop-entry.invariant.1,
    )

pub returns-in_err-append_record-clause-kept : goal.returns-in_err-append_record-clause-kept
returns-in_err-append_record-clause-kept c = refused _ (first c.args.out.now.items _ c.loop-entry.invariant.0) _ c.in_err-append_record.ensures.kept

pub returns-clause-ok : goal.returns-clause-ok
returns-clause-ok c =
    let rs : List code.Record = c.args.records.now in
    let all = take_all c.loop-entry.entry-index rs c.loop-entry-test.false in
    c.loop-entry.invariant.0
    ∙ ap (λ l. c.args.out.now.items ++ flat_map record_text l) (ap (map record_of) all ∙ sym (reverse-reverse (map record_of rs)))

pub returns-clause-asked : goal.returns-clause-asked
returns-clause-asked c = subst (λ l. AllByRecursion IsAsked (reverse (map record_of l))) (take_all c.loop-entry.entry-index c.args.records.now c.loop-entry-test.false) c.loop-entry.invariant.1
