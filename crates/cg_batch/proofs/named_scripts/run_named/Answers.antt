use Rattle.std.proofs.Common.{◌≡◌, ◌∙◌, true, inl, inr, map, sym}
use Rattle.std.proofs.lemmas.Bool.{cases_eq}
use Rattle.std.specs.Prelude.{◌⊎◌, IsSome}
use Rattle.cg_name.specs.declared.refusal.Refusal.TheVariants as refusals
use Rattle.cg_lines.specs.Device.{Failed}
use Rattle.cg_lines.proofs.DeviceLemmas.{AppendsFront-whole}
use Rattle.cg_script.specs.HistoryText.{history_text}
use Rattle.cg_batch.specs.Batch.{batch_text, stops_run}
use Rattle.cg_batch.proofs.HistoryFile.{front_told, given_some, kept_whole, told_through}
use Rattle.cg_watch.proofs.Telling.{untold}
use Rattle.cg_batch.proofs.named_scripts.run_named.Goals as goal

-- nothing was watched
pub returns-in-Err-clause-watched : goal.returns-in-Err-clause-watched
returns-in-Err-clause-watched g c = untold g.S.Sink.taken c.args.watches.now.items

pub returns-in-Ok-clause-done : goal.returns-in-Ok-clause-done
returns-in-Ok-clause-done g c = λ zero.
    let told = c.run_to-status.ensures.done (c.end_history.ensures.done zero).0 in (
      map (λ t. t.items) c.in-Ok.texts.items,
      c.in-Ok.ensures.texts,
      (told.0, (told.1.0, kept_whole (λ w. w.now) g.P.Output.Sink.taken g.P.Outputs.nothing (g.P.Inputs.file c.end_history.new.files) c.args.words.history c.in-Ok.history c.run_to-status.new.history (history_text told.0.history) c.in-Ok.ensures.history told.1.1 (c.end_history.ensures.kept zero))),
    )

pub returns-in-Ok-clause-told : goal.returns-in-Ok-clause-told
returns-in-Ok-clause-told g c =
    let through = told_through (λ r. (stops_run r ≡ true) × (r ≡ refusals.WriteFault → Failed (g.O.Sink.failed c.args.out.now) (g.O.Sink.failed c.run_to-status.new.out) ⊎ IsSome c.args.words.history))
    g.E.Sink.taken g.E.Sink.failed c.args.err.now c.run_to-status.new.err c.end_history.new.err c.run_to-status.result c.end_history.result
    (elim c.run_to-status.ensures.told [
      | inl done ↦ inl done
      | inr why ↦ inr (
        why.0,
        why.1,
        why.2,
        (why.3, λ e. elim (why.5 e) [ inl out ↦ inl out | inr given ↦ inr (given_some (λ output. g.P.Output.Sink.taken output ≡ g.P.Outputs.nothing) g.P.Output.Sink.failed c.in-Ok.history c.run_to-status.new.history c.args.words.history c.in-Ok.ensures.history given) ]),
      )
    ])
    c.run_to-status.ensures.quiet
    (λ zero. elim (c.end_history.ensures.told zero) [ inl done ↦ inl done | inr why ↦ inr (why.0, why.1, why.2, (why.3, λ _. inr why.4)) ])
    c.end_history.ensures.failed in
    elim through [ inl done ↦ inl done | inr why ↦ inr (why.0, why.1, why.2, why.3.0, why.3.1) ]

pub returns-in-Ok-clause-front : goal.returns-in-Ok-clause-front
returns-in-Ok-clause-front g c = λ three.
    let old = g.O.Sink.taken c.args.out.now in
    let new = g.O.Sink.taken c.run_to-status.new.out in
    let texts = map (λ t. t.items) c.in-Ok.texts.items in
    elim (cases_eq c.run_to-status.result 0) [
      | inl zero ↦
          let told = c.run_to-status.ensures.done zero in
          inr (texts, c.in-Ok.ensures.texts, (told.0, AppendsFront-whole old new (batch_text c.args.form told.0.ends told.0.opening told.0.history) told.1.0))
      | inr some ↦ elim (c.run_to-status.ensures.front (sym (c.end_history.ensures.failed some).0 ∙ three)) [
        | inl stays ↦ inl stays.0
        | inr stops ↦ inr (
          texts,
          c.in-Ok.ensures.texts,
          (stops.0, front_told old new g.P.Output.Sink.taken c.in-Ok.history c.run_to-status.new.history (batch_text c.args.form stops.0.ends stops.0.opening stops.0.history) (history_text stops.0.history) stops.1),
        )
      ]
    ]
