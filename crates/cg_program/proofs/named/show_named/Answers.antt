use Rattle.std.proofs.Common.{inl, inr, subst}
use Rattle.std.specs.Prelude.{Ok}
use Rattle.cg_program.specs.Show.{Finds, WhyNotShown}
use Rattle.cg_program.proofs.named.show_named.Goals as goal

pub returns-in-Ok-clause-told : goal.returns-in-Ok-clause-told
returns-in-Ok-clause-told g c =
    elim c.show_to.ensures.told [
      | inl done ↦ inl done
      | inr told ↦ inr (told.0, told.1, told.2, subst (λ world. WhyNotShown world c.args.path.now c.args.file.now told.0) c.in-Ok.ensures.pending told.3, told.5)
    ]

pub returns-in-Ok-clause-front : goal.returns-in-Ok-clause-front
returns-in-Ok-clause-front g c = λ three.
    elim (c.show_to.ensures.front three) [
      | inl kept ↦ inl kept
      | inr shown ↦ inr (shown.0, subst (λ world. Finds world c.args.path.now c.args.file.now (Ok shown.0)) c.in-Ok.ensures.pending shown.1, shown.2)
    ]
