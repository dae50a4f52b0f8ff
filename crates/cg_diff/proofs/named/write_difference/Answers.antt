use Rattle.std.proofs.Common.{◌≡◌, [], refl, sym, subst, ◌∙◌}
use Rattle.cg_diff.specs.DifferenceOf.{HoldsOfNamed, IsTold}
use Rattle.cg_diff.proofs.TwoWorlds.{differ_named, no_bytes, same_named, some_bytes}
use Rattle.cg_diff.proofs.named.write_difference.Goals as goal

pub returns-then-is_empty-clause-same : goal.returns-then-is_empty-clause-same
returns-then-is_empty-clause-same g c = λ _.
    let none : c.in_ok-text.text.items ≡ [] = sym c.as_slice-bytes.ensures.value ∙ no_bytes c.as_slice-bytes.result.now (sym c.is_empty.ensures ∙ c.if-is_empty.true) in
    (same_named (g.P.Inputs.standard c.args.inputs.now) (g.P.Inputs.file c.args.inputs.now) c.args.before.now c.args.after.now c.in_ok-text.text.items none c.in_ok-text.ensures.value, refl)

pub returns-in-Ok-clause-different : goal.returns-in-Ok-clause-different
returns-in-Ok-clause-different g c = λ _.
    let told = c.as_slice-bytes.result.now in (
      told,
      differ_named (g.P.Inputs.standard c.args.inputs.now) (g.P.Inputs.file c.args.inputs.now) c.args.before.now c.args.after.now told
          (some_bytes told (sym c.is_empty.ensures ∙ c.if-is_empty.false)) (subst (λ text. HoldsOfNamed (IsTold text) (g.P.Inputs.standard c.args.inputs.now) (g.P.Inputs.file c.args.inputs.now) c.args.before.now c.args.after.now) (sym c.as_slice-bytes.ensures.value) c.in_ok-text.ensures.value),
      c.in-Ok.ensures.bytes,
    )

pub returns-clause-front : goal.returns-clause-front
returns-clause-front g c = λ _.
    let told = c.as_slice-bytes.result.now in (
      told,
      differ_named (g.P.Inputs.standard c.args.inputs.now) (g.P.Inputs.file c.args.inputs.now) c.args.before.now c.args.after.now told
          (some_bytes told (sym c.is_empty.ensures ∙ c.if-is_empty.false)) (subst (λ text. HoldsOfNamed (IsTold text) (g.P.Inputs.standard c.args.inputs.now) (g.P.Inputs.file c.args.inputs.now) c.args.before.now c.args.after.now) (sym c.as_slice-bytes.ensures.value) c.in_ok-text.ensures.value),
      c.in-Err.ensures.bytes,
    )
