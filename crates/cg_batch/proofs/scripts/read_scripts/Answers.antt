use Rattle.std.proofs.Common.{◌+◌, ◌∙◌, ap, arith, take, subst, sym}
use Rattle.std.proofs.lemmas.List.{take_all}
use Rattle.std.specs.List.{AllZip}
use Rattle.cg_script.specs.ScriptOf.{SpellsAs}
use Rattle.cg_runner.proofs.Zipping.{zip_more}
use Rattle.cg_batch.proofs.BatchLemmas.{zip_map}
use Rattle.cg_batch.proofs.scripts.read_scripts.Goals as goal

pub loop-text-preserved : goal.loop-text-preserved
loop-text-preserved c = (
  c.in_ok-push.ensures.len ∙ ap (λ n. n + 1) c.loop-text.invariant.0,
  subst
      (λ scripts. AllZip (λ t s. SpellsAs t.items s) (take (c.loop-text.text-index + 1) c.args.texts.now) scripts)
      (sym c.in_ok-push.ensures.items)
      (zip_more (λ t s. SpellsAs t.items s) c.args.texts.now c.loop-text.scripts.items c.loop-text.text-index c.text-item.result
      c.in_ok-script.script (omega arith) c.text-item.is c.loop-text.invariant.1
      (subst (λ t. SpellsAs t c.in_ok-script.script) c.as_slice.ensures.value c.in_ok-script.ensures.value)),
)

pub returns-clause-value : goal.returns-clause-value
returns-clause-value c =
    zip_map SpellsAs (λ t. t.items) c.args.texts.now c.loop-text.scripts.items
    (subst (λ texts. AllZip (λ t s. SpellsAs t.items s) texts c.loop-text.scripts.items) (take_all c.loop-text.text-index c.args.texts.now c.loop-text-test.false) c.loop-text.invariant.1)
