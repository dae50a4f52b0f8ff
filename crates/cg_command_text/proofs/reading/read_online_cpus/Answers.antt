-- A list spells the set that was read, and no other.
use Rattle.std.proofs.Common.{◌≡◌, false, List, ℕ, Result, Ok, Err, OnErr, ap, sym, subst, ◌∙◌, true≢false}
use Rattle.cg_maps.specs.FiniteSet.{FiniteSet, is_empty_set}
use Rattle.cg_name.specs.declared.refusal.Refusal.{Refusal}
use Rattle.cg_cpus.specs.CpuList.{SpellsCpus}
use Rattle.cg_cpus.proofs.Grammar.{one_set}
use Rattle.cg_command.specs.OnlineCpus.{TellsOnline}
use Rattle.cg_command.specs.declared.online_cpus.OnlineCpus.{OnlineCpus}
use Rattle.cg_command_text.proofs.reading.read_online_cpus.Goals as goal

none_spelled : (list : List ℕ) (cpus : FiniteSet) (r : Result OnlineCpus Refusal) → SpellsCpus list cpus → TellsOnline cpus r → OnErr r ((s : FiniteSet) → SpellsCpus list s → is_empty_set s ≡ false → ⊥)
none_spelled list cpus (Ok o) h t = tt
none_spelled list cpus (Err e) h t = λ s k some. true≢false (sym (ap is_empty_set (one_set list s cpus k h) ∙ t.1) ∙ some)

pub returns-clause-syntax : goal.returns-clause-syntax
returns-clause-syntax c = λ e.
    subst (λ r. OnErr r ((s : FiniteSet) → SpellsCpus c.args.list.now s → is_empty_set s ≡ false → ⊥)) e
    (none_spelled c.args.list.now c.in_ok-cpus.cpus c.try_from.result c.in_ok-cpus.ensures.value (subst (λ b. TellsOnline b c.try_from.result) c.in_ok-new.ensures.value c.try_from.ensures))
