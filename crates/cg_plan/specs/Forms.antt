-- Plans in each form.
use Rattle.std.specs.Prelude.{ℕ, List}
use Rattle.cg_model.specs.Tree.{Tree}
use Rattle.cg_plan.specs.Leads.{Leads}
use Rattle.cg_plan.specs.PlanValue.{LeadsAsJson}
use Rattle.cg_plan.specs.Shell.{LeadsInShell}
use Rattle.cg_plan.specs.declared.form.PlanForm.{PlanForm}
use Rattle.cg_plan.specs.declared.form.PlanForm.TheVariants.{Json, Script, Shell}

-- the text leads from the one tree to the other, in the form that is asked for
abbrev pub LeadsAs : PlanForm → List ℕ → Tree → Tree → Type 0
LeadsAs Script text A B = Leads text A B
LeadsAs (Shell root) text A B = LeadsInShell root.now text A B
LeadsAs Json text A B = LeadsAsJson text A B
