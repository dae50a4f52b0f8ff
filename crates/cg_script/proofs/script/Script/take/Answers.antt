-- Neither request may stand in a script.
use Rattle.std.proofs.Common.{◌≡◌, ◌∷◌, ◌++◌, sym, subst}
use Rattle.cg_history.specs.Meaning.{request_of}
use Rattle.cg_model.specs.History.{Begin, Commit, Abort}
use Rattle.cg_model.specs.Cgroups.{cgroups}
use Rattle.cg_model.specs.History as model
use Rattle.cg_script.specs.ScriptLines.{IsNoScript, asked_by}
use Rattle.cg_script.proofs.Scripts.{no_end}
use Rattle.cg_script.proofs.script.Script.take.Goals as goal

begin_abort : ◌≡◌ {A = model.Request cgroups} Begin Abort → ⊥
begin_abort e = cc

commit_abort : ◌≡◌ {A = model.Request cgroups} Commit Abort → ⊥
commit_abort e = cc

pub returns-in-Begin-clause-syntax : goal.returns-in-Begin-clause-syntax
returns-in-Begin-clause-syntax c = λ _ others.
    let asked = asked_by c.args.self.now in
    subst (λ r. IsNoScript (asked ++ request_of r ∷ others)) (sym c.in-Begin.is) (no_end asked Begin others (λ h. h) begin_abort)

pub returns-in-Commit-clause-syntax : goal.returns-in-Commit-clause-syntax
returns-in-Commit-clause-syntax c = λ _ others.
    let asked = asked_by c.args.self.now in
    subst (λ r. IsNoScript (asked ++ request_of r ∷ others)) (sym c.in-Commit.is) (no_end asked Commit others (λ h. h) commit_abort)
