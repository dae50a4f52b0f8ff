-- Requests that are accepted, one after another.
use Rattle.std.proofs.Common.{◌≡◌, false, List, [], ◌∷◌, length, refl, subst, arith}
use Rattle.cg_core.specs.Answers.{is_memory}
use Rattle.cg_core.specs.State.{CoreState, machine}
use Rattle.cg_history.specs.Meaning.{answer_of}
use Rattle.cg_history.specs.declared.record.Answer.{Answer}
use Rattle.cg_history.specs.declared.record.Answer.TheVariants as answers
use Rattle.cg_model.specs.Cgroups.{cgroups}
use Rattle.cg_model.specs.History.{Request, Begin}
use Rattle.cg_model.specs.Machine.{Machine, opened}
use Rattle.cg_model.specs.Tree.{Tree}
use Rattle.cg_name.specs.declared.refusal.Refusal.{Refusal}
use Rattle.cg_plan.specs.Leads.{Accepts, AcceptsAll, IsAccepted}

-- what isn't refused is accepted, and there was memory for it
pub not_refused : (a : Answer) → ((r : Refusal) → a ≡ answers.Refused r → ⊥) → IsAccepted (answer_of a) × (is_memory a ≡ false)
not_refused (answers.Begun t) other = (tt, refl)
not_refused answers.Done other = (tt, refl)
not_refused (answers.Text x) other = (tt, refl)
not_refused answers.Saved other = (tt, refl)
not_refused (answers.Back n) other = (tt, refl)
not_refused (answers.Committed k) other = (tt, refl)
not_refused (answers.Aborted t) other = (tt, refl)
not_refused (answers.Refused r) other = absurd (other r refl)

-- a core that was just opened accepts the first request
pub begun : (A O : Tree) (core : CoreState) (n end : Machine cgroups) (rs : List (Request cgroups))
    → A ≡ O → core ≡ record { opening = A; bound = 1048576; history = [] }
    → Accepts (machine core) Begin n → AcceptsAll n rs end → AcceptsAll (opened cgroups O 1048576) (Begin ∷ rs) end
begun A O core n end rs same is first others = (n, subst (λ T. Accepts (opened cgroups T 1048576) Begin n) same (subst (λ c. Accepts (machine c) Begin n) is first), others)

pub none_left : {X : Type 0} (xs : List X) → length xs ≡ 0 → xs ≡ []
none_left [] e = refl
none_left (x ∷ xs) e = absurd (omega (arith, e))
