-- What a reader gives, from what its clauses say.
use Rattle.std.proofs.Common.{◌≡◌, ℕ, List, Result, Ok, Err, IfOk, IfErr, ap}
use Rattle.std.specs.Result.{IsErrOf}
use Rattle.cg_name.specs.Reads.{Reads}
use Rattle.cg_name.specs.declared.refusal.Refusal.{Refusal}
use Rattle.cg_name.specs.declared.refusal.Refusal.TheVariants.{Syntax}

pub reads : {A : Type 0} (Spells : List ℕ → A → Type 0) (text : List ℕ) (r : Result A Refusal) → IfOk r (Spells text) → (IsErrOf r Syntax → (x : A) → Spells text x → ⊥) → IfErr r (λ e. e ≡ Syntax) → Reads Spells text r
reads Spells text (Ok x) found none syntax = found
reads Spells text (Err e) found none syntax = (syntax, none (ap (λ d. Err d) syntax))
