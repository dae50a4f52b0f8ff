-- Steps back to a savepoint.
use Rattle.std.proofs.Common.{◌≡◌, Bool, true, false, cond, ◌||◌, List, [], ◌∷◌, Option, Some, None, is_some, refl, sym, ap, ◌∙◌}
use Rattle.std.proofs.lemmas.Bool.{false≢true}
use Rattle.cg_name.specs.Name.{Name, same_name}
use Rattle.cg_txn.specs.Laws.{LastStep, StepTakes, below, commands_above}
use Rattle.cg_txn.specs.Stack.{StackItem, Command, Savepoint, has_savepoint, next_back}

abbrev Step : Type 0
Step = Option StackItem × List StackItem

-- what is inside
abbrev taken_or : StackItem → Option StackItem → StackItem
taken_or d None = d
taken_or d (Some c) = c

same_taken : (c d : StackItem) (l m : List StackItem) → ◌≡◌ {A = Step} (Some c, l) (Some d, m) → c ≡ d
same_taken c d l m e = ap (λ (s : Step). taken_or c s.0) e

same_left : (r q : Option StackItem) (l m : List StackItem) → ◌≡◌ {A = Step} (r, l) (q, m) → l ≡ m
same_left r q l m e = ap (λ (s : Step). s.1) e

-- a step takes a command or none
not_both : (c : StackItem) (l m : List StackItem) → ◌≡◌ {A = Step} (None, l) (Some c, m) → false ≡ true
not_both c l m e = ap (λ (s : Step). is_some s.0) e

-- ---- a step that takes a command

abbrev Takes : Name → List StackItem → List StackItem → StackItem → Type 0
Takes n l m c = (commands_above n l ≡ c ∷ commands_above n m) × (below n m ≡ below n l) × (has_savepoint n m ≡ true)

past : (b : Bool) (n : Name) (l m : List StackItem) (c : StackItem) → b || has_savepoint n l ≡ true → cond b (None, l) (next_back n l) ≡ (Some c, m) → (has_savepoint n l ≡ true → next_back n l ≡ (Some c, m) → Takes n l m c)
    → (cond b [] (commands_above n l) ≡ c ∷ commands_above n m) × (below n m ≡ cond b l (below n l)) × (has_savepoint n m ≡ true)
past true n l m c there to rest = absurd (false≢true (not_both c l m to))
past false n l m c there to rest = rest there to

pub step_takes : StepTakes
step_takes n [] m c there to = absurd (false≢true there)
step_takes n (Command k d f ∷ l) m c there to =
    let left : l ≡ m = same_left (Some (Command k d f)) (Some c) l m to in
    let taken : Command k d f ≡ c = same_taken (Command k d f) c l m to in
    (λ i. taken i ∷ commands_above n (left i), sym (ap (below n) left), sym (ap (has_savepoint n) left) ∙ there)
step_takes n (Savepoint k ∷ l) m c there to = past (same_name k n) n l m c there to (step_takes n l m c)

-- ---- a step that takes none

ends : (b : Bool) (n : Name) (l m : List StackItem) → b || has_savepoint n l ≡ true → cond b (None, l) (next_back n l) ≡ (None, m) → (has_savepoint n l ≡ true → next_back n l ≡ (None, m) → (commands_above n l ≡ []) × (m ≡ below n l))
    → (cond b [] (commands_above n l) ≡ []) × (m ≡ cond b l (below n l))
ends true n l m there to rest = (refl, sym (same_left None None l m to))
ends false n l m there to rest = rest there to

pub last_step : LastStep
last_step n [] m there to = absurd (false≢true there)
last_step n (Command k d f ∷ l) m there to = absurd (false≢true (not_both (Command k d f) m l (sym to)))
last_step n (Savepoint k ∷ l) m there to = ends (same_name k n) n l m there to (last_step n l m)
