-- Lists of stack entries that stand, the newest first: what it is to run, to be apart, and to give the same state.
use Rattle.std.specs.Prelude.{◌≡◌, ℕ, Bool, true, false, List, [], ◌∷◌, ◌++◌, ◌==◌}
use Rattle.cg_model.specs.System.{System, Accept}
use Rattle.cg_model.specs.Live.{joined_if}
use Rattle.cg_model.specs.Machine.{StackEntry, Did, Savepoint}

-- the transaction of a stack entry
abbrev pub owner : {y : System} → StackEntry y → ℕ
owner (Did t th c a d f) = t
owner (Savepoint t th n) = t

-- a proper command is accepted in the state with this outcome, this change and this footprint
abbrev pub Accepts : (y : System) → y.State → StackEntry y → Type 0
Accepts y s (Did t th c a d f) = y.Proper c × (y.effect c s ≡ Accept a d) × (y.footprint c s ≡ f)
Accepts y s (Savepoint t th n) = Unit {0}

-- the state after a stack entry
abbrev pub moved : (y : System) → StackEntry y → y.State → y.State
moved y (Did t th c a d f) s = y.done d s
moved y (Savepoint t th n) s = s

-- their footprints do not clash
abbrev pub Free : (y : System) → StackEntry y → StackEntry y → Type 0
Free y (Did t th c a d f) (Did u uh c' a' d' g) = y.clashes f g ≡ false
Free y (Did t th c a d f) (Savepoint u uh n) = Unit {0}
Free y (Savepoint t th n) (Did u uh c' a' d' g) = Unit {0}
Free y (Savepoint t th n) (Savepoint u uh m) = Unit {0}

abbrev pub FreeOf : (y : System) → StackEntry y → List (StackEntry y) → Type 0
FreeOf y x [] = Unit {0}
FreeOf y x (z ∷ a) = Free y x z × FreeOf y x a

-- the state after the stack entries, the newest first, from the opening state
abbrev pub state : (y : System) → y.State → List (StackEntry y) → y.State
state y o [] = o
state y o (x ∷ a) = moved y x (state y o a)

-- each is accepted in its turn, with its answer, its change and its footprint
abbrev pub Runs : (y : System) → y.State → List (StackEntry y) → Type 0
Runs y o [] = Unit {0}
Runs y o (x ∷ a) = Accepts y (state y o a) x × Runs y o a

-- the stack entries of the transactions that pass
abbrev pub keep : {y : System} → (ℕ → Bool) → List (StackEntry y) → List (StackEntry y)
keep p [] = []
keep p (x ∷ a) = joined_if (p (owner x)) x (keep p a)

abbrev pub only : {y : System} → ℕ → List (StackEntry y) → List (StackEntry y)
only t a = keep (λ u. u == t) a

-- without the newest stack entry of t
abbrev pub skip : {E : Type 0} → Bool → E → List E → List E → List E
skip true x a r = a
skip false x a r = x ∷ r

abbrev pub cut : {y : System} → ℕ → List (StackEntry y) → List (StackEntry y)
cut t [] = []
cut t (x ∷ a) = skip (owner x == t) x a (cut t a)

-- no stack entry clashes with an older one of t, where it is not of t
abbrev pub Apart : (y : System) → ℕ → List (StackEntry y) → Type 0
Apart y t [] = Unit {0}
Apart y t (x ∷ a) = ((owner x == t) ≡ false → FreeOf y x (only t a)) × Apart y t a

-- where the one runs, the other runs too, to the same state
pub record Same (y : System) (o : y.State) (a b : List (StackEntry y)) : Type 0 where
  pub by : Runs y o a → Runs y o b × (state y o b ≡ state y o a)

-- the stack entries of these transactions, one transaction after another, the first of them newest, above those below
abbrev pub blocks : {y : System} → List ℕ → List (StackEntry y) → List (StackEntry y) → List (StackEntry y)
blocks [] a below = below
blocks (t ∷ os) a below = only t a ++ blocks os a below

-- the footprint clashes with none of theirs
abbrev pub Clear : (y : System) → y.Footprint → List (StackEntry y) → Type 0
Clear y f [] = Unit {0}
Clear y f (Did t th c a d g ∷ l) = (y.clashes g f ≡ false) × Clear y f l
Clear y f (Savepoint t th n ∷ l) = Clear y f l

abbrev pub Passes : {y : System} → (ℕ → Bool) → List (StackEntry y) → Type 0
Passes p [] = Unit {0}
Passes p (x ∷ a) = (p (owner x) ≡ true) × Passes p a

abbrev pub PassAlike : {y : System} → (ℕ → Bool) → (ℕ → Bool) → List (StackEntry y) → Type 0
PassAlike p q [] = Unit {0}
PassAlike p q (x ∷ a) = (p (owner x) ≡ q (owner x)) × PassAlike p q a
